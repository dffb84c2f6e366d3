-- Conditions 1 to 5 by their numbers, and the first that fails at a position ("The first fault is the answer .. and in each the conditions in order").
use Rattle.std.specs.Prelude.{ℕ, zero, suc, ◌<◌, List, [], ◌∷◌, get_or}
use Rattle.game.specs.Value.{Value}
use Rattle.game.specs.Arena.{Arena}
use Rattle.game.specs.Play.{LegalAt}
use Rattle.game.specs.Certificate.{UnsafeZeroAt, DashAt, HoldingAt, RuinAt}

module _ (a : Arena) (value choice step : ℕ → Value) where
  -- 1 to 5; 0 asks nothing
  abbrev pub conditions : ℕ → List (Type 0)
  conditions v =
      Unit {0}
      ∷ UnsafeZeroAt a value choice step v
      ∷ DashAt a value choice step v
      ∷ LegalAt a choice v
      ∷ HoldingAt a value choice step v
      ∷ RuinAt a value choice step v
      ∷ []

  abbrev pub Condition : ℕ → ℕ → Type 0
  Condition i v = get_or (conditions v) i (Unit {0})

  -- i is the first that fails at v, 0 if none does
  abbrev pub FirstFault : ℕ → ℕ → Type 0
  FirstFault zero v = (j : ℕ) → Condition j v
  FirstFault (suc i) v = ((j : ℕ) → j < suc i → Condition j v) × (¬ (Condition (suc i) v))
