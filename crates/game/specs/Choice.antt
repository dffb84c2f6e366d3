-- "The choice at O is the meant target of greatest value, the lowest number among equals"; at L and at R it is the dash.
use Rattle.std.specs.Prelude.{ℕ, ◌≤◌, ◌≡◌}
use Rattle.game.specs.Value.{Value, fin, ever, ◌≼◌}
use Rattle.game.specs.Arena.{Arena, Owner, controller, environment, nobody, owner_at, Meant}

-- w is that target of v
pub record IsBest (a : Arena) (value : ℕ → Value) (v w : ℕ) : Type 0 where
  pub target : Meant a v w
  pub greatest : (u : ℕ) → Meant a v u → value u ≼ value w
  pub lowest : (u : ℕ) → Meant a v u → value u ≡ value w → w ≤ u

abbrev pub IsChoiceAs : Owner → Arena → (ℕ → Value) → ℕ → Value → Type 0
IsChoiceAs controller a value v x = (w : ℕ) × (x ≡ fin w) × IsBest a value v w
IsChoiceAs environment a value v x = x ≡ ever
IsChoiceAs nobody a value v x = x ≡ ever

abbrev pub IsChoice : Arena → (ℕ → Value) → ℕ → Value → Type 0
IsChoice a value v x = IsChoiceAs (owner_at a v) a value v x
