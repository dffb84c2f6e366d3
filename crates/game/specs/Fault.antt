-- Conditions 1 to 5 as a computation: the first that fails at a position.
use Rattle.std.specs.Prelude.{ℕ, Bool, true, false, cond, ◌&&◌, ◌||◌, not}
use Rattle.game.specs.Value.{Value, fin, ever, value_le, value_lt, value_eq, ◌⊕◌}
use Rattle.game.specs.Arena.{Arena, Owner, controller, environment, nobody, owner_at, unsafe}
use Rattle.game.specs.Play.{disturbance_cost, target_of}
use Rattle.game.specs.Table.{some_move, every_move, meant_from, disturbance_from}

module _ (a : Arena) (value choice step : ℕ → Value) where
  unfoldable pub earlier : ℕ → ℕ → Bool
  earlier w v = value_lt (value w) (value v) || (value_eq (value w) (value v) && value_lt (step w) (step v))

  -- condition 1
  unfoldable pub unsafe_zero : ℕ → Bool
  unsafe_zero v = not (unsafe a v) || value_eq (value v) (fin 0)

  -- condition 2
  unfoldable pub dashed : ℕ → Bool
  dashed v = cond (value_eq (value v) ever) (value_eq (step v) ever) (not (value_eq (step v) ever))

  -- condition 3
  unfoldable pub legal_as : Owner → ℕ → Bool
  legal_as controller v = some_move (λ m. meant_from v m && value_eq (choice v) (fin m.to)) a.moves
  legal_as environment v = value_eq (choice v) ever
  legal_as nobody v = value_eq (choice v) ever

  -- condition 4, where 3 holds
  unfoldable pub meant_hold : Owner → ℕ → Bool
  meant_hold controller v = value_le (value v) (value (target_of (choice v)))
  meant_hold environment v = every_move (λ m. not (meant_from v m) || value_le (value v) (value m.to)) a.moves
  meant_hold nobody v = true

  unfoldable pub disturbances_hold : ℕ → Bool
  disturbances_hold v = every_move (λ m. not (disturbance_from v m) || value_le (value v) (value m.to ⊕ disturbance_cost a v m.to)) a.moves

  unfoldable pub holds : ℕ → Bool
  holds v = meant_hold (owner_at a v) v && disturbances_hold v

  -- condition 5
  unfoldable pub meant_ruin : Owner → ℕ → Bool
  meant_ruin controller v = every_move (λ m. not (meant_from v m) || earlier m.to v) a.moves
  meant_ruin environment v = some_move (λ m. meant_from v m && earlier m.to v) a.moves
  meant_ruin nobody v = false

  unfoldable pub disturbance_ruins : ℕ → Bool
  disturbance_ruins v = some_move (λ m. disturbance_from v m && value_le (value m.to ⊕ disturbance_cost a v m.to) (value v)) a.moves

  unfoldable pub ruined : ℕ → Bool
  ruined v = unsafe a v || value_eq (value v) ever || (disturbance_ruins v || meant_ruin (owner_at a v) v)

  -- the first condition that fails at v, 0 if none does
  unfoldable pub fault_at : ℕ → ℕ
  fault_at v =
      cond (not (unsafe_zero v)) 1
      (cond (not (dashed v)) 2
      (cond (not (legal_as (owner_at a v) v)) 3
      (cond (not (holds v)) 4
      (cond (not (ruined v)) 5 0))))
