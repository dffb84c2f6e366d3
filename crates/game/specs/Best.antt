-- The choice as a computation: one walk over the moves that keeps the best target so far.
use Rattle.std.specs.Prelude.{ℕ, cond, ◌&&◌, ◌||◌, List, [], ◌∷◌, ltb}
use Rattle.game.specs.Value.{Value, fin, ever, value_lt, value_eq}
use Rattle.game.specs.Arena.{Arena, Move, Owner, controller, environment, nobody, owner_at}
use Rattle.game.specs.Table.{meant_from}

-- the better of the best so far (a dash before the first) and w: of greater value, or the lower number among equals
unfoldable pub better : (ℕ → Value) → Value → ℕ → Value
better value ever w = fin w
better value (fin u) w = cond (value_lt (value u) (value w) || (value_eq (value u) (value w) && ltb w u)) (fin w) (fin u)

-- the best of the meant targets of v in these moves, and of what was best before them
unfoldable pub best_in : (ℕ → Value) → ℕ → Value → List Move → Value
best_in value v best [] = best
best_in value v best (m ∷ ms) = best_in value v (cond (meant_from v m) (better value best m.to) best) ms

unfoldable pub best_as : Owner → Arena → (ℕ → Value) → ℕ → Value
best_as controller a value v = best_in value v ever a.moves
best_as environment a value v = ever
best_as nobody a value v = ever

-- the choice at v
unfoldable pub best_at : Arena → (ℕ → Value) → ℕ → Value
best_at a value v = best_as (owner_at a v) a value v
