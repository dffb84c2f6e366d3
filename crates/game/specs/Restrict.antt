-- The arena in which a row of choices leaves the controller no other move: a meant move of a position of its own stays
-- only where it is the choice. Everything else stays.
use Rattle.std.specs.Prelude.{ℕ, Bool, true, false, ◌&&◌, ◌||◌, not, eqb}
use Rattle.game.specs.Value.{Value, fin, value_eq}
use Rattle.game.specs.Arena.{Arena, Move, Owner, controller, environment, nobody, owner_at}
use Rattle.game.specs.Keep.{keep}

abbrev pub is_controller : Owner → Bool
is_controller controller = true
is_controller environment = false
is_controller nobody = false

-- the move stays
unfoldable pub stays : Arena → (ℕ → Value) → Move → Bool
stays a choice m = not (eqb m.cost 0 && is_controller (owner_at a m.from)) || value_eq (choice m.from) (fin m.to)

-- the arena with the moves that stay, in their order
unfoldable pub restricted : Arena → (ℕ → Value) → Arena
restricted a choice = record { positions = a.positions; moves = keep (stays a choice) a.moves }
