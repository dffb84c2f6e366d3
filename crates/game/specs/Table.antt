-- The rounds as a computation: a table of placements, one for each position, filled round by round. It is bounded, n
-- steps for each of n values; that this loses nothing is proved of it.
use Rattle.std.specs.Prelude.{ℕ, zero, suc, ◌+◌, Bool, true, false, cond, ◌&&◌, not, List, [], ◌∷◌, get_or, replicate, eqb}
use Rattle.std.specs.Bool.{beq}
use Rattle.game.specs.Value.{Value, fin, ever}
use Rattle.game.specs.Arena.{Arena, Move, Owner, controller, environment, nobody, size, owner_at, unsafe}

-- not placed, or placed in round (k, s)
pub data Placement : Type 0 where
  unplaced : Placement
  placed : ℕ → ℕ → Placement

abbrev pub Table : Type 0
Table = List Placement

abbrev pub placement_at : Table → ℕ → Placement
placement_at table v = get_or table v unplaced

unfoldable pub is_placed : Placement → Bool
is_placed unplaced = false
is_placed (placed k s) = true

-- placed with value k
unfoldable pub has_value : ℕ → Placement → Bool
has_value k unplaced = false
has_value k (placed j s) = eqb j k

-- some move passes the test; each does
unfoldable pub some_move : (Move → Bool) → List Move → Bool
some_move p [] = false
some_move p (m ∷ ms) = cond (p m) true (some_move p ms)

unfoldable pub every_move : (Move → Bool) → List Move → Bool
every_move p ms = not (some_move (λ m. not (p m)) ms)

-- a meant move of v; a disturbance of v
unfoldable pub meant_from : ℕ → Move → Bool
meant_from v m = eqb m.cost 0 && eqb m.from v

unfoldable pub disturbance_from : ℕ → Move → Bool
disturbance_from v m = not (eqb m.cost 0) && eqb m.from v

-- a move of this cost is of the kind that is sought: a meant move or a disturbance
abbrev pub of_kind : (meant : Bool) → ℕ → Bool
of_kind meant cost = beq (eqb cost 0) meant

-- "L positions with some meant target placed", "O positions with all meant targets placed", no R
unfoldable pub ready_as : Owner → Arena → Table → ℕ → Bool
ready_as controller a table v = not (some_move (λ m. meant_from v m && not (is_placed (placement_at table m.to))) a.moves)
ready_as environment a table v = some_move (λ m. meant_from v m && is_placed (placement_at table m.to)) a.moves
ready_as nobody a table v = false

unfoldable pub ready : Arena → Table → ℕ → Bool
ready a table v = ready_as (owner_at a v) a table v

-- the positions that round (k, 0) takes, if they are not placed
unfoldable pub begins : Arena → ℕ → Table → ℕ → Bool
begins a zero table v = unsafe a v
begins a (suc k) table v = some_move (λ m. disturbance_from v m && has_value k (placement_at table m.to)) a.moves

-- a round: the positions from v on that are not placed and pass the test are placed, by the table as it was
unfoldable pub place : (ℕ → Bool) → Placement → ℕ → Table → Table
place test p v [] = []
place test p v (x ∷ xs) = cond (not (is_placed x) && test v) p x ∷ place test p (v + 1) xs

-- the table after round (k, s), where `start` is the one before round (k, 0)
unfoldable pub table_after : Arena → Table → ℕ → ℕ → Table
table_after a start k zero = place (begins a k start) (placed k 0) 0 start
table_after a start k (suc s) = place (ready a (table_after a start k s)) (placed k (suc s)) 0 (table_after a start k s)

-- the table before round (k, 0)
unfoldable pub table_before : Arena → ℕ → Table
table_before a zero = replicate (size a) unplaced
table_before a (suc k) = table_after a (table_before a k) k (size a)

-- the table when all rounds are done
unfoldable pub table : Arena → Table
table a = table_before a (size a)

-- the value and the step of a placement
unfoldable pub placed_value : Placement → Value
placed_value unplaced = ever
placed_value (placed k s) = fin k

unfoldable pub placed_step : Placement → Value
placed_step unplaced = ever
placed_step (placed k s) = fin s

-- the rows of values and steps that the rounds give
unfoldable pub round_value : Arena → ℕ → Value
round_value a v = placed_value (placement_at (table a) v)

unfoldable pub round_step : Arena → ℕ → Value
round_step a v = placed_step (placement_at (table a) v)
