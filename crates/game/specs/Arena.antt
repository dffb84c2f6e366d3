-- The arena that a chart means (document 01, "The chart"): positions, each with an owner and a mark, and moves.
-- These are data; when an arena is well-formed is said at the end.
use Rattle.std.specs.Prelude.{ℕ, suc, ◌<◌, Bool, true, false, length, get_or, T, eqb}
use mathlib.Core.List.{List, Memᴰ}

-- who chooses the next move: the controller (`O`, the console), the environment (`L`, the lane: machine or bowler), or nobody (`R`, a
-- position of rest, where a cycle may end: document 02, order 4)
pub data Owner : Type 0 where
  controller : Owner
  environment : Owner
  nobody : Owner

-- mark 0 is safe, mark 1 unsafe
pub record Position : Type 0 where
  pub owner : Owner
  pub mark : ℕ

-- cost 0 is a meant move (`M`), any other cost a disturbance (`D`)
pub record Move : Type 0 where
  pub cost : ℕ
  pub from : ℕ
  pub to : ℕ

pub record Arena : Type 0 where
  pub positions : List Position
  pub moves : List Move

-- the count n of positions
abbrev pub size : Arena → ℕ
size a = length a.positions

-- what `position_at` gives for a number that is no position: not the controller's, and not unsafe
abbrev pub nowhere : Position
nowhere = record { owner = environment; mark = 0 }

abbrev pub position_at : Arena → ℕ → Position
position_at a v = get_or a.positions v nowhere

-- the move on the i-th move line, and what `move_at` gives past the last
abbrev pub no_move : Move
no_move = record { cost = 0; from = 0; to = 0 }

abbrev pub move_at : Arena → ℕ → Move
move_at a i = get_or a.moves i no_move

abbrev pub owner_at : Arena → ℕ → Owner
owner_at a v = (position_at a v).owner

abbrev pub unsafe : Arena → ℕ → Bool
unsafe a v = eqb (position_at a v).mark 1

-- `M from to` as a move, and `D from to` as one of this cost
abbrev pub meant_move : ℕ → ℕ → Move
meant_move v w = record { cost = 0; from = v; to = w }

abbrev pub disturbance_move : ℕ → ℕ → ℕ → Move
disturbance_move c v w = record { cost = c; from = v; to = w }

-- w is a meant target of v
abbrev pub Meant : Arena → ℕ → ℕ → Type 0
Meant a v w = Memᴰ (meant_move v w) a.moves

-- a disturbance leads from v to w: a move whose cost is not 0
abbrev pub Disturbance : Arena → ℕ → ℕ → Type 0
Disturbance a v w = (c : ℕ) × Memᴰ (disturbance_move (suc c) v w) a.moves

-- "Disturbances leave O positions only", and those of rest: R "may have disturbances"
abbrev pub may_be_disturbed : Owner → Bool
may_be_disturbed controller = true
may_be_disturbed environment = false
may_be_disturbed nobody = true

-- "letter `R` is a position without meant moves"; O and L have some
abbrev pub has_meant : Owner → Bool
has_meant controller = true
has_meant environment = true
has_meant nobody = false

-- What plays need of an arena: moves join positions, disturbances leave O and R only, each O and L position has a meant move, an R has none.
pub record WellFormed (a : Arena) : Type 0 where
  pub kind : (m : Move) → Memᴰ m a.moves → m.cost < 2
  pub from-position : (m : Move) → Memᴰ m a.moves → m.from < size a
  pub to-position : (m : Move) → Memᴰ m a.moves → m.to < size a
  pub disturbed : (v w : ℕ) → Disturbance a v w → T (may_be_disturbed (owner_at a v))
  pub resting : (v w : ℕ) → Meant a v w → T (has_meant (owner_at a v))
  pub meant : (v : ℕ) → v < size a → T (has_meant (owner_at a v)) → (w : ℕ) × Meant a v w
