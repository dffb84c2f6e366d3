-- A chart held as squares: owners and marks, and for each pair of positions whether a meant move joins it and whether a disturbance does
-- ("A generated chart is held as a square of yes and no for meant moves and another for disturbances"); its arena; and the squares of an
-- index, digit by digit. That these undo the numbering is shown in proofs/EverySmall.antt.
use Rattle.std.specs.Prelude.{ℕ, zero, suc, ◌+◌, ◌-◌, ◌/◌, ◌%◌, ◌^◌, Bool, cond, not, List, [], ◌∷◌, ◌++◌, eqb, ltb}
use Rattle.search.specs.Below.{bit}
use Rattle.line.specs.Joined.{joined, on_lines}
use Rattle.game.specs.Arena.{Arena, Position, Move, Owner, controller, environment}
use Rattle.chart.specs.Meaning.{chart_line}
use Rattle.numbering.specs.Numbering.{console_digits, digits}

-- whether the lane chooses at a position, its mark, and the two squares: from, then to
pub record Squares : Type 0 where
  pub lane : ℕ → Bool
  pub mark : ℕ → ℕ
  pub meant : ℕ → ℕ → Bool
  pub disturbances : ℕ → ℕ → Bool

-- the moves of this cost from v to the targets below k that pass the test, by target
unfoldable pub moves_to : (cost v : ℕ) → (ℕ → Bool) → ℕ → List Move
moves_to cost v p zero = []
moves_to cost v p (suc w) = moves_to cost v p w ++ cond (p w) (record { cost = cost; from = v; to = w } ∷ []) []

-- of n positions, the moves of v: meant ones, then disturbances
unfoldable pub moves_from : Squares → (n v : ℕ) → List Move
moves_from s n v = moves_to 0 v (s.meant v) n ++ moves_to 1 v (s.disturbances v) n

unfoldable pub moves_of : Squares → ℕ → List Move
moves_of s n = joined (moves_from s n) n

abbrev pub owner_by : Bool → Owner
owner_by lane = cond lane environment controller

abbrev pub position_of : Squares → ℕ → Position
position_of s v = record { owner = owner_by (s.lane v); mark = s.mark v }

-- the arena of n positions
unfoldable pub square_arena : Squares → ℕ → Arena
square_arena s n = record { positions = on_lines (position_of s) n 0; moves = moves_of s n }

-- a line for each target below n that passes the test, by target
abbrev pub target_lines : (letter from : ℕ) → (ℕ → Bool) → ℕ → List ℕ
target_lines letter from p n = joined (λ w. cond (p w) (chart_line letter from w) []) n

-- The squares of an index

-- the digit of position v in a number of k digits: the last is what the base leaves, and the others are those of the rest
unfoldable pub digit_of : (base i k v : ℕ) → ℕ
digit_of base i zero v = 0
digit_of base i (suc k) v = cond (eqb v k) (i % base) (digit_of base (i / base) k v)

-- what a digit says, where there are t sets of targets: past the digits of O it is of L
unfoldable pub lane_in : (t d : ℕ) → Bool
lane_in t d = not (ltb d (console_digits t))

-- mark and meant set together: the digit without its disturbances, or without those of O
unfoldable pub rest_in : (t d : ℕ) → ℕ
rest_in t d = cond (lane_in t d) (d - console_digits t) (d / t)

unfoldable pub mark_in : (t d : ℕ) → ℕ
mark_in t d = bit (not (ltb (rest_in t d) (t - 1)))

unfoldable pub meant_in : (t d : ℕ) → ℕ
meant_in t d = cond (ltb (rest_in t d) (t - 1)) (rest_in t d + 1) (rest_in t d - (t - 1) + 1)

unfoldable pub disturbances_in : (t d : ℕ) → ℕ
disturbances_in t d = cond (lane_in t d) 0 (d % t)

-- the set of its meant targets (cost 0) or of its disturbances' (cost 1)
abbrev pub set_in : (cost t d : ℕ) → ℕ
set_in cost t d = cond (eqb cost 0) (meant_in t d) (disturbances_in t d)

-- target w is in the set of this number
unfoldable pub in_set : (set w : ℕ) → Bool
in_set set zero = eqb (set % 2) 1
in_set set (suc w) = in_set (set / 2) w

unfoldable pub squares_of : (n i : ℕ) → Squares
squares_of n i = record {
  lane = λ v. lane_in (2 ^ n) (digit_of (digits (2 ^ n)) i n v);
  mark = λ v. mark_in (2 ^ n) (digit_of (digits (2 ^ n)) i n v);
  meant = λ v. in_set (meant_in (2 ^ n) (digit_of (digits (2 ^ n)) i n v));
  disturbances = λ v. in_set (disturbances_in (2 ^ n) (digit_of (digits (2 ^ n)) i n v));
}

-- the chart of an index
unfoldable pub small_arena : (n i : ℕ) → Arena
small_arena n i = square_arena (squares_of n i) n
