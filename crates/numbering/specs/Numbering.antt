-- The numbering of small charts (document 02, order 9): "all charts of 1 to 3 positions, letters O, L, M and D only". "Position 0 is the
-- leading digit. Within a position O comes before L, then the mark, then the meant set, then the disturbance set; a set counts 2 to the i
-- for each target i."
use Rattle.std.specs.Prelude.{ℕ, zero, suc, ◌+◌, ◌-◌, ◌*◌, ◌^◌, ◌≤◌, ◌<◌, ◌≡◌, Bool, true, false, ◌&&◌, eqb}
use Rattle.search.specs.Below.{bit}
use Rattle.game.specs.Arena.{Arena, Move, Owner, controller, environment, nobody, size, owner_at, position_at}
use Rattle.game.specs.Table.{some_move}
use Rattle.chart.specs.Meaning.{Chartable}

-- "a set counts 2 to the i for each target i": the set of the targets below k that pass the test
unfoldable pub set_number : (ℕ → Bool) → ℕ → ℕ
set_number p zero = 0
set_number p (suc i) = set_number p i + bit (p i) * 2 ^ i

-- how many digits an O has where there are t sets of targets: 2 marks, t - 1 meant sets, which are never empty, t disturbance sets
unfoldable pub console_digits : ℕ → ℕ
console_digits t = 2 * (t - 1) * t

-- the digit of a position: "O comes before L, then the mark, then the meant set, then the disturbance set", which an L has not; the place
-- of a meant set is one less than its number
unfoldable pub digit : (t : ℕ) (lane : Bool) (mark meant disturbances : ℕ) → ℕ
digit t false mark meant disturbances = (mark * (t - 1) + (meant - 1)) * t + disturbances
digit t true mark meant disturbances = console_digits t + (mark * (t - 1) + (meant - 1))

-- how many digits there are: those of O, and 2 (t - 1) for L
unfoldable pub digits : ℕ → ℕ
digits t = console_digits t + 2 * (t - 1)

-- the number of k digits, the first of them leading
unfoldable pub numeral : (base : ℕ) → (ℕ → ℕ) → ℕ → ℕ
numeral base f zero = 0
numeral base f (suc i) = numeral base f i * base + f i

-- what is read off an arena: whether the lane chooses at a position, and whether a move of this cost joins v and w
unfoldable pub is_lane : Owner → Bool
is_lane controller = false
is_lane environment = true
is_lane nobody = false

unfoldable pub is_move : (cost v w : ℕ) → Move → Bool
is_move cost v w m = eqb m.cost cost && (eqb m.from v && eqb m.to w)

unfoldable pub joins : Arena → (cost v w : ℕ) → Bool
joins a cost v w = some_move (is_move cost v w) a.moves

-- the set of v's meant targets (cost 0), and that of its disturbances' targets (cost 1)
abbrev pub target_set : Arena → (cost v : ℕ) → ℕ
target_set a cost v = set_number (joins a cost v) (size a)

unfoldable pub digit_at : Arena → ℕ → ℕ
digit_at a v = digit (2 ^ size a) (is_lane (owner_at a v)) (position_at a v).mark (target_set a 0 v) (target_set a 1 v)

-- the index of an arena: "Position 0 is the leading digit"
unfoldable pub index_of : Arena → ℕ
index_of a = numeral (digits (2 ^ size a)) (digit_at a) (size a)

-- how many charts of n positions there are
unfoldable pub chart_count : ℕ → ℕ
chart_count n = digits (2 ^ n) ^ n

-- an arena of the sort that is numbered: one that has a chart, "of 1 to 3 positions, letters O, L, M and D only"
pub record Small (a : Arena) : Type 0 where
  pub chartable : Chartable a
  pub few : size a ≤ 3
  pub without-rest : (v : ℕ) → v < size a → owner_at a v ≡ nobody → ⊥
