-- The lines of a chart that is held as squares: arrays of rows of yes and no, and rows of owners and marks.
use Rattle.std.specs.Prelude.{ℕ, zero, suc, ◌+◌, ◌*◌, ◌≡◌, Bool, false, cond, List, ◌++◌, get_or, eqb}
use Rattle.search.specs.Below.{count_below}
use Rattle.line.specs.Written.{Written}
use Rattle.chart.specs.Meaning.{chart_line}
use Rattle.numbering.specs.Squares.{target_lines}
use Rattle.squares.specs.Held.{cell}

-- the line of position v: `L` (76) where its owner is 1, else `O` (79)
unfoldable pub owner_byte : ℕ → ℕ
owner_byte owner = cond (eqb owner 1) 76 79

abbrev pub owner_line : (owners marks : List ℕ) → ℕ → List ℕ
owner_line owners marks v = chart_line (owner_byte (get_or owners v 0)) v (get_or marks v 0)

-- target w is in the row
abbrev pub yes : List Bool → ℕ → Bool
yes row w = get_or row w false

-- of n positions, the lines of the moves of v: `M` (77), then `D` (68)
abbrev pub move_lines : (n : ℕ) (meant disturbances : List (List Bool)) → ℕ → List ℕ
move_lines n meant disturbances v = target_lines 77 v (cell meant v) n ++ target_lines 68 v (cell disturbances v) n

-- how many moves the positions below k have
unfoldable pub moves_count : (n : ℕ) (meant disturbances : List (List Bool)) → ℕ → ℕ
moves_count n meant disturbances zero = 0
moves_count n meant disturbances (suc v) =
    moves_count n meant disturbances v + count_below (cell meant v) n + count_below (cell disturbances v) n

-- the lines of a row, written at the front of a part, and how many bytes they take
pub record TargetsWritten (letter from n : ℕ) (row : List Bool) (before after : List ℕ) (r : ℕ) : Type 0 where
  pub bytes : r ≡ count_below (yes row) n * 12
  pub lines : Written (target_lines letter from (yes row) n) r before after
