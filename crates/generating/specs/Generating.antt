-- Generating (document 02, order 9): "Given n and an index from 0, write the chart, its marks as 0 or 1, and answer its length"; "21, n outside
-- 1 to 3, an index past the last .. before 10". What lies past the chart stays, and on a refusal everything does.
use Rattle.std.specs.Prelude.{ℕ, ◌+◌, ◌*◌, ◌≤◌, ◌≡◌, Bool, cond, ◌&&◌, List, ◌++◌, length, drop, leb, ltb, Result, Ok, Err}
use Rattle.line.specs.Joined.{joined}
use Rattle.chart.specs.Meaning.{chart_line, chart_text}
use Rattle.numbering.specs.Numbering.{chart_count}
use Rattle.numbering.specs.Squares.{small_arena}
use Rattle.square_lines.specs.Lines.{owner_line, move_lines, moves_count}
use Rattle.refusal.specs.declared.Refusal.{Refusal}
use Rattle.refusal.specs.declared.Refusal.TheVariants.{NotSmall, Short}

-- n is 1 to 3, and the index is not past the last
unfoldable pub is_index : (n i : ℕ) → Bool
is_index n i = leb 1 n && (leb n 3 && ltb i (chart_count n))

-- the text of a small chart
unfoldable pub small_text : (n i : ℕ) → List ℕ
small_text n i = chart_text (small_arena n i)

-- the answer for a buffer of this length
unfoldable pub generated : (n i room : ℕ) → Result ℕ Refusal
generated n i room = cond (is_index n i) (cond (leb (length (small_text n i)) room) (Ok (length (small_text n i))) (Err Short)) (Err NotSmall)

-- the answer, and every byte of the buffer afterwards
pub record GeneratedIs (n i : ℕ) (out out' : List ℕ) (r : Result ℕ Refusal) : Type 0 where
  pub answer : r ≡ generated n i (length out)
  pub taken : (k : ℕ) → r ≡ Ok k → out' ≡ small_text n i ++ drop k out
  pub refused : (x : Refusal) → r ≡ Err x → out' ≡ out

-- Within the job: the lines of squares, written at the front of a buffer that they fit

pub record SquaresFit (n m : ℕ) (owners marks : List ℕ) (meant disturbances : List (List Bool)) (out : List ℕ) : Type 0 where
  pub few : n ≤ 3
  pub counted : m ≡ moves_count n meant disturbances n
  pub owners-row : n ≤ length owners
  pub marks-row : n ≤ length marks
  pub room : (1 + n + m) * 12 ≤ length out

pub record SquaresWritten (n m : ℕ) (owners marks : List ℕ) (meant disturbances : List (List Bool)) (out out' : List ℕ) : Type 0 where
  pub bytes :
      out'
      ≡ (chart_line 72 n m ++ (joined (owner_line owners marks) n ++ joined (move_lines n meant disturbances) n)) ++ drop ((1 + n + m) * 12) out
