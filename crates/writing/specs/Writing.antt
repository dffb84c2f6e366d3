-- Writing (document 01, "The jobs"): "a chart into a plate, its length answered .. What lies past the last line or number stays",
-- and refusals 1 to 9 and 17, then 10.
use Rattle.std.specs.Prelude.{ℕ, ◌+◌, ◌*◌, ◌≡◌, cond, List, ◌++◌, length, drop, leb, Result, Ok, Err}
use Rattle.rows.specs.declared.FirstLine.{FirstLine}
use Rattle.rows.specs.FirstLine.{first_line_of}
use Rattle.rows.specs.Rows.{RowsOf}
use Rattle.game.specs.Arena.{Arena, size}
use Rattle.game.specs.Table.{round_value, round_step}
use Rattle.game.specs.Best.{best_at}
use Rattle.chart.specs.Meaning.{arena_of}
use Rattle.chart.specs.Examined.{examined}
use Rattle.plate.specs.Text.{plate_text}
use Rattle.refusal.specs.declared.Refusal.{Refusal}
use Rattle.rows.specs.declared.Chart.{Chart}
use Rattle.refusal.specs.declared.Misdrawn.{Misdrawn}
use Rattle.refusal.specs.declared.Refusal.TheVariants.{Chart as OfChart, Short}

-- the first line's numbers, of the rounds
abbrev pub rounds_first_line : Arena → FirstLine
rounds_first_line a = first_line_of (size a) (round_value a) (round_step a)

-- the plate of an arena: its rounds' values and steps, and document 01's choice
unfoldable pub plate_of : Arena → List ℕ
plate_of a = plate_text (size a) (rounds_first_line a) (round_value a) (best_at a (round_value a)) (round_step a)

-- writing the plate of decoded rows
pub record PlateWritten (n m : ℕ) (owners marks costs froms tos out out' : List ℕ) : Type 0 where
  pub bytes : (a : Arena) → RowsOf a n m owners marks costs froms tos → out' ≡ plate_of a ++ drop ((n + 1) * 22) out

-- the answer to a chart and a buffer of this length
unfoldable pub written_by : Result Chart Misdrawn → ℕ → Result ℕ Refusal
written_by (Err r) room = Err (OfChart r)
written_by (Ok chart) room = cond (leb ((chart.positions + 1) * 22) room) (Ok ((chart.positions + 1) * 22)) (Err Short)

unfoldable pub written : List ℕ → ℕ → Result ℕ Refusal
written text room = written_by (examined text) room

-- the answer, and every byte of the buffer afterwards
pub record WrittenIs (text out out' : List ℕ) (r : Result ℕ Refusal) : Type 0 where
  pub answer : r ≡ written text (length out)
  pub taken : (k : ℕ) → r ≡ Ok k → out' ≡ plate_of (arena_of text) ++ drop k out
  pub refused : (x : Refusal) → r ≡ Err x → out' ≡ out
