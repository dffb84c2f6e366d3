-- Reading (document 01, "The jobs"): "a chart and a plate of the form under 11 into the first line's numbers and the three rows", and
-- refusals 1 to 9 and 17, then 10, then 11.
use Rattle.std.specs.Prelude.{ℕ, ◌≡◌, cond, ◌&&◌, List, length, leb, ⊤, Result, Ok, Err}
use Rattle.game.specs.Arena.{size}
use Rattle.chart.specs.Meaning.{arena_of}
use Rattle.chart.specs.Examined.{examined}
use Rattle.refusal.specs.declared.Refusal.{Refusal}
use Rattle.refusal.specs.declared.Refusal.TheVariants.{Chart as OfChart, Short, Plate}
use Rattle.rows.specs.declared.FirstLine.{FirstLine}
use Rattle.plate.specs.Formed.{form_of}
use Rattle.rows.specs.declared.Chart.{Chart}
use Rattle.refusal.specs.declared.Misdrawn.{Misdrawn}
use Rattle.plate.specs.Read.{header_in, ColumnsRead}

-- the answer to a plate that was examined
unfoldable pub answer_to : List ℕ → Result ⊤ ℕ → Result FirstLine Refusal
answer_to plate (Ok _) = Ok (header_in plate)
answer_to plate (Err line) = Err (Plate line)

-- the answer to a chart that was examined, a plate, and rows of these lengths
unfoldable pub read_by : Result Chart Misdrawn → List ℕ → (values choices steps : ℕ) → Result FirstLine Refusal
read_by (Err r) plate values choices steps = Err (OfChart r)
read_by (Ok chart) plate values choices steps =
    cond (leb chart.positions values && (leb chart.positions choices && leb chart.positions steps))
    (answer_to plate (form_of chart.positions plate))
    (Err Short)

unfoldable pub reading : List ℕ → List ℕ → (values choices steps : ℕ) → Result FirstLine Refusal
reading text plate values choices steps = read_by (examined text) plate values choices steps

-- the answer, and every lent number afterwards
pub record ReadingIs (text plate values values' choices choices' steps steps' : List ℕ) (r : Result FirstLine Refusal) : Type 0 where
  pub answer : r ≡ reading text plate (length values) (length choices) (length steps)
  pub taken : (h : FirstLine) → r ≡ Ok h → ColumnsRead (size (arena_of text)) plate values values' choices choices' steps steps'
  pub refused : (x : Refusal) → r ≡ Err x → (values' ≡ values) × (choices' ≡ choices) × (steps' ≡ steps)
