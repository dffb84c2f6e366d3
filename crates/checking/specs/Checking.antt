-- Checking (document 01, "The jobs" and the refusal table): "a chart and anybody's plate", refusals 1 to 9 and 17, then 11, then 14
-- with the first fault's position and condition.
use Rattle.std.specs.Prelude.{ℕ, ◌≡◌, List, ⊤, Result, Ok, Err}
use Rattle.verdict.specs.declared.FoundFault.{FoundFault}
use Rattle.rows.specs.Rows.{RowsOf}
use Rattle.game.specs.Arena.{Arena}
use Rattle.chart.specs.Meaning.{arena_of}
use Rattle.chart.specs.Examined.{examined}
use Rattle.refusal.specs.declared.Refusal.TheVariants.{Chart as OfChart, Plate, Fault}
use Rattle.plate.specs.Formed.{form_of}
use Rattle.plate.specs.Read.{header_in, value_in_plate, choice_in_plate, step_in_plate}
use Rattle.rows.specs.declared.Chart.{Chart}
use Rattle.refusal.specs.declared.Misdrawn.{Misdrawn}
use Rattle.refusal.specs.declared.Refusal.{Refusal}
use Rattle.verdict.specs.Verdict.{verdict_of}

-- the first fault of the plate's own numbers: its three columns and its first line
abbrev pub plate_verdict : Arena → List ℕ → Result ⊤ FoundFault
plate_verdict a plate = verdict_of a (value_in_plate plate) (choice_in_plate plate) (step_in_plate plate) (header_in plate)

-- the answer to a plate of the form
abbrev pub answer_of : Result ⊤ FoundFault → Result ⊤ Refusal
answer_of (Ok _) = Ok tt
answer_of (Err f) = Err (Fault f.position f.condition)

-- to a plate that was examined
unfoldable pub plate_checked : Arena → List ℕ → Result ⊤ ℕ → Result ⊤ Refusal
plate_checked a plate (Err line) = Err (Plate line)
plate_checked a plate (Ok _) = answer_of (plate_verdict a plate)

-- to a chart that was examined, and a plate
unfoldable pub chart_checked : List ℕ → List ℕ → Result Chart Misdrawn → Result ⊤ Refusal
chart_checked text plate (Err r) = Err (OfChart r)
chart_checked text plate (Ok chart) = plate_checked (arena_of text) plate (form_of chart.positions plate)

-- to any two texts
unfoldable pub checked : List ℕ → List ℕ → Result ⊤ Refusal
checked text plate = chart_checked text plate (examined text)

-- the answer to a chart's rows and a plate of the form, for every arena that the rows hold
pub record FormedIs (n m : ℕ) (owners marks costs froms tos plate : List ℕ) (r : Result ⊤ FoundFault) : Type 0 where
  pub verdict : (a : Arena) → RowsOf a n m owners marks costs froms tos → r ≡ plate_verdict a plate

-- to a chart's rows and any plate
pub record PlateIs (n m : ℕ) (owners marks costs froms tos plate : List ℕ) (r : Result ⊤ Refusal) : Type 0 where
  pub answer : (a : Arena) → RowsOf a n m owners marks costs froms tos → r ≡ plate_checked a plate (form_of n plate)
