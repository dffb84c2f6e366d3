-- Each answer of Checking is given exactly when its condition holds. These are the conditions.
use Rattle.std.specs.Prelude.{ℕ, ◌≡◌, List, ⊤, Result, Ok, Err}
use Rattle.game.specs.Arena.{size}
use Rattle.game.specs.Certificate.{Certificate}
use Rattle.chart.specs.Meaning.{arena_of}
use Rattle.chart.specs.Examined.{examined}
use Rattle.rows.specs.declared.Chart.{Chart}
use Rattle.refusal.specs.declared.Refusal.{Refusal}
use Rattle.refusal.specs.declared.Refusal.TheVariants.{Lanes, Chart as OfChart, NotSmall, Short, Plate, Choice, Position, Ever, Fault, Held, Move, Seen}
use Rattle.plate.specs.Form.{OfForm, BadAt}
use Rattle.plate.specs.Read.{header_in, value_in_plate, choice_in_plate, step_in_plate}
use Rattle.rows.specs.FirstLine.{FirstLineIs}
use Rattle.verdict.specs.Verdict.{FirstFaultIs}

-- a chart with a plate of the form, conditions 1 to 5 everywhere, and 6
pub record AcceptedIs (text plate : List ℕ) : Type 0 where
  pub chart : Chart
  pub taken : examined text ≡ Ok chart
  pub form : OfForm chart.positions plate
  pub certificate : Certificate (arena_of text) (value_in_plate plate) (choice_in_plate plate) (step_in_plate plate)
  pub header : FirstLineIs (size (arena_of text)) (value_in_plate plate) (step_in_plate plate) (header_in plate)

-- 11: a chart, and the plate's line
pub record FormIs (text plate : List ℕ) (line : ℕ) : Type 0 where
  pub chart : Chart
  pub taken : examined text ≡ Ok chart
  pub bad : BadAt chart.positions plate line

-- 14: a chart with a plate of the form, and the first fault
pub record FaultIs (text plate : List ℕ) (position condition : ℕ) : Type 0 where
  pub chart : Chart
  pub taken : examined text ≡ Ok chart
  pub form : OfForm chart.positions plate
  pub first : FirstFaultIs (arena_of text) (value_in_plate plate) (choice_in_plate plate) (step_in_plate plate) (header_in plate) position condition

-- the condition of each refusal: 1 to 9 and 17 are the chart's, then 11 and 14; Checking gives no other
abbrev pub RefusedIs : List ℕ → List ℕ → Refusal → Type 0
RefusedIs text plate (OfChart r) = examined text ≡ Err r
RefusedIs text plate (Plate line) = FormIs text plate line
RefusedIs text plate (Fault v c) = FaultIs text plate v c
RefusedIs text plate Lanes = ⊥
RefusedIs text plate NotSmall = ⊥
RefusedIs text plate Short = ⊥
RefusedIs text plate Choice = ⊥
RefusedIs text plate Position = ⊥
RefusedIs text plate Ever = ⊥
RefusedIs text plate Held = ⊥
RefusedIs text plate Move = ⊥
RefusedIs text plate Seen = ⊥

abbrev pub AnswerIs : List ℕ → List ℕ → Result ⊤ Refusal → Type 0
AnswerIs text plate (Ok _) = AcceptedIs text plate
AnswerIs text plate (Err x) = RefusedIs text plate x
