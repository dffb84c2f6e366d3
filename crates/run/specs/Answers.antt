-- The refusal table for a start and a report: the condition of each answer. That each is given exactly when its condition holds is
-- proved in proofs/AnswersExact.antt.
use Rattle.std.specs.Prelude.{ℕ, ◌+◌, ◌≤◌, ◌<◌, ◌≡◌, ◌⊎◌, List, Result, Ok, Err}
use Rattle.rows.specs.Numbers.{number_of}
use Rattle.game.specs.Arena.{size}
use Rattle.chart.specs.Meaning.{arena_of}
use Rattle.chart.specs.Examined.{examined}
use Rattle.rows.specs.declared.Chart.{Chart}
use Rattle.refusal.specs.declared.Refusal.{Refusal}
use Rattle.refusal.specs.declared.Refusal.TheVariants.{Lanes, Chart as OfChart, NotSmall, Short, Plate, Choice, Position, Ever, Fault, Held, Move, Seen}
use Rattle.plate.specs.Form.{OfForm}
use Rattle.plate.specs.Read.{value_in_plate, choice_in_plate}
use Rattle.checking.specs.Answers.{AcceptedIs, FaultIs, FormIs}
use Rattle.moves.specs.Moves.{move_kind}
use Rattle.run.specs.Running.{advice_at, moved, run_at}
use Rattle.moves.specs.declared.Kind.{Kind}
use Rattle.moves.specs.declared.Kind.TheVariants.{Meant, Disturbance, Neither}
use Rattle.run.specs.declared.Advice.{Advice}
use Rattle.run.specs.declared.Run.{Run}

-- neither 1 to 9, 17 nor 11: a chart, and a plate of the form
pub record Readable (text plate : List ℕ) : Type 0 where
  pub chart : Chart
  pub taken : examined text ≡ Ok chart
  pub form : OfForm chart.positions plate

-- a start: 1 to 9 and 17, 11, then 13 for any plate of the form, then 14; it gives no other refusal
abbrev pub StartRefused : List ℕ → List ℕ → ℕ → Refusal → Type 0
StartRefused text plate position (OfChart r) = examined text ≡ Err r
StartRefused text plate position (Plate line) = FormIs text plate line
StartRefused text plate position Position = Readable text plate × (size (arena_of text) ≤ position)
StartRefused text plate position (Fault v c) = FaultIs text plate v c × (position < size (arena_of text))
StartRefused text plate position Lanes = ⊥
StartRefused text plate position NotSmall = ⊥
StartRefused text plate position Short = ⊥
StartRefused text plate position Choice = ⊥
StartRefused text plate position Ever = ⊥
StartRefused text plate position Held = ⊥
StartRefused text plate position Move = ⊥
StartRefused text plate position Seen = ⊥

abbrev pub StartIs : List ℕ → List ℕ → ℕ → Result (Run × Advice) Refusal → Type 0
StartIs text plate position (Ok (run, advice)) =
    AcceptedIs text plate × (position < size (arena_of text)) × (run ≡ run_at plate position) × (advice ≡ advice_at plate position)
StartIs text plate position (Err x) = StartRefused text plate position x

-- neither 13 nor 14: an accepted plate, and both positions are on the chart
pub record Stands (run : Run) (text plate : List ℕ) (to : ℕ) : Type 0 where
  pub accepted : AcceptedIs text plate
  pub own : run.position < size (arena_of text)
  pub inside : to < size (arena_of text)

-- nor 18, which compares numbers, 65,535 for "ever": the plate's value at the run's position is the held one
abbrev pub Holds : Run → List ℕ → Type 0
Holds run plate = number_of (value_in_plate plate run.position) ≡ run.value

-- and the move is of this kind
pub record Moves (run : Run) (text plate : List ℕ) (to : ℕ) (k : Kind) : Type 0 where
  pub stands : Stands run text plate to
  pub holds : Holds run plate
  pub kind : move_kind (arena_of text) (choice_in_plate plate run.position) run.position to ≡ k

-- a report: 1 to 9 and 17, 11, 13, 14, 18, 15 and 16; it gives no other refusal
abbrev pub ReportRefused : Run → List ℕ → List ℕ → ℕ → Refusal → Type 0
ReportRefused run text plate to (OfChart r) = examined text ≡ Err r
ReportRefused run text plate to (Plate line) = FormIs text plate line
ReportRefused run text plate to Position = Readable text plate × ((size (arena_of text) ≤ run.position) ⊎ (size (arena_of text) ≤ to))
ReportRefused run text plate to (Fault v c) = FaultIs text plate v c × (run.position < size (arena_of text)) × (to < size (arena_of text))
ReportRefused run text plate to Held = Stands run text plate to × (Holds run plate → ⊥)
ReportRefused run text plate to Move = Moves run text plate to Neither
ReportRefused run text plate to Seen = Moves run text plate to Disturbance × (99999 ≤ run.seen)
ReportRefused run text plate to Lanes = ⊥
ReportRefused run text plate to NotSmall = ⊥
ReportRefused run text plate to Short = ⊥
ReportRefused run text plate to Choice = ⊥
ReportRefused run text plate to Ever = ⊥

-- beside the run that it hands back
abbrev pub ReportIs : Run → List ℕ → List ℕ → ℕ → Run → Result Advice Refusal → Type 0
ReportIs run text plate to after (Ok advice) =
    ((Moves run text plate to Meant × (after ≡ moved run to run.seen (number_of (value_in_plate plate to))))
    ⊎ (Moves run text plate to Disturbance × (run.seen < 99999) × (after ≡ moved run to (run.seen + 1) (number_of (value_in_plate plate to)))))
    × (advice ≡ advice_at plate to)
ReportIs run text plate to after (Err x) = ReportRefused run text plate to x × (after ≡ run)
