-- Start and report (document 01, "The run" and the refusal table, and document 02, order 5): what each answers to any two texts and, for a
-- report, any run.
use Rattle.std.specs.Prelude.{ℕ, ◌+◌, ◌≡◌, cond, List, eqb, ltb, ⊤, Result, Ok, Err}
use Rattle.verdict.specs.declared.FoundFault.{FoundFault}
use Rattle.rows.specs.Rows.{RowsOf}
use Rattle.rows.specs.Numbers.{number_of}
use Rattle.game.specs.Arena.{Arena, size}
use Rattle.chart.specs.Meaning.{arena_of}
use Rattle.chart.specs.Examined.{examined}
use Rattle.refusal.specs.declared.Refusal.{Refusal}
use Rattle.refusal.specs.declared.Refusal.TheVariants.{Chart as OfChart, Plate, Position, Fault, Held, Move, Seen}
use Rattle.plate.specs.Formed.{form_of}
use Rattle.plate.specs.Read.{value_in_plate, choice_in_plate}
use Rattle.checking.specs.Checking.{plate_verdict}
use Rattle.moves.specs.Moves.{move_kind}
use Rattle.moves.specs.declared.Kind.{Kind}
use Rattle.moves.specs.declared.Kind.TheVariants.{Meant, Disturbance, Neither}
use Rattle.run.specs.declared.Run.{Run}
use Rattle.run.specs.declared.Advice.{Advice}
use Rattle.rows.specs.declared.Chart.{Chart}
use Rattle.refusal.specs.declared.Misdrawn.{Misdrawn}
use Rattle.run.specs.declared.Reported.{Reported}

-- "Each answer gives the plate's choice and value at the position now held."
unfoldable pub advice_at : List ℕ → ℕ → Advice
advice_at plate v = record { choice = number_of (choice_in_plate plate v); value = number_of (value_in_plate plate v) }

-- "a run holds its position, the disturbances seen and the value at its start"; "The run shall also hold the value at its present position."
abbrev pub run_of : (position seen initial value : ℕ) → Run
run_of position seen initial value = record { position = position; seen = seen; initial = initial; value = value }

-- at the start
unfoldable pub run_at : List ℕ → ℕ → Run
run_at plate position = run_of position 0 (number_of (value_in_plate plate position)) (number_of (value_in_plate plate position))

-- no run: its position, the largest number, is on no chart (proofs/AnswersExact.antt: a report of it gives 13)
abbrev pub no_run : Run
no_run = run_of 18446744073709551615 0 0 0

abbrev pub begun_at : List ℕ → ℕ → Result (Run × Advice) Refusal
begun_at plate position = Ok (run_at plate position, advice_at plate position)

-- "begins only by the start job, which wants an accepted plate": by the plate's first fault, 14
unfoldable pub started_verdict : List ℕ → ℕ → Result ⊤ FoundFault → Result (Run × Advice) Refusal
started_verdict plate position (Err f) = Err (Fault f.position f.condition)
started_verdict plate position (Ok _) = begun_at plate position

-- 13 comes before 14
unfoldable pub started_inside : Arena → List ℕ → ℕ → Result (Run × Advice) Refusal
started_inside a plate position = cond (ltb position (size a)) (started_verdict plate position (plate_verdict a plate)) (Err Position)

-- and 11 before both
unfoldable pub started_form : Arena → List ℕ → ℕ → Result ⊤ ℕ → Result (Run × Advice) Refusal
started_form a plate position (Err line) = Err (Plate line)
started_form a plate position (Ok _) = started_inside a plate position

unfoldable pub started_by : List ℕ → List ℕ → ℕ → Result Chart Misdrawn → Result (Run × Advice) Refusal
started_by text plate position (Err r) = Err (OfChart r)
started_by text plate position (Ok chart) = started_form (arena_of text) plate position (form_of chart.positions plate)

unfoldable pub started : List ℕ → List ℕ → ℕ → Result (Run × Advice) Refusal
started text plate position = started_by text plate position (examined text)

-- the run at another position, with so many disturbances seen and the value there; its starting value stays
unfoldable pub moved : Run → (to seen value : ℕ) → Run
moved run to seen value = run_of to seen run.initial value

-- a report that is taken: the run holds the lent plate's value at the new position
unfoldable pub standing : Run → List ℕ → (to seen : ℕ) → Reported
standing run plate to seen = record { run = moved run to seen (number_of (value_in_plate plate to)); answer = Ok (advice_at plate to) }

-- "the run comes back unchanged"
unfoldable pub unmoved : Run → Refusal → Reported
unmoved run refusal = record { run = run; answer = Err refusal }

-- by what the move is: "15 the reported move can't follow", "16 a disturbance with 99,999 or more seen"
unfoldable pub reported_move : Run → List ℕ → ℕ → Kind → Reported
reported_move run plate to Meant = standing run plate to run.seen
reported_move run plate to Disturbance = cond (ltb run.seen 99999) (standing run plate to (run.seen + 1)) (unmoved run Seen)
reported_move run plate to Neither = unmoved run Move

-- "18, the plate's value at the run's position isn't the held one, tested after 14 and before 15"
unfoldable pub reported_accepted : Run → Arena → List ℕ → ℕ → Reported
reported_accepted run a plate to =
    cond (eqb (number_of (value_in_plate plate run.position)) run.value)
    (reported_move run plate to (move_kind a (choice_in_plate plate run.position) run.position to))
    (unmoved run Held)

-- "A report shall check the plate (14), then compare."
unfoldable pub reported_verdict : Run → Arena → List ℕ → ℕ → Result ⊤ FoundFault → Reported
reported_verdict run a plate to (Err f) = unmoved run (Fault f.position f.condition)
reported_verdict run a plate to (Ok _) = reported_accepted run a plate to

-- "13 covers the run's own position as well"; it comes before 14
unfoldable pub reported_inside : Run → Arena → List ℕ → ℕ → Reported
reported_inside run a plate to =
    cond (ltb run.position (size a))
    (cond (ltb to (size a)) (reported_verdict run a plate to (plate_verdict a plate)) (unmoved run Position))
    (unmoved run Position)

-- and 11 before both
unfoldable pub reported_form : Run → Arena → List ℕ → ℕ → Result ⊤ ℕ → Reported
reported_form run a plate to (Err line) = unmoved run (Plate line)
reported_form run a plate to (Ok _) = reported_inside run a plate to

unfoldable pub reported_by : Run → List ℕ → List ℕ → ℕ → Result Chart Misdrawn → Reported
reported_by run text plate to (Err r) = unmoved run (OfChart r)
reported_by run text plate to (Ok chart) = reported_form run (arena_of text) plate to (form_of chart.positions plate)

unfoldable pub reported : Run → List ℕ → List ℕ → ℕ → Reported
reported run text plate to = reported_by run text plate to (examined text)

-- the refusal where a position is not on the chart, by the plate's form
unfoldable pub off_chart : Result ⊤ ℕ → Refusal
off_chart (Err line) = Plate line
off_chart (Ok _) = Position

-- the answers to a chart's rows, for every arena that the rows hold: to a start, and to a report, with any plate
pub record RowsStart (n m : ℕ) (owners marks costs froms tos plate : List ℕ) (position : ℕ) (r : Result (Run × Advice) Refusal) : Type 0 where
  pub answer : (a : Arena) → RowsOf a n m owners marks costs froms tos → r ≡ started_form a plate position (form_of n plate)

pub record RowsReport (n m : ℕ) (owners marks costs froms tos : List ℕ) (run : Run) (plate : List ℕ) (to : ℕ) (r : Reported) : Type 0 where
  pub answer : (a : Arena) → RowsOf a n m owners marks costs froms tos → r ≡ reported_form run a plate to (form_of n plate)

-- and to a report with an accepted one
pub record AcceptedReport (n m : ℕ) (owners costs froms tos : List ℕ) (run : Run) (plate : List ℕ) (to : ℕ) (r : Reported) : Type 0 where
  pub answer : (a : Arena) (marks : List ℕ) → RowsOf a n m owners marks costs froms tos → r ≡ reported_accepted run a plate to

-- to a report with a plate that Checking accepts
pub record CheckedReport (n m : ℕ) (owners costs froms tos : List ℕ) (run : Run) (plate : List ℕ) (to : ℕ) (r : Reported) : Type 0 where
  pub answer : (a : Arena) (marks : List ℕ) → RowsOf a n m owners marks costs froms tos → plate_verdict a plate ≡ Ok tt → r ≡ reported_inside run a plate to
