-- What a house's report makes of a chart's rows: what the functions within the job ensure of each other.
use Rattle.std.specs.Prelude.{ℕ, ◌≡◌, List, length, get_or, Result, Ok, Err}
use Rattle.rows.specs.Rows.{RowsOf}
use Rattle.game.specs.Arena.{Arena}
use Rattle.refusal.specs.declared.Refusal.{Refusal}
use Rattle.plate.specs.Formed.{form_of}
use Rattle.checking.specs.Checking.{plate_checked, plate_verdict}
use Rattle.run.specs.Running.{no_run, reported_form, reported_inside}
use Rattle.run.specs.declared.Run.{Run}
use Rattle.run.specs.declared.Reported.{Reported}
use Rattle.house.specs.Housing.{checked_answer, lane_after, lanes_answer, written_by}
use Rattle.house.specs.declared.House.{House}

-- a house as it was, with the lane that is refused and why
unfoldable pub refused_house : List Run → ℕ → Refusal → House
refused_house runs lane refusal = record { runs = runs; written = 0; answer = Err (lane, refusal) }

-- a house that is handed back with this answer, where a single report of a run is answered by `single`
pub record HandedBack (single : Run → ℕ → Reported) (runs : List Run) (lanes : ℕ) (reports : List ℕ) (answered : Result ℕ (ℕ × Refusal)) (r : House) : Type 0 where
  pub answer : r.answer ≡ answered
  pub written : r.written ≡ written_by lanes r.answer
  pub count : length r.runs ≡ length runs
  pub records : (lane : ℕ) → get_or r.runs lane no_run ≡ lane_after single runs reports r.answer lane

-- a single report, with a plate of the form and with any plate
abbrev pub inside : Arena → List ℕ → Run → ℕ → Reported
inside a plate run to = reported_inside run a plate to

abbrev pub any_plate : Arena → ℕ → List ℕ → Run → ℕ → Reported
any_plate a n plate run to = reported_form run a plate to (form_of n plate)

-- the house handed back from a chart's rows, for every arena that the rows hold: on a plate that Checking accepts
pub record LanesDriven (n m : ℕ) (owners costs froms tos : List ℕ) (runs : List Run) (lanes : ℕ) (reports plate : List ℕ) (r : House) : Type 0 where
  pub driven : (a : Arena) (marks : List ℕ) → RowsOf a n m owners marks costs froms tos → plate_verdict a plate ≡ Ok tt
      → HandedBack (inside a plate) runs lanes reports (lanes_answer (inside a plate) runs reports lanes) r

-- and with any plate
pub record RowsDriven (n m : ℕ) (owners marks costs froms tos : List ℕ) (runs : List Run) (lanes : ℕ) (reports plate : List ℕ) (r : House) : Type 0 where
  pub driven : (a : Arena) → RowsOf a n m owners marks costs froms tos
      → HandedBack (any_plate a n plate) runs lanes reports (checked_answer (any_plate a n plate) runs reports lanes (plate_checked a plate (form_of n plate))) r
