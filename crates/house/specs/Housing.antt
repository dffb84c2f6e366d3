-- A house of lanes (document 02, order 7): what a house's report answers to any records, any reports and any two texts, and what it leaves
-- of each record.
use Rattle.std.specs.Prelude.{ℕ, ◌≡◌, Bool, true, false, not, cond, ◌&&◌, List, eqb, ltb, length, get_or, ⊤, Result, Ok, Err}
use Rattle.search.specs.Below.{count_below}
use Rattle.search.specs.First.{first_from}
use Rattle.refusal.specs.declared.Refusal.TheVariants.{Lanes}
use Rattle.checking.specs.Checking.{checked}
use Rattle.run.specs.Running.{no_run, reported}
use Rattle.run.specs.declared.Run.{Run}
use Rattle.run.specs.declared.Reported.{Reported}
use Rattle.run.specs.declared.Advice.{Advice}
use Rattle.refusal.specs.declared.Refusal.{Refusal}
use Rattle.house.specs.declared.House.{House}

-- not "20, no lanes, over 64, or rows of unequal length"
unfoldable pub drivable : (lanes reports : ℕ) → Bool
drivable lanes reports = ltb 0 lanes && (ltb lanes 65 && eqb lanes reports)

-- how many lanes are driven: none where 20 is answered
unfoldable pub driven_lanes : (lanes reports : ℕ) → ℕ
driven_lanes lanes reports = cond (drivable lanes reports) lanes 0

-- "a row of reports beside it, one per lane, 65,535 for none"
unfoldable pub reporting : List ℕ → ℕ → Bool
reporting reports lane = not (eqb (get_or reports lane 65535) 65535)

unfoldable pub taken : Result Advice Refusal → Bool
taken (Ok advice) = true
taken (Err x) = false

-- a refused lane "is answered, with its refusal"; a lane whose report is taken is not asked
unfoldable pub refused_at : ℕ → Result Advice Refusal → Result ℕ (ℕ × Refusal)
refused_at lane (Err x) = Err (lane, x)
refused_at lane (Ok advice) = Ok 0

-- The lanes, where a single report of a run is answered by `single`
module _ (single : Run → ℕ → Reported) (runs : List Run) (reports : List ℕ) where
  unfoldable pub lane_reported : ℕ → Reported
  lane_reported lane = single (get_or runs lane no_run) (get_or reports lane 65535)

  -- "of the reporting lanes": another is not tested
  unfoldable pub lane_passes : ℕ → Bool
  lane_passes lane = cond (reporting reports lane) (taken (lane_reported lane).answer) true

  unfoldable pub lane_refused : ℕ → Result ℕ (ℕ × Refusal)
  lane_refused lane = refused_at lane (lane_reported lane).answer

  -- "the lowest refused", or "the count of lanes moved"
  unfoldable pub lanes_answer : ℕ → Result ℕ (ℕ × Refusal)
  lanes_answer lanes = first_from lane_passes lane_refused (Ok (count_below (reporting reports) lanes)) lanes 0

  -- "its record becoming what a single report gives, while the other records stay"
  unfoldable pub lane_moved : ℕ → Run
  lane_moved lane = cond (reporting reports lane) (lane_reported lane).run (get_or runs lane no_run)

  -- "Either every reported lane moves .. or no record changes"
  unfoldable pub lane_after : Result ℕ (ℕ × Refusal) → ℕ → Run
  lane_after (Ok count) lane = lane_moved lane
  lane_after (Err (at, x)) lane = get_or runs lane no_run

-- The house

-- a single report with these texts
abbrev pub singly : (text plate : List ℕ) → Run → ℕ → Reported
singly text plate run to = reported run text plate to

-- "The plate is tested once (11, 14), even when no lane reports": Checking's refusals, which are 1 to 9 and 17, 11, then 14
unfoldable pub checked_answer : (single : Run → ℕ → Reported) → List Run → List ℕ → ℕ → Result ⊤ Refusal → Result ℕ (ℕ × Refusal)
checked_answer single runs reports lanes (Err x) = Err (0, x)
checked_answer single runs reports lanes (Ok _) = lanes_answer single runs reports lanes

-- the answer to the first `lanes` records; 20 is "tested before the chart"
unfoldable pub house_answer : List Run → (reports text plate : List ℕ) → ℕ → Result ℕ (ℕ × Refusal)
house_answer runs reports text plate lanes =
    cond (drivable lanes (length reports)) (checked_answer (singly text plate) runs reports lanes (checked text plate)) (Err (0, Lanes))

-- what a house's report ensures: the answer, and every record afterwards
pub record HouseIs (runs : List Run) (reports text plate : List ℕ) (after : List Run) (r : Result ℕ (ℕ × Refusal)) : Type 0 where
  pub answer : r ≡ house_answer runs reports text plate (length runs)
  pub count : length after ≡ length runs
  pub records : (lane : ℕ) → get_or after lane no_run ≡ lane_after (singly text plate) runs reports r lane

-- The same of a house that is handed in and handed back, as `lanes` records at the front of a row

-- how many records are to be put back
unfoldable pub written_by : ℕ → Result ℕ (ℕ × Refusal) → ℕ
written_by lanes (Ok count) = lanes
written_by lanes (Err (at, x)) = 0

pub record DriveIs (runs : List Run) (lanes : ℕ) (reports text plate : List ℕ) (r : House) : Type 0 where
  pub answer : r.answer ≡ house_answer runs reports text plate lanes
  pub written : r.written ≡ written_by lanes r.answer
  pub count : length r.runs ≡ length runs
  pub records : (lane : ℕ) → get_or r.runs lane no_run ≡ lane_after (singly text plate) runs reports r.answer lane
