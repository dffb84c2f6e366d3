-- A house and the calls that it has had, each with texts of its own (document 02, order 7): "The guarantee of order 5 then holds at each lane
-- of the house." A call is a house's report, or a single report of one lane's run; besides, a lane may be given another run, as by a start.
use Rattle.std.specs.Prelude.{ℕ, ◌≡◌, cond, List, [], ◌∷◌, ◌++◌, eqb, length, get_or, Result, Ok, Err}
use Rattle.run.specs.Running.{no_run}
use Rattle.run.specs.AnyTexts.{Report, Texts, answered}
use Rattle.run.specs.declared.Run.{Run}
use Rattle.refusal.specs.declared.Refusal.{Refusal}
use Rattle.house.specs.Housing.{HouseIs, house_answer, reporting}

-- a house's report, with its row of reports and its texts; a single report of the run at a lane; or any run that a lane begins anew with
pub data Call : Type 0 where
  house : (reports : List ℕ) (texts : Texts) → Call
  single : (lane : ℕ) (report : Report) → Call
  anew : (lane : ℕ) (run : Run) → Call

-- the record of one lane is written, and no other
pub record WrittenAt (runs : List Run) (lane : ℕ) (run : Run) (after : List Run) : Type 0 where
  pub count : length after ≡ length runs
  pub there : get_or after lane no_run ≡ run
  pub elsewhere : (k : ℕ) → (k ≡ lane → ⊥) → get_or after k no_run ≡ get_or runs k no_run

-- what a call leaves of the records: a single report's run is written where it was
abbrev pub Step : List Run → Call → List Run → Type 0
Step runs (house reports texts) after = (r : Result ℕ (ℕ × Refusal)) × HouseIs runs reports texts.chart texts.plate after r
Step runs (single lane r) after = WrittenAt runs lane (answered (get_or runs lane no_run) r).run after
Step runs (anew lane run) after = WrittenAt runs lane run after

-- and a row of calls, the oldest first
unfoldable pub Drives : List Run → List Call → List Run → Type 0
Drives runs [] after = after ≡ runs
Drives runs (c ∷ cs) after = (next : List Run) × Step runs c next × Drives next cs after

-- a lane that keeps its run: none of the calls begins it anew
abbrev pub Keeps : ℕ → Call → Type 0
Keeps lane (house reports texts) = Unit {0}
Keeps lane (single at r) = Unit {0}
Keeps lane (anew at run) = at ≡ lane → ⊥

unfoldable pub KeepsAll : ℕ → List Call → Type 0
KeepsAll lane [] = Unit {0}
KeepsAll lane (c ∷ cs) = Keeps lane c × KeepsAll lane cs

-- The single reports that a lane has had

-- of a house's report its own, if the house moved and the lane reported
unfoldable pub own_report : Result ℕ (ℕ × Refusal) → (reports : List ℕ) → Texts → ℕ → List Report
own_report (Ok count) reports texts lane = cond (reporting reports lane) (record { texts = texts; to = get_or reports lane 65535 } ∷ []) []
own_report (Err (at, x)) reports texts lane = []

-- of a single report at the lane just this
unfoldable pub lane_report : ℕ → List Run → Call → List Report
lane_report lane runs (house reports texts) = own_report (house_answer runs reports texts.chart texts.plate (length runs)) reports texts lane
lane_report lane runs (single at r) = cond (eqb at lane) (r ∷ []) []
lane_report lane runs (anew at run) = []

-- of a row of calls, the oldest first
unfoldable pub lane_reports : (lane : ℕ) (runs : List Run) (calls : List Call) (after : List Run) → Drives runs calls after → List Report
unfolding Drives
lane_reports lane runs [] after d = []
lane_reports lane runs (c ∷ cs) after (next, step, rest) = lane_report lane runs c ++ lane_reports lane next cs after rest
