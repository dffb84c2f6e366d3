-- The refusal table for a house's report (document 02, order 7): the condition of each answer. That each is given exactly when its condition
-- holds is proved in proofs/AnswersExact.antt.
use Rattle.std.specs.Prelude.{ℕ, ◌≤◌, ◌<◌, ◌≡◌, ◌⊎◌, List, length, get_or, Result, Ok, Err}
use Rattle.search.specs.Below.{count_below}
use Rattle.refusal.specs.declared.Refusal.{Refusal}
use Rattle.refusal.specs.declared.Refusal.TheVariants.{Lanes, Chart as OfChart, NotSmall, Short, Plate, Choice, Position, Ever, Fault, Held, Move, Seen}
use Rattle.checking.specs.Answers.{AcceptedIs, RefusedIs}
use Rattle.run.specs.Running.{no_run}
use Rattle.run.specs.Answers.{ReportRefused}
use Rattle.run.specs.declared.Run.{Run}
use Rattle.house.specs.Housing.{reporting}

-- "20, no lanes, over 64, or rows of unequal length"
abbrev pub NotDrivable : (lanes reports : ℕ) → Type 0
NotDrivable lanes reports = (lanes ≡ 0) ⊎ ((64 < lanes) ⊎ (lanes ≡ reports → ⊥))

-- not 20: "1 to 64 lanes", "a row of reports beside it, one per lane"
pub record Drivable (lanes reports : ℕ) : Type 0 where
  pub some : 0 < lanes
  pub few : lanes ≤ 64
  pub paired : lanes ≡ reports

-- "65,535 for none"
abbrev pub Reports : (reports : List ℕ) → ℕ → Type 0
Reports reports lane = get_or reports lane 65535 ≡ 65535 → ⊥

-- 13, 18, 15 and 16: what a single report gives where the plate is accepted (proofs/AnswersExact.antt, `accepted-lane-gives`)
abbrev pub OfLane : Refusal → Type 0
OfLane Position = Unit {0}
OfLane Held = Unit {0}
OfLane Move = Unit {0}
OfLane Seen = Unit {0}
OfLane Lanes = ⊥
OfLane (OfChart r) = ⊥
OfLane NotSmall = ⊥
OfLane Short = ⊥
OfLane (Plate line) = ⊥
OfLane Choice = ⊥
OfLane Ever = ⊥
OfLane (Fault v c) = ⊥

module _ (runs : List Run) (reports text plate : List ℕ) where
  -- a lane's single report is refused with x
  abbrev pub LaneRefused : ℕ → Refusal → Type 0
  LaneRefused lane x = ReportRefused (get_or runs lane no_run) text plate (get_or reports lane 65535) x

  -- "of the reporting lanes" it isn't a refused one
  abbrev pub NotRefused : ℕ → Type 0
  NotRefused lane = Reports reports lane → (x : Refusal) → LaneRefused lane x → ⊥

  -- neither 20 nor a refusal of Checking: "The plate is tested once (11, 14), even when no lane reports"
  pub record Driven : Type 0 where
    pub drivable : Drivable (length runs) (length reports)
    pub accepted : AcceptedIs text plate

  -- "then, of the reporting lanes, the lowest refused is answered, with its refusal"
  pub record LowestRefused (lane : ℕ) (x : Refusal) : Type 0 where
    pub driven : Driven
    pub inside : lane < length runs
    pub reports-here : Reports reports lane
    pub refused : LaneRefused lane x
    pub lowest : (k : ℕ) → k < lane → NotRefused k

  -- "every reported lane moves": none is refused, and the answer is "the count of lanes moved"
  pub record AllMove (count : ℕ) : Type 0 where
    pub driven : Driven
    pub free : (lane : ℕ) → lane < length runs → NotRefused lane
    pub counts : count ≡ count_below (reporting reports) (length runs)

  -- a refusal: 20, "tested before the chart", or Checking's, 1 to 9 and 17, 11 and 14, both at lane 0; or a lane's
  abbrev pub HouseRefused : ℕ → Refusal → Type 0
  HouseRefused lane x =
      ((lane ≡ 0) × (x ≡ Lanes) × NotDrivable (length runs) (length reports))
      ⊎ (((lane ≡ 0) × Drivable (length runs) (length reports) × RefusedIs text plate x) ⊎ LowestRefused lane x)

  abbrev pub HouseAnswerIs : Result ℕ (ℕ × Refusal) → Type 0
  HouseAnswerIs (Ok count) = AllMove count
  HouseAnswerIs (Err (lane, x)) = HouseRefused lane x
