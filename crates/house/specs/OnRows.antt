-- This crate's definitions, said of a chart's rows as one struct.
use Rattle.std.specs.Prelude.{ℕ, List}
use Rattle.rows.specs.declared.Rows.{Rows}
use Rattle.run.specs.declared.Run.{Run}
use Rattle.run.specs.declared.Reported.{Reported}
use Rattle.run.specs.Running.{CheckedReport}
use Rattle.house.specs.Driving.{LanesDriven, RowsDriven}
use Rattle.house.specs.declared.House.{House}

abbrev pub CheckedReportOf : Rows → Run → (plate : List ℕ) (to : ℕ) → Reported → Type 0
CheckedReportOf r = CheckedReport r.positions r.moves r.owners.now r.costs.now r.froms.now r.tos.now

abbrev pub LanesDrivenOf : Rows → (runs : List Run) (lanes : ℕ) (reports plate : List ℕ) → House → Type 0
LanesDrivenOf r = LanesDriven r.positions r.moves r.owners.now r.costs.now r.froms.now r.tos.now

abbrev pub RowsDrivenOf : Rows → (runs : List Run) (lanes : ℕ) (reports plate : List ℕ) → House → Type 0
RowsDrivenOf r = RowsDriven r.positions r.moves r.owners.now r.marks.now r.costs.now r.froms.now r.tos.now
