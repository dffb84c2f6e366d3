-- This crate's definitions, said of a chart's rows as one struct.
use Rattle.std.specs.Prelude.{ℕ, List, Result}
use Rattle.rows.specs.declared.Rows.{Rows}
use Rattle.refusal.specs.declared.Refusal.{Refusal}
use Rattle.run.specs.declared.Run.{Run}
use Rattle.run.specs.declared.Advice.{Advice}
use Rattle.run.specs.declared.Reported.{Reported}
use Rattle.run.specs.Running.{RowsReport, RowsStart}

abbrev pub StartOf : Rows → (plate : List ℕ) (position : ℕ) → Result (Run × Advice) Refusal → Type 0
StartOf r = RowsStart r.positions r.moves r.owners.now r.marks.now r.costs.now r.froms.now r.tos.now

abbrev pub ReportOf : Rows → Run → (plate : List ℕ) (to : ℕ) → Reported → Type 0
ReportOf r = RowsReport r.positions r.moves r.owners.now r.marks.now r.costs.now r.froms.now r.tos.now
