-- This crate's definitions, said of a chart's rows as one struct.
use Rattle.std.specs.Prelude.{ℕ, List, ⊤, Result}
use Rattle.rows.specs.declared.Rows.{Rows}
use Rattle.rows.specs.declared.FirstLine.{FirstLine}
use Rattle.conditions.specs.declared.Line.{Line}
use Rattle.conditions.specs.declared.Target.{Target}
use Rattle.verdict.specs.declared.FoundFault.{FoundFault}
use Rattle.verdict.specs.Sheet.{Sheet, line_of, sheet}
use Rattle.verdict.specs.Ranks.{ranked_target}
use Rattle.verdict.specs.RowsChecked.{RowsChecked}

abbrev pub sheet_on : Rows → (values choices steps : List ℕ) → Sheet
sheet_on r = sheet r.owners.now r.marks.now r.costs.now r.froms.now r.tos.now

abbrev pub line_on : Rows → (values choices steps : List ℕ) → ℕ → Line
line_on r = line_of r.owners.now r.marks.now

abbrev pub target_on : Rows → (ranks : List ℕ) → ℕ → Target
target_on r = ranked_target r.costs.now r.tos.now

abbrev pub CheckedOf : Rows → (values choices steps : List ℕ) → FirstLine → Result ⊤ FoundFault → Type 0
CheckedOf r values choices steps = RowsChecked r.positions r.moves (sheet_on r values choices steps)
