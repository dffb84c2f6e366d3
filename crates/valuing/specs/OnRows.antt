-- This crate's definitions, said of a chart's rows as one struct.
use Rattle.std.specs.Prelude.{ℕ, List}
use Rattle.rows.specs.declared.FirstLine.{FirstLine}
use Rattle.rows.specs.declared.Rows.{Rows}
use Rattle.valuing.specs.Valuing.{RowsValued}

abbrev pub ValuedOf : Rows → (values values' choices choices' steps steps' : List ℕ) → FirstLine → Type 0
ValuedOf r = RowsValued r.positions r.moves r.owners.now r.marks.now r.costs.now r.froms.now r.tos.now
