-- This crate's definitions, said of a chart's rows as one struct.
use Rattle.std.specs.Prelude.{ℕ, Result}
use Rattle.refusal.specs.declared.Refusal.{Refusal}
use Rattle.rows.specs.declared.Rows.{Rows}
use Rattle.indexing.specs.Indexing.{RowsIndexed}

abbrev pub IndexedOf : Rows → Result ℕ Refusal → Type 0
IndexedOf r = RowsIndexed r.positions r.moves r.owners.now r.marks.now r.costs.now r.froms.now r.tos.now
