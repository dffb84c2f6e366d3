-- This crate's definitions, said of a chart's rows as one struct.
use Rattle.std.specs.Prelude.{List, ℕ}
use Rattle.rows.specs.declared.Rows.{Rows}
use Rattle.writing.specs.Writing.{PlateWritten}

abbrev pub WrittenOf : Rows → (out out' : List ℕ) → Type 0
WrittenOf r = PlateWritten r.positions r.moves r.owners.now r.marks.now r.costs.now r.froms.now r.tos.now
