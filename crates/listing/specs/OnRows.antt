-- This crate's definitions, said of a chart's rows as one struct.
use Rattle.std.specs.Prelude.{ℕ, List, Result}
use Rattle.refusal.specs.declared.Refusal.{Refusal}
use Rattle.rows.specs.declared.Rows.{Rows}
use Rattle.listing.specs.Listing.{RowsListed}

abbrev pub ListedOf : Rows → (out out' : List ℕ) → Result ℕ Refusal → Type 0
ListedOf r = RowsListed r.positions r.moves r.owners.now r.marks.now r.costs.now r.froms.now r.tos.now
