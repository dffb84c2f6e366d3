-- This crate's definitions, said of a chart's rows as one struct.
use Rattle.std.specs.Prelude.{List, ℕ, Option, Result}
use Rattle.rows.specs.declared.Rows.{Rows}
use Rattle.refusal.specs.declared.Refusal.{Refusal}
use Rattle.comparing.specs.declared.Difference.{Difference}
use Rattle.comparing.specs.Comparing.{FormedCompared}

abbrev pub ComparedOf : Rows → (plate choices : List ℕ) → Result (Option Difference) Refusal → Type 0
ComparedOf r = FormedCompared r.positions r.moves r.owners.now r.marks.now r.costs.now r.froms.now r.tos.now
