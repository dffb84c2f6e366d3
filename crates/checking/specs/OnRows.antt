-- This crate's definitions, said of a chart's rows as one struct.
use Rattle.std.specs.Prelude.{ℕ, List, ⊤, Result}
use Rattle.rows.specs.declared.Rows.{Rows}
use Rattle.refusal.specs.declared.Refusal.{Refusal}
use Rattle.verdict.specs.declared.FoundFault.{FoundFault}
use Rattle.checking.specs.Checking.{FormedIs, PlateIs}

abbrev pub PlateOf : Rows → (plate : List ℕ) → Result ⊤ Refusal → Type 0
PlateOf r = PlateIs r.positions r.moves r.owners.now r.marks.now r.costs.now r.froms.now r.tos.now

abbrev pub FormedOf : Rows → (plate : List ℕ) → Result ⊤ FoundFault → Type 0
FormedOf r = FormedIs r.positions r.moves r.owners.now r.marks.now r.costs.now r.froms.now r.tos.now
