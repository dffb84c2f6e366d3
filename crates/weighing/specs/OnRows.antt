-- This crate's definitions, said of a chart's rows as one struct.
use Rattle.std.specs.Prelude.{ℕ, Bool, List}
use Rattle.game.specs.Arena.{Arena}
use Rattle.game.specs.Value.{Value}
use Rattle.rows.specs.declared.Rows.{Rows}
use Rattle.restriction.specs.Restriction.{Copied}
use Rattle.weighing.specs.Weighing.{LegalWeighed, RestrictedSolved, RowsWeighed, WeighedRows}

-- the moves that stay, copied
abbrev pub CopiedOf : Rows → (choices : List ℕ) (count : ℕ) (costs' froms' tos' : List ℕ) → Type 0
CopiedOf r choices = Copied r.owners.now r.costs.now r.froms.now r.tos.now choices r.moves

abbrev pub WeighedRowsOf : Arena → (choice : ℕ → Value) → Rows → (worths : List ℕ) → Type 0
WeighedRowsOf a choice r = WeighedRows a choice r.positions r.moves r.owners.now r.marks.now r.costs.now r.froms.now r.tos.now

abbrev pub RestrictedSolvedOf : Rows → (choices worths : List ℕ) (count : ℕ) (costs' froms' tos' worths' : List ℕ) → Type 0
RestrictedSolvedOf r = RestrictedSolved r.positions r.moves r.owners.now r.marks.now r.costs.now r.froms.now r.tos.now

abbrev pub LegalWeighedOf : Rows → (choices worths worths' : List ℕ) → Type 0
LegalWeighedOf r = LegalWeighed r.positions r.moves r.owners.now r.marks.now r.costs.now r.froms.now r.tos.now

abbrev pub WeighedOf : Rows → (choices worths worths' : List ℕ) → Bool → Type 0
WeighedOf r = RowsWeighed r.positions r.moves r.owners.now r.marks.now r.costs.now r.froms.now r.tos.now
