-- This crate's definitions, said of a chart's rows as one struct.
use Rattle.std.specs.Prelude.{ℕ, List}
use Rattle.rows.specs.declared.Rows.{Rows}
use Rattle.solver.specs.Solving.{Settling, Solving, Solved, NextValue}

abbrev pub SettlingOf : Rows → (k s : ℕ) (values steps values' steps' : List ℕ) → Type 0
SettlingOf r = Settling r.positions r.moves r.owners.now r.costs.now r.froms.now r.tos.now

abbrev pub SolvingOf : Rows → (last : ℕ) (values steps values' steps' : List ℕ) → Type 0
SolvingOf r = Solving r.positions r.moves r.owners.now r.marks.now r.costs.now r.froms.now r.tos.now

abbrev pub SolvedOf : Rows → (values steps values' steps' : List ℕ) → Type 0
SolvedOf r = Solved r.positions r.moves r.owners.now r.marks.now r.costs.now r.froms.now r.tos.now

abbrev pub NextValueOf : Rows → (last : ℕ) (values steps values' steps' : List ℕ) (count : ℕ) → Type 0
NextValueOf r = NextValue r.positions r.moves r.owners.now r.costs.now r.froms.now r.tos.now
