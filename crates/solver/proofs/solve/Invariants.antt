-- `solve` meets its contract: the invariant says that the rows hold the table that the value after `last` begins with. A
-- value whose first round places nobody is the end, and so is the n-th.
use mathlib.Core.Path.{◌≡◌}
use lib.ListN.{length}
use Rattle.solver.specs.OnRows.{SolvingOf}
use Rattle.solver.proofs.solve.Given as goal

abbrev pub invariant-loop-last : goal.invariant-loop-last
invariant-loop-last l =
    (length l.flags ≡ 512) × SolvingOf l.rows l.last l.initial.values l.initial.steps l.values l.steps
