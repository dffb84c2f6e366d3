-- `settle` meets its contract: the invariant says that the rows hold the table after round (k, s). A round that places
-- nobody leaves the table of the last round, and so does the n-th.
use Rattle.solver.specs.OnRows.{SettlingOf}
use Rattle.solver.proofs.settle.Given as goal

abbrev pub invariant-loop-s : goal.invariant-loop-s
invariant-loop-s l = SettlingOf l.rows l.k l.s l.initial.values l.initial.steps l.values l.steps
