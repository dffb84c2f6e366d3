-- `first_value` meets its contract: cleared rows hold the empty table, and round (0, 0) takes the positions marked 1.
use Rattle.solver.specs.SolveLaws.{solving-first}
use Rattle.solver.proofs.first_value.Goals as goal

pub returns : goal.returns
returns c = solving-first c.clear.ensures c.clear-2.ensures c.place.ensures c.settle.ensures
