-- `straighten` meets its contract: the invariant says that the first i targets are there.
use Rattle.rows.specs.Rows.{Filled}
use Rattle.way_rows.specs.Steps.{straight_to}
use Rattle.way_rows.proofs.straighten.Given as goal

abbrev pub invariant-loop-i : goal.invariant-loop-i
invariant-loop-i l = Filled l.initial.straight l.straight l.i (straight_to l.worths l.costs l.froms l.tos)
