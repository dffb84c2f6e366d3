-- `follow` meets its contract: the invariant says that the first i steps are noted.
use Rattle.way_rows.specs.StepsLaws.{Following}
use Rattle.way_rows.proofs.follow.Given as goal

abbrev pub invariant-loop-i : goal.invariant-loop-i
invariant-loop-i l = Following l.n l.start l.worths l.left l.next l.positions l.led l.here l.i
