-- `point_on` meets its contract: the invariant says that the row has the lowest next positions by the first i moves.
use Rattle.way_rows.specs.Steps.{Pointed}
use Rattle.way_rows.proofs.point_on.Given as goal

abbrev pub invariant-loop-i : goal.invariant-loop-i
invariant-loop-i l = Pointed l.n l.froms l.tos l.left l.i l.next
