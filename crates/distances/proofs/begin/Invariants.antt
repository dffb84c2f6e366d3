-- `begin` meets its contract: the invariant says that the first v positions were looked at.
use Rattle.distances.specs.Distances.{Begun}
use Rattle.distances.proofs.begin.Given as goal

abbrev pub invariant-loop-v : goal.invariant-loop-v
invariant-loop-v l = Begun l.n l.marks l.v l.left l.order l.tail
