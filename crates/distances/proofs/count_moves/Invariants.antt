-- `count_moves` meets its contract: the invariant says that the moves into the first positions of the order were looked at.
use Prim.Native.Nat.{◌-◌}
use Rattle.distances.specs.Distances.{Searching}
use Rattle.distances.proofs.count_moves.Given as goal

abbrev pub invariant-loop-head : goal.invariant-loop-head
invariant-loop-head l = Searching l.n l.m l.marks l.froms l.tos l.head l.tail l.left l.order

abbrev pub decreases-loop-head : goal.decreases-loop-head
decreases-loop-head l = l.n - l.head
