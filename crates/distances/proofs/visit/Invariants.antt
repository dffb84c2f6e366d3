-- `visit` meets its contract: the invariant says that the lines into the position before i were looked at.
use Prim.Native.Nat.{ℕ, ◌-◌}
use mathlib.Core.List.{List}
use Rattle.chains.specs.Chains.{Chained}
use Rattle.distances.specs.Distances.{Joins, Searching}
use Rattle.distances.specs.SearchLaws.{Visiting}
use Rattle.distances.proofs.visit.Given as goal

abbrev pub invariant-loop-i : goal.invariant-loop-i
invariant-loop-i l =
    (marks tos : List ℕ) → Chained tos l.m 0 l.heads l.nexts → Joins l.n l.m l.froms tos → Searching l.n l.m marks l.froms tos l.head l.tail l.initial.left l.initial.order → Visiting l.n l.m marks l.froms tos l.head l.to l.count l.left l.order l.last l.i

abbrev pub decreases-loop-i : goal.decreases-loop-i
decreases-loop-i l = l.m - l.i
