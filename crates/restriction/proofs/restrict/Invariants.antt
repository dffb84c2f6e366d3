-- `restrict` meets its contract: the invariant says that of the first i moves those that stay are copied and counted.
use Prim.Native.Nat.{◌≤◌}
use Rattle.restriction.specs.Restriction.{Copied}
use Rattle.restriction.proofs.restrict.Given as goal

abbrev pub invariant-loop-i : goal.invariant-loop-i
invariant-loop-i l =
    (l.count ≤ l.i) × Copied l.owners l.costs l.froms l.tos l.choices l.i l.count l.costskept l.fromskept l.toskept
