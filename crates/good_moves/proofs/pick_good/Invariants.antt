-- `pick_good` meets its contract: the invariant says that of the first i moves the good ones are copied and counted.
use Prim.Native.Nat.{◌≤◌}
use Rattle.good_moves.specs.Picking.{Picked}
use Rattle.good_moves.proofs.pick_good.Given as goal

abbrev pub invariant-loop-i : goal.invariant-loop-i
invariant-loop-i l = (l.count ≤ l.i) × Picked l.owners l.costs l.froms l.tos l.values l.i l.count l.positions l.targets
