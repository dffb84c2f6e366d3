-- `walk::walk_positions` meets its contract. The invariant: the first v lines are good, and the rows are filled up to v.
use Prim.Native.Nat.{◌≤◌, ◌-◌}
use Rattle.walk.specs.Walked.{PositionsPassed}
use Rattle.walk.proofs.walk_positions.Given as goal

abbrev pub invariant-loop-v : goal.invariant-loop-v
invariant-loop-v l = (l.v ≤ l.n) × PositionsPassed l.text l.v l.initial.owners l.owners l.initial.marks l.marks
