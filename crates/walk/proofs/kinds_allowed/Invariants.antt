-- `walk::kinds_allowed` meets its contract. The invariant: the kinds of the first v positions are allowed.
use Prim.Native.Nat.{◌≤◌, ◌-◌}
use Rattle.walk.specs.Walked.{KindsAllowed}
use Rattle.walk.proofs.kinds_allowed.Given as goal

abbrev pub invariant-loop-v : goal.invariant-loop-v
invariant-loop-v l = (l.v ≤ l.n) × KindsAllowed l.owners l.v l.kinds
