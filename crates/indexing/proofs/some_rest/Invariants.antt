-- `some_rest` meets its contract: the invariant says that none of the positions below v rests.
use Prim.Native.Nat.{◌≤◌, ◌-◌}
use mathlib.Core.Path.{◌≡◌}
use mathlib.Core.Bool.{false}
use Rattle.indexing.specs.Indexing.{rests_below}
use Rattle.indexing.proofs.some_rest.Given as goal

abbrev pub invariant-loop-v : goal.invariant-loop-v
invariant-loop-v l = (l.v ≤ l.n) × (rests_below l.owners l.v ≡ false)
