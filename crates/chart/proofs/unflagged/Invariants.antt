-- `chart::unflagged` meets its contract, by the laws of `first_from`: the first fault of what is left is the first fault of all.
use Prim.Native.Nat.{◌-◌, ◌≤◌}
use mathlib.Core.Path.{◌≡◌}
use Rattle.chart.specs.Examined.{first_fault, unflagged_at}
use Rattle.chart.proofs.unflagged.Given as goal

abbrev pub invariant-loop-v : goal.invariant-loop-v
invariant-loop-v l = (l.v ≤ l.n) × (first_fault (unflagged_at l.text l.flags) (l.n - l.v) l.v ≡ first_fault (unflagged_at l.text l.flags) l.n 0)
