-- `settle` meets its contract: the invariant says that the rounds up to (k, s) were carried out, and that the order has those of the last
-- from `at` on.
use Prim.Native.Nat.{ℕ, ◌-◌, ◌≤◌}
use Rattle.solver.specs.Solving.{Settling}
use Rattle.visits.specs.Standing.{Setting, AsLong, Ready}
use Rattle.filed.proofs.settle.Given as goal

abbrev pub invariant-loop-grown : goal.invariant-loop-grown
invariant-loop-grown l =
    AsLong l.initial.needs l.initial.values l.initial.steps l.initial.order l.initial.due l.initial.later l.needs l.values l.steps l.order l.due l.later
    × ((n : ℕ) (g : Setting n l.starts l.entries) → Ready g l.k l.head l.initial.grown l.initial.needs l.initial.values l.initial.steps l.initial.order l.initial.due l.initial.later
    → Settling n g.m g.owners g.costs g.froms g.tos l.k l.s l.initial.values l.initial.steps l.values l.steps
    × Ready g l.k l.at l.grown l.needs l.values l.steps l.order l.due l.later × (l.s ≤ l.grown.tail) × (l.initial.grown.tail ≤ l.grown.tail))

abbrev pub decreases-loop-grown : goal.decreases-loop-grown
decreases-loop-grown l = 512 - l.grown.tail
