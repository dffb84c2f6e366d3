-- `visit_round` meets its contract: the invariant says that the positions of the order before `at` were visited.
use Prim.Native.Nat.{ℕ, ◌≤◌}
use lib.ListN.{get_or}
use Rattle.visits.specs.Lists.{among}
use Rattle.visits.specs.Standing.{Setting, AsLong, Ready, Progress}
use Rattle.visits.proofs.visit_round.Given as goal

abbrev pub invariant-loop-at : goal.invariant-loop-at
invariant-loop-at l =
    AsLong l.initial.needs l.initial.values l.initial.steps l.initial.order l.initial.due l.initial.later l.needs l.values l.steps l.order l.due l.later
    × ((n : ℕ) (g : Setting n l.starts l.entries) → Ready g l.k l.head l.initial.grown l.initial.needs l.initial.values l.initial.steps l.initial.order l.initial.due l.initial.later
    → (l.head ≤ l.at) × (l.at ≤ l.initial.grown.tail) × Progress g l.k l.s (λ i. among l.order l.at (get_or g.tos i 0)) l.initial.grown l.initial.needs l.initial.values l.initial.steps l.initial.order l.grown l.needs l.values l.steps l.order l.due l.later)
