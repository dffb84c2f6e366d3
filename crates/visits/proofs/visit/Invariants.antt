-- `visit` meets its contract: the invariant says that the entries before place j of the file were looked at.
use Prim.Native.Nat.{ℕ, ◌+◌, ◌≤◌, ◌<◌}
use lib.ListN.{get_or}
use Rattle.filing.specs.Filing.{start_of}
use Rattle.visits.specs.Standing.{Setting, AsLong, Ready, Progress}
use Rattle.visits.specs.VisitLaws.{seen_at}
use Rattle.visits.proofs.visit.Given as goal

abbrev pub invariant-loop-j : goal.invariant-loop-j
invariant-loop-j l =
    AsLong l.initial.needs l.initial.values l.initial.steps l.initial.order l.initial.due l.initial.later l.needs l.values l.steps l.order l.due l.later
    × ((n : ℕ) (g : Setting n l.starts l.entries) → Ready g l.k l.head l.initial.grown l.initial.needs l.initial.values l.initial.steps l.initial.order l.initial.due l.initial.later → l.head < l.initial.grown.tail
    → (start_of g.tos g.m (get_or l.initial.order l.head 0) ≤ l.j) × (l.j ≤ start_of g.tos g.m (get_or l.initial.order l.head 0 + 1))
    × Progress g l.k l.s (seen_at g l.initial.order l.head (get_or l.initial.order l.head 0) l.j) l.initial.grown l.initial.needs l.initial.values l.initial.steps l.initial.order l.grown l.needs l.values l.steps l.order l.due l.later)
