-- `gather` meets its contract: the invariant says that the list has the positions below v.
use lib.ListN.{get_or}
use lib.Dec.{eqb}
use Rattle.visits.specs.Lists.{Listed}
use Rattle.filed.proofs.gather.Given as goal

abbrev pub invariant-loop-v : goal.invariant-loop-v
invariant-loop-v l = Listed l.v l.late l.later (λ u. eqb (get_or l.marks u 0) 1)
