-- `show` meets its contract: the invariant says that the row is filled up to v and has kept its length.
use lib.ListN.{get_or}
use lib.Dec.{eqb}
use Rattle.search.specs.Below.{bit}
use Rattle.rows.specs.Rows.{Filled}
use Rattle.round.proofs.show.Given as goal

abbrev pub invariant-loop-v : goal.invariant-loop-v
invariant-loop-v l = Filled l.initial.shows l.shows l.v (λ j. bit (eqb (get_or l.values j 0) l.k))
