-- `turn` meets its contract: the invariant says that the row is filled up to v and has kept its length.
use lib.ListN.{get_or}
use lib.Dec.{eqb}
use mathlib.Core.Bool.{not}
use Rattle.search.specs.Below.{bit}
use Rattle.rows.specs.Rows.{Filled}
use Rattle.round.proofs.turn.Given as goal

abbrev pub invariant-loop-v : goal.invariant-loop-v
invariant-loop-v l = Filled l.initial.flags l.flags l.v (λ j. bit (not (eqb (get_or l.firsts j 0) (get_or l.found j 0))))
