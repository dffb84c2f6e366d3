-- `flag_owners` meets its contract: the invariant says that the row is filled up to v and has kept its length.
use mathlib.Core.Bool.{false}
use Rattle.rows.specs.Rows.{Filled}
use Rattle.round.specs.Round.{ready_flag}
use Rattle.round.proofs.flag_owners.Given as goal

abbrev pub invariant-loop-v : goal.invariant-loop-v
invariant-loop-v l = Filled l.initial.flags l.flags l.v (λ j. ready_flag l.owners j false)
