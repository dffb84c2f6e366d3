-- `set_needs` meets its contract: the invariant says that the codes of the first v positions have their needs.
use Rattle.needs.specs.NeedLaws.{SetBefore}
use Rattle.needs.proofs.set_needs.Given as goal

abbrev pub invariant-loop-v : goal.invariant-loop-v
invariant-loop-v l = SetBefore l.v l.owners l.initial.needs l.needs
