-- `earlier` meets its contract: ranks are compared as value and step are.
use Rattle.conditions.specs.Position.{earlier_target}
use Rattle.conditions.specs.PositionLaws.{rank-order}
use Rattle.conditions.proofs.earlier.Goals as goal

pub returns : goal.returns
unfolding earlier_target
returns c = rank-order c.rank.ensures c.rank-2.ensures
