-- `see` meets its contract: field by field.
use Rattle.conditions.specs.Position.{joined}
use Rattle.conditions.proofs.see.Goals as goal

pub returns : goal.returns
unfolding joined
returns c = rw (← c.show-one.ensures)
