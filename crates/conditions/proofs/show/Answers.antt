-- `show` meets its contract: by the kind of the move.
use borrow.Author.Tests.{eq-eqb, ne_eqb}
use Rattle.conditions.specs.Position.{shown}
use Rattle.conditions.proofs.show.Goals as goal

pub returns-then-target-ne0 : goal.returns-then-target-ne0
unfolding shown
returns-then-target-ne0 c = rw (ne_eqb c.args.target.cost 0 c.if-target-ne0.true)

pub returns : goal.returns
unfolding shown
returns c = rw (eq-eqb c.args.target.cost 0 c.if-target-ne0.false, ← c.earlier-sooner.ensures)
