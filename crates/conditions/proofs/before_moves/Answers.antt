-- `before_moves` meets its contract: each answer by the tests that led to it.
use Rattle.conditions.specs.Position.{before_moves}
use Rattle.conditions.proofs.before_moves.Goals as goal

pub returns-then-line : goal.returns-then-line
unfolding before_moves
returns-then-line c = simp c.if-line.true

pub returns-then-line-2 : goal.returns-then-line-2
unfolding before_moves
returns-then-line-2 c = simp (c.if-line.false, c.if-line-2.true)

pub returns-then-line-3 : goal.returns-then-line-3
unfolding before_moves
returns-then-line-3 c = simp (c.if-line.false, c.if-line-2.false, c.if-line-3.true)

pub returns : goal.returns
unfolding before_moves
returns c = simp (c.if-line.false, c.if-line-2.false, c.if-line-3.false)
