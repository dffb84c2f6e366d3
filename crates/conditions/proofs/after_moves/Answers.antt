-- `after_moves` meets its contract: each answer by the tests that led to it.
use Rattle.conditions.specs.Position.{after_moves}
use Rattle.conditions.proofs.after_moves.Goals as goal

pub returns-then-line-seen : goal.returns-then-line-seen
unfolding after_moves
returns-then-line-seen c = simp c.if-line-seen.true

pub returns-then-seen : goal.returns-then-seen
unfolding after_moves
returns-then-seen c = simp (c.if-line-seen.false, c.if-seen.true)

pub returns-then-exempt-ruined : goal.returns-then-exempt-ruined
unfolding after_moves
returns-then-exempt-ruined c = simp (c.if-line-seen.false, c.if-seen.false, c.if-exempt-ruined.true)

pub returns-else-exempt-ruined : goal.returns-else-exempt-ruined
unfolding after_moves
returns-else-exempt-ruined c = simp (c.if-line-seen.false, c.if-seen.false, c.if-exempt-ruined.false)
