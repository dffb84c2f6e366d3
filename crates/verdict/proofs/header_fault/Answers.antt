-- `header_fault` meets its contract: the three comparisons are with what was counted.
use Rattle.verdict.specs.Verdict.{header_right, header_verdict}
use Rattle.verdict.proofs.header_fault.Goals as goal

pub returns-then-rounds-highest : goal.returns-then-rounds-highest
unfolding header_verdict header_right
returns-then-rounds-highest c = let e = c.count_first_line-counted.ensures in rw (← e.rounds, ← e.highest-value, ← e.evers, c.if-rounds-highest.true)

pub returns-else-rounds-highest : goal.returns-else-rounds-highest
unfolding header_verdict header_right
returns-else-rounds-highest c = let e = c.count_first_line-counted.ensures in rw (← e.rounds, ← e.highest-value, ← e.evers, c.if-rounds-highest.false)
