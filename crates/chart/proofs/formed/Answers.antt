-- `chart::formed` meets its contract: the answer of the letter's test says which case of `formed` holds.
use Rattle.chart.specs.Examined.{formed}
use Rattle.chart.proofs.formed.Goals as goal

pub returns-then-allowed : goal.returns-then-allowed
unfolding formed
returns-then-allowed c = simp (c.if-allowed.true, c.numbered.ensures)

pub returns : goal.returns
unfolding formed
returns c = simp c.if-allowed.false
