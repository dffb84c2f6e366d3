-- `chart::rise` meets its contract: `above` compares the two moves.
use Rattle.chart.proofs.rise.Goals as goal

pub returns : goal.returns
returns c = simp (c.above.ensures, c.number-2.ensures, c.cost.ensures, c.number.ensures)
