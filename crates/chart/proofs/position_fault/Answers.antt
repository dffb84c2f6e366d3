-- `chart::position_fault` meets its contract: `judge_position` judges the columns, of which the second is the mark.
use Rattle.chart.specs.Examined.{position_row_finding}
use Rattle.chart.proofs.position_fault.Goals as goal

pub returns : goal.returns
unfolding position_row_finding
returns c = simp (c.judge_position.ensures, c.number-2.ensures, c.number.ensures, c.formed-ok.ensures, c.position_letter.ensures, c.mark-mark.ensures)
