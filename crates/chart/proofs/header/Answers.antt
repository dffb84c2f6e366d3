-- `chart::header` meets its contract: `limits` judges the columns of line 0.
use Rattle.chart.specs.Text.{positions_of, moves_of}
use Rattle.chart.specs.Columns.{row_at}
use Rattle.chart.specs.Examined.{header_of, header_formed}
use Rattle.chart.proofs.header.Goals as goal

pub returns : goal.returns
unfolding header_of header_formed positions_of moves_of row_at
returns c = simp (c.limits.ensures, c.number-2.ensures, c.number.ensures, c.formed-ok.ensures, c.header_letter.ensures, c.row_at-row.ensures)
