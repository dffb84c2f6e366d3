-- `chart::row_at` meets its contract: each column is read in its place.
use Rattle.chart.specs.Text.{letter_at, first_at, second_at, end_at}
use Rattle.chart.specs.Columns.{row_at}
use Rattle.chart.proofs.row_at.Goals as goal

pub returns : goal.returns
unfolding row_at letter_at first_at second_at end_at
returns c = simp (c.read-first.ensures, c.read-second.ensures)
