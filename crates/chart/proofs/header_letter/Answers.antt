-- `chart::header_letter` meets its contract: the test is the one of `header_letter`.
use mathlib.Core.Path.{refl}
use Rattle.chart.specs.Examined.{header_letter}
use Rattle.chart.proofs.header_letter.Goals as goal

pub returns : goal.returns
unfolding header_letter
returns c = refl
