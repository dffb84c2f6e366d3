-- `chart::move_letter` meets its contract: the tests say which case of `move_letter` holds.
use Rattle.search.proofs.Cases.{cases}
use Rattle.chart.specs.Examined.{move_letter}
use Rattle.chart.proofs.move_letter.Goals as goal

pub returns-then-letter-eq77 : goal.returns-then-letter-eq77
unfolding move_letter
returns-then-letter-eq77 c = search cases

pub returns : goal.returns
unfolding move_letter
returns c = search cases
