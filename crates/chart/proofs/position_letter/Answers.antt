-- `chart::position_letter` meets its contract: the tests say which case of `position_letter` holds.
use Rattle.search.proofs.Cases.{cases}
use Rattle.chart.specs.Examined.{position_letter}
use Rattle.chart.proofs.position_letter.Goals as goal

pub returns-then-letter-eq79 : goal.returns-then-letter-eq79
unfolding position_letter
returns-then-letter-eq79 c = search cases

pub returns-then-letter-eq76 : goal.returns-then-letter-eq76
unfolding position_letter
returns-then-letter-eq76 c = search cases

pub returns : goal.returns
unfolding position_letter
returns c = search cases
