-- `chart::cost` meets its contract: the test says which case of `cost_of` holds.
use Rattle.search.proofs.Cases.{cases}
use Rattle.chart.specs.Meaning.{cost_of}
use Rattle.chart.proofs.cost.Goals as goal

pub returns-then-letter-eq68 : goal.returns-then-letter-eq68
unfolding cost_of
returns-then-letter-eq68 c = search cases

pub returns-else-letter-eq68 : goal.returns-else-letter-eq68
unfolding cost_of
returns-else-letter-eq68 c = search cases
