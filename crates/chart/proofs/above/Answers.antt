-- `chart::above` meets its contract: the tests say which case of `above` holds.
use Rattle.search.proofs.Cases.{cases}
use Rattle.chart.specs.Examined.{above}
use Rattle.chart.proofs.above.Goals as goal

pub returns-then-from0-from : goal.returns-then-from0-from
unfolding above
returns-then-from0-from c = search cases

pub returns-then-from-from0 : goal.returns-then-from-from0
unfolding above
returns-then-from-from0 c = search cases

pub returns-then-cost0-cost : goal.returns-then-cost0-cost
unfolding above
returns-then-cost0-cost c = search cases

pub returns-then-cost-cost0 : goal.returns-then-cost-cost0
unfolding above
returns-then-cost-cost0 c = search cases

pub returns : goal.returns
unfolding above
returns c = search cases
