-- `chart::judge_order` meets its contract: the tests say which case of `ordered` holds.
use Rattle.search.proofs.Cases.{cases}
use Rattle.chart.specs.Examined.{ordered}
use Rattle.chart.proofs.judge_order.Goals as goal

pub returns-then-line-n : goal.returns-then-line-n
unfolding ordered
returns-then-line-n c = search cases

pub returns-then-rises : goal.returns-then-rises
unfolding ordered
returns-then-rises c = simp c.if-rises.true (search cases)

pub returns-else-rises : goal.returns-else-rises
unfolding ordered
returns-else-rises c = simp c.if-rises.false (search cases)
