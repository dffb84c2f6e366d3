-- `point_by` meets its contract: each way out by the tests that led to it.
use Rattle.search.proofs.Cases.{cases}
use Rattle.way_rows.specs.Steps.{shortens}
use Rattle.way_rows.proofs.point_by.Goals as goal

pub returns-then-left-from : goal.returns-then-left-from
unfolding shortens
returns-then-left-from c = search cases

pub returns-then-to-next : goal.returns-then-to-next
unfolding shortens
returns-then-to-next c = search cases
