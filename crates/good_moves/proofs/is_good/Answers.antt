-- `is_good` meets its contract: each answer by the tests that led to it.
use Rattle.search.proofs.Cases.{cases}
use Rattle.good_moves.specs.Picking.{is_good}
use Rattle.good_moves.proofs.is_good.Goals as goal

pub returns-then-costs-i-ne0 : goal.returns-then-costs-i-ne0
unfolding is_good
returns-then-costs-i-ne0 c = search cases

pub returns-then-owners-from-ne0 : goal.returns-then-owners-from-ne0
unfolding is_good
returns-then-owners-from-ne0 c = search cases

pub returns : goal.returns
unfolding is_good
returns c = search cases
