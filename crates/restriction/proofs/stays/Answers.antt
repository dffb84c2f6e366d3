-- `stays` meets its contract: each answer by the tests that led to it.
use Rattle.restriction.specs.Restriction.{move_stays}
use Rattle.search.proofs.Cases.{cases}
use Rattle.restriction.proofs.stays.Goals as goal

pub returns-then-costs-i-ne0 : goal.returns-then-costs-i-ne0
unfolding move_stays
returns-then-costs-i-ne0 c = search cases

pub returns-then-owners-from-ne0 : goal.returns-then-owners-from-ne0
unfolding move_stays
returns-then-owners-from-ne0 c = search cases

pub returns : goal.returns
unfolding move_stays
returns c = search cases
