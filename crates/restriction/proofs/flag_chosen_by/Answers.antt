-- `flag_chosen_by` meets its contract: each way out by the tests that led to it.
use Rattle.restriction.specs.Restriction.{is_chosen}
use Rattle.search.proofs.Cases.{cases}
use Rattle.restriction.proofs.flag_chosen_by.Goals as goal

pub returns-then-costs-i-ne0 : goal.returns-then-costs-i-ne0
unfolding is_chosen
returns-then-costs-i-ne0 c = search cases

pub returns-then-choices-from : goal.returns-then-choices-from
unfolding is_chosen
returns-then-choices-from c = search cases

pub returns-else-choices-from : goal.returns-else-choices-from
unfolding is_chosen
returns-else-choices-from c = search cases
