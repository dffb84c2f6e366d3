-- `straight_to` meets its contract: each answer by the tests that led to it.
use Rattle.search.proofs.Cases.{cases}
use Rattle.way_rows.specs.Steps.{is_tight, straight_to}
use Rattle.way_rows.proofs.straight_to.Goals as goal

pub returns-then-here : goal.returns-then-here
unfolding straight_to is_tight
returns-then-here c = search cases

pub returns-then-here-worths : goal.returns-then-here-worths
unfolding straight_to is_tight
returns-then-here-worths c = search cases

pub returns : goal.returns
unfolding straight_to is_tight
returns c = search cases
