-- `is_better` meets its contract: each answer by the tests that led to it.
use Rattle.choice.specs.Choose.{is_better}
use Rattle.search.proofs.Cases.{cases}
use Rattle.choice.proofs.is_better.Goals as goal

pub returns-then-best-eq-NONE : goal.returns-then-best-eq-NONE
unfolding is_better
returns-then-best-eq-NONE c = search cases

pub returns-then-old-new : goal.returns-then-old-new
unfolding is_better
returns-then-old-new c = search cases

pub returns-then-old-new-2 : goal.returns-then-old-new-2
unfolding is_better
returns-then-old-new-2 c = search cases

pub returns : goal.returns
unfolding is_better
returns c = search cases
