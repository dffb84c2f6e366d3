-- `choose_by` meets its contract: each way out by the tests that led to it.
use Rattle.choice.specs.Choose.{own_move}
use Rattle.search.proofs.Cases.{cases}
use Rattle.choice.proofs.choose_by.Goals as goal

pub returns-then-costs-i-ne0 : goal.returns-then-costs-i-ne0
unfolding own_move
returns-then-costs-i-ne0 c = search cases

pub returns-then-owners-from-ne0 : goal.returns-then-owners-from-ne0
unfolding own_move
returns-then-owners-from-ne0 c = search cases

pub returns-then-is_better : goal.returns-then-is_better
unfolding own_move
returns-then-is_better c = simp (← c.is_better.ensures, c.if-is_better.true) (search cases)
