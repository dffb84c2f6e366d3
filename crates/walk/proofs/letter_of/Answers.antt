-- `walk::letter_of` meets its contract: the tests say which case of `letter_of` holds.
use Rattle.search.proofs.Cases.{cases}
use Rattle.walk.specs.Walked.{letter_of}
use Rattle.walk.proofs.letter_of.Goals as goal

pub returns-then-owner-eq1 : goal.returns-then-owner-eq1
unfolding letter_of
returns-then-owner-eq1 c = search cases

pub returns-then-owner-eq2 : goal.returns-then-owner-eq2
unfolding letter_of
returns-then-owner-eq2 c = search cases

pub returns-else-owner-eq2 : goal.returns-else-owner-eq2
unfolding letter_of
returns-else-owner-eq2 c = search cases
