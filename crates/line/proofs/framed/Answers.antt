-- `line::framed` meets its contract, by the test of the letter.
use Rattle.line.specs.Text.{framed}
use Rattle.search.proofs.Cases.{cases}
use Rattle.line.proofs.framed.Goals as goal

pub returns-then-text-at : goal.returns-then-text-at
unfolding framed
returns-then-text-at c = search cases

pub returns : goal.returns
unfolding framed
returns c = search cases
