-- `spelling::zeros` meets its contract: the tests say which case of `zeros_of` holds.
use Rattle.search.proofs.Cases.{cases}
use Rattle.spelling.specs.Words.{zeros_of}
use Rattle.spelling.proofs.zeros.Goals as goal

pub returns-then-x-lt10 : goal.returns-then-x-lt10
unfolding zeros_of
returns-then-x-lt10 c = search cases

pub returns-then-x-lt100 : goal.returns-then-x-lt100
unfolding zeros_of
returns-then-x-lt100 c = search cases

pub returns : goal.returns
unfolding zeros_of
returns c = search cases
