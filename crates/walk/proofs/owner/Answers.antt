-- `walk::owner` meets its contract: the tests say which case of `owner_of` holds.
use Rattle.search.proofs.Cases.{cases}
use Rattle.chart.specs.Meaning.{owner_of}
use Rattle.walk.proofs.owner.Goals as goal

pub returns-then-letter-eq76 : goal.returns-then-letter-eq76
unfolding owner_of
returns-then-letter-eq76 c = search cases

pub returns-then-letter-eq82 : goal.returns-then-letter-eq82
unfolding owner_of
returns-then-letter-eq82 c = search cases

pub returns-else-letter-eq82 : goal.returns-else-letter-eq82
unfolding owner_of
returns-else-letter-eq82 c = search cases
