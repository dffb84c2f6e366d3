-- `is_legal` meets its contract: each answer by the test that led to it.
use Rattle.restriction.specs.Restriction.{is_legal}
use Rattle.search.proofs.Cases.{cases}
use Rattle.restriction.proofs.is_legal.Goals as goal

pub returns-then-owners-v-eq0 : goal.returns-then-owners-v-eq0
unfolding is_legal
returns-then-owners-v-eq0 c = search cases

pub returns-else-owners-v-eq0 : goal.returns-else-owners-v-eq0
unfolding is_legal
returns-else-owners-v-eq0 c = search cases
