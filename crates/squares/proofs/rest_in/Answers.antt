-- `rest_in` meets its contract: either answer by the test that led to it.
use Rattle.search.proofs.Cases.{cases}
use Rattle.numbering.specs.Squares.{lane_in, rest_in}
use Rattle.squares.proofs.rest_in.Goals as goal

pub returns-then-d-console : goal.returns-then-d-console
unfolding lane_in rest_in
returns-then-d-console c = simp (← c.console_digits-console.ensures) (search cases)

pub returns-else-d-console : goal.returns-else-d-console
unfolding lane_in rest_in
returns-else-d-console c = simp (← c.console_digits-console.ensures) (search cases)
