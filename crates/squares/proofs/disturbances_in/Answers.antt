-- `disturbances_in` meets its contract: either answer by the test that led to it.
use Rattle.search.proofs.Cases.{cases}
use Rattle.numbering.specs.Squares.{lane_in, disturbances_in}
use Rattle.squares.proofs.disturbances_in.Goals as goal

pub returns-then-d-console_digits : goal.returns-then-d-console_digits
unfolding lane_in disturbances_in
returns-then-d-console_digits c = simp (← c.console_digits.ensures) (search cases)

pub returns-else-d-console_digits : goal.returns-else-d-console_digits
unfolding lane_in disturbances_in
returns-else-d-console_digits c = simp (← c.console_digits.ensures) (search cases)
