-- `meant_in` meets its contract: either answer by the test that led to it.
use Rattle.search.proofs.Cases.{cases}
use Rattle.numbering.specs.Squares.{meant_in}
use Rattle.squares.proofs.meant_in.Goals as goal

pub returns-then-rest-t : goal.returns-then-rest-t
unfolding meant_in
returns-then-rest-t c = simp (← c.rest_in-rest.ensures) (search cases)

pub returns-else-rest-t : goal.returns-else-rest-t
unfolding meant_in
returns-else-rest-t c = simp (← c.rest_in-rest.ensures) (search cases)
