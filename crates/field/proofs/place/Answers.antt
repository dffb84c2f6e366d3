-- `field::place` meets its contract: the test says which case of `place_byte` holds.
use Rattle.search.proofs.Cases.{cases}
use Rattle.field.specs.Text.{place_byte}
use Rattle.field.proofs.place.Goals as goal

pub returns-then-x-unit : goal.returns-then-x-unit
unfolding place_byte
returns-then-x-unit c = search cases

pub returns-else-x-unit : goal.returns-else-x-unit
unfolding place_byte
returns-else-x-unit c = search cases
