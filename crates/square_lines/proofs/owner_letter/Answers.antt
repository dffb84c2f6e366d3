-- `owner_letter` meets its contract: either letter by the test that led to it.
use Rattle.search.proofs.Cases.{cases}
use Rattle.square_lines.specs.Lines.{owner_byte}
use Rattle.square_lines.proofs.owner_letter.Goals as goal

pub returns-then-owner-eq1 : goal.returns-then-owner-eq1
unfolding owner_byte
returns-then-owner-eq1 c = search cases

pub returns-else-owner-eq1 : goal.returns-else-owner-eq1
unfolding owner_byte
returns-else-owner-eq1 c = search cases
