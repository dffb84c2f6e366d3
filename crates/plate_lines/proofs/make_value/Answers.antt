-- `plate_lines::make_value` meets its contract: the test says which case of `value_of` holds.
use Rattle.rows.specs.Numbers.{value_of}
use Rattle.plate.specs.Text.{value_entry}
use borrow.Author.Tests.{ne_eqb}
use Rattle.plate_lines.proofs.make_value.Goals as goal

pub returns-then-x-eq-NONE : goal.returns-then-x-eq-NONE
unfolding value_of value_entry
returns-then-x-eq-NONE c = simp c.if-x-eq-NONE.true c.make_ever.ensures

pub returns-else-x-eq-NONE : goal.returns-else-x-eq-NONE
unfolding value_of value_entry
returns-else-x-eq-NONE c = simp (ne_eqb _ 65535 c.if-x-eq-NONE.false) c.make_number.ensures
