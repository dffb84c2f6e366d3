-- `plate_lines::write_position` meets its contract: a letter, four fields and a line feed make a line (`line-of-fields`). A call keeps
-- the length.
use native.Mathlib.Omega.{arith}
use mathlib.Core.Path.{refl}
use Rattle.line.specs.MadeLaws.{FieldsMade, line-of-fields}
use Rattle.rows.specs.Numbers.{value_of}
use Rattle.plate.specs.Text.{position_entries}
use Rattle.plate_lines.proofs.write_position.Goals as goal

pub returns : goal.returns
unfolding FieldsMade
returns c =
    let a = c.args in
    line-of-fields 86 (position_entries a.v (value_of a.value) (value_of a.choice) (value_of a.step)) a.part.now _ (omega (arith, c))
    (_, c.make_number.ensures, (_, c.make_value.ensures, (_, c.make_or_dash.ensures, (_, c.make_or_dash-2.ensures, refl))))
