-- `plate_lines::write_header` meets its contract: a letter, four fields and a line feed make a line (`line-of-fields`). A call keeps
-- the length.
use native.Mathlib.Omega.{arith}
use mathlib.Core.Path.{refl}
use Rattle.line.specs.MadeLaws.{FieldsMade, line-of-fields}
use Rattle.plate.specs.Text.{header_entries}
use Rattle.plate_lines.proofs.write_header.Goals as goal

pub returns : goal.returns
unfolding FieldsMade
returns c =
    let a = c.args in
    line-of-fields 80 (header_entries a.n a.header) a.part.now _ (omega (arith, c))
    (_, c.make_number.ensures, (_, c.make_number-2.ensures, (_, c.make_or_dash.ensures, (_, c.make_number-3.ensures, refl))))
