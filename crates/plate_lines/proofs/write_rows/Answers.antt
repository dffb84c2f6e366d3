-- `plate_lines::write_rows` meets its contract: the first line is made, and then the part behind it is written (`plate-written`).
use native.Mathlib.Omega.{arith}
use Rattle.rows.specs.Numbers.{row_value}
use Rattle.plate.specs.Line.{plate-written}
use Rattle.plate_lines.proofs.write_rows.Goals as goal

pub returns : goal.returns
returns c =
    let a = c.args in
    plate-written a.n a.header (row_value a.values.now) (row_value a.choices.now) (row_value a.steps.now) a.out.now _ _ (omega (arith, c)) c.write_header.ensures c.write_positions.ensures
