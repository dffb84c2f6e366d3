-- `plate_lines::write_positions` meets its contract. The invariant: the lines of the positions so far are written, and behind them the
-- buffer is as it was. A turn writes the part behind them.
use Rattle.rows.specs.Numbers.{row_value}
use Rattle.plate.specs.Line.{lines_more}
use Rattle.line.specs.Joined.{joined}
use Rattle.line.specs.Written.{written_none}
use Rattle.plate.specs.Text.{position_lines}
use native.Mathlib.Omega.{arith}
use Rattle.plate_lines.proofs.write_positions.Goals as goal

pub loop-v-init : goal.loop-v-init
unfolding position_lines joined
loop-v-init c = written_none _

pub loop-v-preserved : goal.loop-v-preserved
loop-v-preserved c =
    let a = c.args in
    let more = lines_more (row_value a.values.now) (row_value a.choices.now) (row_value a.steps.now) c.loop-v.v a.lines.now c.loop-v.lines _ c.loop-v.invariant (omega arith) c.write_position.ensures in
    more
