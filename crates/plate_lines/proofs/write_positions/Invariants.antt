-- `plate_lines::write_positions` meets its contract. The invariant: the lines of the positions so far are written, and behind them the
-- buffer is as it was. A turn writes the part behind them.
use Rattle.rows.specs.Numbers.{row_value}
use Rattle.line.specs.Written.{Written}
use Rattle.plate.specs.Text.{position_lines}
use Prim.Native.Nat.{◌*◌}
use Rattle.plate_lines.proofs.write_positions.Given as goal

abbrev pub invariant-loop-v : goal.invariant-loop-v
invariant-loop-v l =
    Written (position_lines (row_value l.values) (row_value l.choices) (row_value l.steps) l.v) (l.v * 22) l.initial.lines l.lines
