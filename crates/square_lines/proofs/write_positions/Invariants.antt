-- `write_positions` meets its contract. The invariant: the lines of the positions below v are written, and behind them the buffer is as it
-- was. A turn writes the part behind them.
use Prim.Native.Nat.{◌*◌}
use Rattle.line.specs.Joined.{joined}
use Rattle.line.specs.Written.{Written}
use Rattle.square_lines.specs.Lines.{owner_line}
use Rattle.square_lines.proofs.write_positions.Given as goal

abbrev pub invariant-loop-v : goal.invariant-loop-v
invariant-loop-v l = Written (joined (owner_line l.owners l.marks) l.v) (l.v * 12) l.initial.lines l.lines
