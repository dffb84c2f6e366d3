-- `write_lines` meets its contract. The invariant: the lines of the pairs so far are written, and behind them the buffer is as it was. A
-- turn writes the part behind them.
use Prim.Native.Nat.{◌*◌}
use Rattle.line.specs.Written.{Written}
use Rattle.sheet_lines.specs.Lines.{pair_lines}
use Rattle.sheet_lines.proofs.write_lines.Given as goal

abbrev pub invariant-loop-i : goal.invariant-loop-i
invariant-loop-i l = Written (pair_lines l.letter l.firsts l.seconds l.i) (l.i * 12) l.initial.lines l.lines
