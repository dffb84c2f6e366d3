-- `write_targets` meets its contract. The invariant: the lines of the targets below w are written, and behind them the buffer is as it was. A
-- turn with a target writes the part behind them.
use Rattle.square_lines.specs.Lines.{TargetsWritten}
use Rattle.square_lines.proofs.write_targets.Given as goal

abbrev pub invariant-loop-w : goal.invariant-loop-w
invariant-loop-w l = TargetsWritten l.letter l.from l.w l.row l.initial.lines l.lines l.at
