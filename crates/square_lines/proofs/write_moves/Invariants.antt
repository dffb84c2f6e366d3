-- `write_moves` meets its contract. The invariant: the lines of the moves of the positions below v are written, and behind them the buffer is
-- as it was. A turn writes the part behind them twice.
use Rattle.square_lines.specs.LinesLaws.{MovesWritten}
use Rattle.square_lines.proofs.write_moves.Given as goal

abbrev pub invariant-loop-v : goal.invariant-loop-v
invariant-loop-v l = MovesWritten l.n l.meant l.disturbances l.v l.initial.lines l.lines l.at
