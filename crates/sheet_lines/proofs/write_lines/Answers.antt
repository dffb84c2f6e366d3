-- `write_lines` meets its contract. The invariant: the lines of the pairs so far are written, and behind them the buffer is as it was. A
-- turn writes the part behind them.
use native.Mathlib.Omega.{arith}
use Rattle.line.specs.Joined.{joined}
use Rattle.line.specs.Written.{written_none}
use Rattle.sheet_lines.specs.Lines.{pair_lines, pair-lines-more}
use Rattle.sheet_lines.proofs.write_lines.Goals as goal

pub loop-i-init : goal.loop-i-init
unfolding pair_lines joined
loop-i-init c = written_none _

pub loop-i-preserved : goal.loop-i-preserved
loop-i-preserved c =
    let a = c.args in
    let more = pair-lines-more a.letter a.firsts.now a.seconds.now c.loop-i.i a.lines.now c.loop-i.lines _ c.loop-i.invariant (omega arith) c.write_line.ensures in
    more
