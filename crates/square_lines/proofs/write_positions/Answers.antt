-- `write_positions` meets its contract. The invariant: the lines of the positions below v are written, and behind them the buffer is as it
-- was. A turn writes the part behind them.
use native.Mathlib.Omega.{arith}
use Rattle.line.specs.Joined.{joined}
use Rattle.line.specs.Written.{written_none}
use Rattle.square_lines.specs.LinesLaws.{positions-more}
use Rattle.square_lines.proofs.write_positions.Goals as goal

pub loop-v-init : goal.loop-v-init
unfolding joined
loop-v-init c = written_none _

pub loop-v-preserved : goal.loop-v-preserved
loop-v-preserved c =
    let a = c.args in
    let more = positions-more a.owners.now a.marks.now c.loop-v.v _ a.lines.now c.loop-v.lines _ c.loop-v.invariant (omega arith) c.owner_letter.ensures c.write_line.ensures in
    more
