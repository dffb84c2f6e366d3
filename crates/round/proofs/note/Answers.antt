-- `note` meets its contract: the invariant says that the first i moves have left their notes, those aside past the n positions.
use native.Mathlib.Omega.{arith}
use Rattle.rows.specs.Notes.{noted-none, noted-aside}
use Rattle.round.proofs.note.Goals as goal

pub loop-i-init : goal.loop-i-init
loop-i-init c = noted-none c.requires.5

pub loop-i-preserved : goal.loop-i-preserved
loop-i-preserved c =
    let w = c.requires.0 in
    rw c.note_by.ensures (noted-aside c.loop-i.invariant (omega (arith, c)) (omega arith) (w.from-inside _ c.loop-i-test.true))
