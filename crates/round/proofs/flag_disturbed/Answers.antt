-- `flag_disturbed` meets its contract: every position seeks the value, no flag is there at first, and a note sets one.
use native.Mathlib.Omega.{arith}
use lib.ListN.{replicate}
use Rattle.rows.specs.Filling.{row-replicate}
use Rattle.round.specs.NoteLaws.{disturbed-noted}
use Rattle.round.proofs.flag_disturbed.Goals as goal

pub note-requires : goal.note-requires
note-requires c = (c.requires.0, omega arith, omega arith, omega arith, omega arith, row-replicate 513 0 (omega arith))

pub returns : goal.returns
returns c =
    let noted = c.note.ensures in
    disturbed-noted c.requires.0 _ (replicate 512 0) _ _ _ (row-replicate 512 1 (omega (arith, c))) (row-replicate 512 0 (omega (arith, c))) c.show.ensures.row noted c.turn.ensures.row
