-- `flag_ready` meets its contract: the first flags are what each position seeks, and a note turns one over.
use native.Mathlib.Omega.{arith}
use Rattle.rows.specs.Filling.{row-replicate}
use Rattle.round.specs.NoteLaws.{ready-noted}
use Rattle.round.proofs.flag_ready.Goals as goal

pub note-requires : goal.note-requires
note-requires c = (c.requires.0, omega arith, omega arith, omega arith, omega arith, row-replicate 513 0 (omega arith))

pub returns : goal.returns
returns c =
    let noted = c.note.ensures in
    ready-noted c.requires.0 _ _ _ _ c.flag_owners.ensures.row c.show.ensures.row noted c.turn.ensures.row
