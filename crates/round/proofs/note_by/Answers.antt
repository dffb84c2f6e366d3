-- `note_by` meets its contract: the note is at a position or at 512, and so within the row.
use Prim.Native.Nat.{◌≤◌}
use native.Mathlib.Omega.{arith}
use borrow.Author.Rules.{rules}
use Rattle.rows.specs.Notes.{spot-most}
use Rattle.round.specs.Round.{meets}
use Rattle.round.proofs.note_by.Goals as goal

pub bounds-found-spot : goal.bounds-found-spot
bounds-found-spot c = let small : c.spot.result ≤ 512 = spot-most _ _ (omega arith) c.spot.ensures in search rules

pub returns : goal.returns
unfolding meets
returns c = rw c.spot.ensures
