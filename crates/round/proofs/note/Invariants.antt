-- `note` meets its contract: the invariant says that the first i moves have left their notes, those aside past the n positions.
use Rattle.search.specs.Below.{bit}
use Rattle.rows.specs.Numbers.{number_at}
use Rattle.rows.specs.Notes.{Noted}
use Rattle.round.specs.Round.{meets}
use Rattle.round.proofs.note.Given as goal

abbrev pub invariant-loop-i : goal.invariant-loop-i
invariant-loop-i l = Noted l.n (number_at l.froms) (meets l.meant l.seeks l.shows l.costs l.froms l.tos) (λ v. bit) l.i l.found
