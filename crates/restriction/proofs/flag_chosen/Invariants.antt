-- `flag_chosen` meets its contract: the invariant says that the first i moves have flagged the positions whose choice they lead to.
use Rattle.search.specs.Below.{bit}
use Rattle.rows.specs.Numbers.{number_at}
use Rattle.rows.specs.Notes.{Noted}
use Rattle.restriction.specs.Restriction.{is_chosen}
use Rattle.restriction.proofs.flag_chosen.Given as goal

abbrev pub invariant-loop-i : goal.invariant-loop-i
invariant-loop-i l = Noted l.n (number_at l.froms) (is_chosen l.costs l.froms l.tos l.choices) (λ v. bit) l.i l.flags
