-- `choose` meets its contract: the invariant says that the row has the best target among the first i moves.
use Rattle.choice.specs.ChooseLaws.{Choosing}
use Rattle.choice.proofs.choose.Given as goal

abbrev pub invariant-loop-i : goal.invariant-loop-i
invariant-loop-i l = Choosing l.n l.owners l.costs l.froms l.tos l.values l.i l.initial.choices l.choices
