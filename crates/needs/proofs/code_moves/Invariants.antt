-- `code_moves` meets its contract: the invariant says that the codes of the first i moves are there.
use Rattle.rows.specs.Rows.{Filled}
use Rattle.needs.specs.Needs.{code_of}
use Rattle.needs.proofs.code_moves.Given as goal

abbrev pub invariant-loop-i : goal.invariant-loop-i
invariant-loop-i l = Filled l.initial.codes l.codes l.i (code_of l.costs l.froms)
