-- `square_of` meets its contract: the invariant says that the first i moves are gathered.
use Rattle.squares.specs.SquaresLaws.{Gathered}
use Rattle.squares.proofs.square_of.Given as goal

abbrev pub invariant-loop-i : goal.invariant-loop-i
invariant-loop-i l = Gathered l.cost l.costs l.froms l.tos l.i l.square
