-- `mark_in` meets its contract, whichever way the test goes.
use Rattle.std.proofs.Common.{arith}
use Rattle.std.proofs.lemmas.Bool.Decides.{nat_tests}
use Rattle.numbering.specs.Squares.{mark_in}
use Rattle.squares.proofs.mark_in.Goals as goal

pub returns : goal.returns
unfolding mark_in
returns c = grind (arith, nat_tests, c.from.ensures, c.rest_in.ensures)
