-- `after` meets its contract: by what is left of the input.
use Rattle.std.proofs.Common.{arith}
use Rattle.std.proofs.lemmas.Bool.Decides.{nat_tests}
use Rattle.cases.specs.Cases.{after}
use Rattle.cases.proofs.after.Goals as goal

pub returns : goal.returns
unfolding after
returns c = grind (arith, nat_tests)
