-- `field::digit` meets its contract: the library's test of a digit is that of `is_digit`, whichever way each comparison goes.
use Rattle.std.proofs.Common.{arith}
use Rattle.std.proofs.lemmas.Bool.Decides.{nat_tests}
use Rattle.field.specs.Reader.{is_digit}
use Rattle.field.proofs.digit.Goals as goal

pub returns : goal.returns
unfolding is_digit
returns c = grind (arith, nat_tests, c.is_ascii_digit.ensures.value)
