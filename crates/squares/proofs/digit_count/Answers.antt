-- `digit_count` meets its contract, and its sum fits.
use native.Mathlib.Omega.{arith}
use Rattle.numbering.specs.Numbering.{digits}
use Rattle.numbering.proofs.NumeralLaws.{console-digits-bound}
use Rattle.squares.proofs.digit_count.Goals as goal

pub overflow_add-result : goal.overflow_add-result
overflow_add-result c = omega (arith, console-digits-bound c.args.t c.requires.1)

pub returns : goal.returns
unfolding digits
returns c = rw c.console_digits.ensures
