-- `console_digits` meets its contract, and its products fit.
use mathlib.Core.Path.{refl}
use Rattle.numbering.specs.Numbering.{console_digits}
use Rattle.squares.proofs.console_digits.Goals as goal

pub returns : goal.returns
unfolding console_digits
returns c = refl
