-- `chart_count` meets its contract: each answer is the count, computed.
use mathlib.Core.Path.{◌≡◌}
use native.Mathlib.Omega.{arith}
use Rattle.numbering.specs.Numbering.{chart_count, digits, console_digits}
use Rattle.squares.proofs.chart_count.Goals as goal

pub returns-in-1 : goal.returns-in-1
unfolding chart_count digits console_digits
returns-in-1 c = rw c.in-1.is

pub returns-in-2 : goal.returns-in-2
unfolding chart_count digits console_digits
returns-in-2 c = rw c.in-2.is

pub returns-in_default : goal.returns-in_default
unfolding chart_count digits console_digits
returns-in_default c = let three : c.args.n ≡ 3 = omega arith in rw three
