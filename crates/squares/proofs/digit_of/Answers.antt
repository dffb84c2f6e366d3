-- `digit_of` meets its contract. Whatever the owner, the digit is small (`digit-bound`), and so is each number on the way to it.
use Prim.Native.Nat.{◌<◌}
use native.Mathlib.Omega.{arith}
use mathlib.Core.Bool.{Bool, true}
use Rattle.numbering.specs.Numbering.{digit}
use Rattle.numbering.proofs.NumeralLaws.{digit-bound}
use Rattle.squares.proofs.digit_of.Goals as goal

pub overflow_add-result : goal.overflow_add-result
unfolding digit
overflow_add-result c = let small : (lane : Bool) → digit c.args.t lane c.args.mark c.args.meant c.args.disturbances < 16384 = λ lane. digit-bound c.args.t lane c.args.mark c.args.meant c.args.disturbances c.requires.1 (omega arith) c.requires.3 c.requires.4 in
    omega (arith, small true)

pub returns-then-lane : goal.returns-then-lane
unfolding digit
returns-then-lane c = rw (c.if-lane.true, c.console_digits.ensures)

pub returns-else-lane : goal.returns-else-lane
unfolding digit
returns-else-lane c = rw c.if-lane.false
