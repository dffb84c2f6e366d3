-- `digits_of` meets its contract: the digits for each count of positions. The base is not 0, as there is a position.
use native.Mathlib.Omega.{arith}
use Prim.Native.Nat.{◌^◌}
use mathlib.Core.Path.{◌≡◌, ap, ◌∙◌}
use Rattle.numbering.specs.Numbering.{digits}
use Rattle.numbering.proofs.NumeralLaws.{digits-positive}
use Rattle.squares.specs.SquaresLaws.{sets-bound, one-digit, two_digits, three-digits}
use Rattle.squares.proofs.digits_of.Goals as goal

pub digit_count-base-requires : goal.digit_count-base-requires
digit_count-base-requires c = rw c.sets.ensures (sets-bound c.args.n c.requires.1)

pub nonzero_rem-last : goal.nonzero_rem-last
nonzero_rem-last c = rw (c.digit_count-base.ensures, c.sets.ensures) (digits-positive c.args.n c.requires.0)

pub nonzero_div-middle : goal.nonzero_div-middle
nonzero_div-middle c = rw (c.digit_count-base.ensures, c.sets.ensures) (digits-positive c.args.n c.requires.0)

pub nonzero_rem-middle : goal.nonzero_rem-middle
nonzero_rem-middle c = rw (c.digit_count-base.ensures, c.sets.ensures) (digits-positive c.args.n c.requires.0)

pub nonzero_div-result : goal.nonzero_div-result
nonzero_div-result c = rw (c.digit_count-base.ensures, c.sets.ensures) (digits-positive c.args.n c.requires.0)

pub nonzero_div-result-in_default : goal.nonzero_div-result-in_default
nonzero_div-result-in_default c = rw (c.digit_count-base.ensures, c.sets.ensures) (digits-positive c.args.n c.requires.0)

pub nonzero_rem-result : goal.nonzero_rem-result
nonzero_rem-result c = rw (c.digit_count-base.ensures, c.sets.ensures) (digits-positive c.args.n c.requires.0)

pub returns-in-1 : goal.returns-in-1
returns-in-1 c = let base : c.digit_count-base.result ≡ digits (2 ^ c.args.n) = c.digit_count-base.ensures ∙ ap digits c.sets.ensures in
    rw (← base, c.in-1.is) (one-digit _ _)

pub returns-in-2 : goal.returns-in-2
returns-in-2 c = let base : c.digit_count-base.result ≡ digits (2 ^ c.args.n) = c.digit_count-base.ensures ∙ ap digits c.sets.ensures in
    rw (← base, c.in-2.is) (two_digits _ _)

pub returns-in_default : goal.returns-in_default
returns-in_default c = let base : c.digit_count-base.result ≡ digits (2 ^ c.args.n) = c.digit_count-base.ensures ∙ ap digits c.sets.ensures in
    let three : c.args.n ≡ 3 = omega arith in rw (← base, three) (three-digits _ _)
