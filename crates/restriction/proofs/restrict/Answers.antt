-- `restrict` meets its contract: the invariant says that of the first i moves those that stay are copied and counted.
use native.Mathlib.Omega.{arith}
use Rattle.restriction.specs.RestrictionLaws.{copied_none, copied_next, next-at-most}
use Rattle.restriction.proofs.restrict.Goals as goal

pub loop-i-init : goal.loop-i-init
loop-i-init c = (omega arith, copied_none)

pub loop-i-preserved : goal.loop-i-preserved
loop-i-preserved c =
    let turn = c.loop-i-test.true in
    let one = c.copy_move-count in
    let next = next-at-most one.ensures in
    let kept = one.auto in (omega (arith, c, next), copied_next c.loop-i.invariant.1 (omega (arith, c, c, turn)) (omega (arith, c, c, turn)) (omega (arith, c, c, turn)) one.ensures)
