-- `pick_good` meets its contract: the invariant says that of the first i moves the good ones are copied and counted.
use native.Mathlib.Omega.{arith}
use Rattle.good_moves.specs.PickingLaws.{picked_none, picked_next, next-at-most}
use Rattle.good_moves.proofs.pick_good.Goals as goal

pub loop-i-init : goal.loop-i-init
loop-i-init c = (omega arith, picked_none)

pub loop-i-preserved : goal.loop-i-preserved
loop-i-preserved c =
    let turn = c.loop-i-test.true in
    let one = c.pick_move-count in
    let next = next-at-most one.ensures in
    let kept = one.auto in (omega (arith, c, next), picked_next c.loop-i.invariant.1 (omega (arith, c, c, turn)) (omega (arith, c, c, turn)) one.ensures)
