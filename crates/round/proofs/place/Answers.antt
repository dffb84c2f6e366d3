-- `place` meets its contract: the invariant says that the round has been carried out at the positions below v.
use native.Mathlib.Omega.{arith}
use Rattle.round.specs.PlaceLaws.{placing-none, placing-next, one_at_most}
use Rattle.round.proofs.place.Goals as goal

pub loop-v-init : goal.loop-v-init
loop-v-init c = (omega arith, placing-none _ _ _ _ _)

pub loop-v-preserved : goal.loop-v-preserved
loop-v-preserved c =
    let e = c.place_one-count.ensures in
    let one = one_at_most e in
    (omega (arith, one, c), placing-next _ _ _ _ _ _ _ _ _ c.loop-v.invariant.1 (omega (arith, c)) (omega (arith, c)) _ _ _ e)
