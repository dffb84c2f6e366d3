-- `begin` meets its contract: the invariant says that the first v positions were looked at.
use native.Mathlib.Omega.{arith}
use Rattle.distances.specs.QueueLaws.{queue-most, queue-room}
use Rattle.distances.specs.SearchLaws.{begun-none, begun-turn, begun-lengths}
use Rattle.distances.proofs.begin.Goals as goal

pub loop-v-init : goal.loop-v-init
loop-v-init c = begun-none c.clear.ensures.row

pub begin_at-tail-requires : goal.begin_at-tail-requires
begin_at-tail-requires c =
    let pre = c.requires in
    let turn = c.loop-v-test.true in
    let queue = c.loop-v.invariant.queue in
    (omega (arith, pre), omega (arith, pre), omega (arith, pre, c), omega (arith, queue-most queue, pre), λ none. omega (arith, queue-room queue turn none, pre, c))

pub loop-v-preserved : goal.loop-v-preserved
loop-v-preserved c =
    let pre = c.requires in
    let turn = c.loop-v-test.true in
    let at = c.begin_at-tail.ensures in
    let sizes = begun-lengths at in
    begun-turn c.loop-v.invariant turn pre.0 (omega (arith, pre, c)) (omega (arith, pre, c)) at
