-- `put_back` meets its contract. The loop's invariant: the records below the present lane are put back.
use Rattle.std.proofs.Common.{arith, rules, ◌<◌, length}
use Rattle.house.proofs.Copying.{copied-more, copied-none}
use Rattle.house.proofs.put_back.Goals as goal

pub loop-lane-init : goal.loop-lane-init
loop-lane-init c = (omega arith, copied-none _ _)

pub loop-lane-preserved : goal.loop-lane-preserved
loop-lane-preserved c =
    let inside : c.loop-lane.lane < length c.args.held = search rules in
    (omega arith, copied-more _ _ _ _ _ inside c.loop-lane.invariant.1)
