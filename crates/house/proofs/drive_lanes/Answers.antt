-- `drive_lanes` meets its contract. The loop's invariant: each lane below the present one passes and has its moved record, and the later
-- records are as they were. So the first refusal that is met is the lowest lane's, and past the last lane every record is as it shall be.
use Rattle.std.proofs.Common.{◌<◌, length, arith, rules}
use Rattle.house.proofs.DrivingLaws.{lane-moved, lane-quiet, lane-refused, lanes-begin, lanes_end, moved-bound}
use Rattle.house.proofs.drive_lanes.Goals as goal
use Rattle.house.proofs.drive_lanes.Goals.{then-to+in-Ok, else-to}

pub loop-lane-init : goal.loop-lane-init
loop-lane-init c = lanes-begin _ _ _ _ _ _ _ _ _ _

pub returns-in-Err : goal.returns-in-Err
returns-in-Err c =
    let in-house : c.loop-lane.lane < length c.args.runs = search rules in
    rw c.refused.ensures
    (lane-refused c.loop-lane.invariant c.requires.3 c.loop-lane-test.true c.if-to.true in-house _
    c.report_lane-reported.ensures _ c.in-Err.is)

pub overflow_add-moved : goal.overflow_add-moved
overflow_add-moved c = omega (arith, moved-bound c.loop-lane.invariant c.requires.3, c.requires.2)

pub loop-lane-preserved : goal.loop-lane-preserved
loop-lane-preserved c =
    let in-house : c.loop-lane.lane < length c.args.runs = search rules in
    let inv = c.loop-lane.invariant in
    let row = c.requires.3 in
    let inside = c.loop-lane-test.true in
    elim c.if-to.branch [
      | then-to+in-Ok w ↦
          rw (w.after-is, w.moved-is) (lane-moved inv row inside w.if-to.true in-house _ w.report_lane-reported.ensures _ w.in-Ok.is)
      | else-to w ↦ rw (w.after-is, w.moved-is) (lane-quiet inv row inside w.if-to.false)
    ]

pub returns : goal.returns
returns c = lanes_end c.loop-lane.invariant c.requires.3 c.loop-lane-test.false
