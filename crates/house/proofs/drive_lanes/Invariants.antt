-- `drive_lanes` meets its contract. The loop's invariant: each lane below the present one passes and has its moved record, and the later
-- records are as they were. So the first refusal that is met is the lowest lane's, and past the last lane every record is as it shall be.
use Rattle.house.proofs.DrivingLaws.{LanesPassed}
use Rattle.house.proofs.drive_lanes.Given as goal

abbrev pub invariant-loop-lane : goal.invariant-loop-lane
invariant-loop-lane l = LanesPassed l.rows.positions l.rows.moves l.rows.owners.now l.rows.costs.now l.rows.froms.now l.rows.tos.now l.runs l.lanes l.reports l.plate l.after l.moved l.lane
