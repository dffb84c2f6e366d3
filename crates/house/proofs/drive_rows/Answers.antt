-- `drive_rows` meets its contract: Checking's refusal is the house's, and an accepted plate, which is of the form, is gone on with.
use Rattle.std.proofs.Common.{refl}
use Rattle.rows.specs.Holding.{holds}
use Rattle.checking.specs.CheckingLaws.{accepted-form}
use Rattle.house.proofs.HousingLaws.{rows-accepted, rows-refused}
use Rattle.house.proofs.drive_rows.Goals as goal

pub drive_lanes-requires : goal.drive_lanes-requires
drive_lanes-requires c =
    let pre = c.requires in
    (pre.0, accepted-form _ (holds c.args.rows.now) c.in-Ok.ensures refl, pre.1, pre.2)

pub returns-in-Err : goal.returns-in-Err
returns-in-Err c = rw c.refused.ensures (rows-refused _ _ _ c.in-Err.ensures _ refl)

pub returns-in-Ok : goal.returns-in-Ok
returns-in-Ok c = rows-accepted _ _ _ c.in-Ok.ensures refl c.drive_lanes.ensures
