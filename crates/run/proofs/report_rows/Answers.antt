-- `report_rows` meets its contract: a position outside is 13 or 11, else Checking's refusal is handed on, and an accepted plate is gone into.
use Rattle.rows.specs.Holding.{holds, holds-some}
use Rattle.checking.specs.CheckingLaws.{accepted-form}
use Rattle.run.proofs.RunningLaws.{accepted-report, own-outside, refused-report, to-outside}
use Rattle.run.proofs.report_rows.Goals as goal

pub returns-then-n-run : goal.returns-then-n-run
returns-then-n-run c = rw (c.unmoved.ensures, c.off_chart.ensures) (own-outside _ _ _ c.if-n-run.true)

pub returns-then-n-to : goal.returns-then-n-to
returns-then-n-to c =
    rw (c.unmoved-then-n-to.ensures, c.off_chart-then-n-to.ensures) (to-outside _ _ _ c.if-n-run.false c.if-n-to.true)

pub report_accepted-requires : goal.report_accepted-requires
report_accepted-requires c =
    let rows = c.args.rows.now in
    let form = accepted-form _ (holds rows) c.check_plate.ensures c.in-Ok.is in
    ((_, holds-some rows), c.requires, form, c.if-n-run.false, c.if-n-to.false)

pub returns-in-Err : goal.returns-in-Err
returns-in-Err c =
    rw c.unmoved-in-Err.ensures
    (refused-report _ _ _ c.if-n-run.false c.if-n-to.false c.check_plate.ensures _ c.in-Err.is)

pub returns-in-Ok : goal.returns-in-Ok
returns-in-Ok c =
    accepted-report _ _ _ c.if-n-run.false c.if-n-to.false c.check_plate.ensures c.in-Ok.is
    c.report_accepted.ensures
