-- `start_rows` meets its contract: a position outside is 13 or 11, else Checking's refusal is handed on, and on an accepted plate the run begins.
use native.Mathlib.Omega.{arith}
use mathlib.Core.Path.{refl}
use Rattle.rows.specs.Holding.{holds}
use Rattle.checking.specs.CheckingLaws.{accepted-form}
use Rattle.run.proofs.RunningLaws.{start-inside, start_outside, started_checked}
use Rattle.search.proofs.HandedOn.{handed-on}
use Rattle.run.proofs.start_rows.Goals as goal

pub returns-then-n-position : goal.returns-then-n-position
returns-then-n-position c = rw c.off_chart.ensures (start_outside _ _ (omega (arith, c.if-n-position.true)))

pub begin-requires : goal.begin-requires
begin-requires c =
    let rows = c.args.rows.now in
    (rows.few.0, accepted-form _ (holds rows) c.check_plate.ensures c.in_ok-check_plate.was, omega (arith, c.if-n-position.false))

pub returns-in_err-check_plate : goal.returns-in_err-check_plate
unfolding started_checked
returns-in_err-check_plate c =
    rw (handed-on _ c.from_residual.ensures.1)
    (start-inside _ _ c.if-n-position.false c.check_plate.ensures c.in_err-check_plate.was refl)

pub returns : goal.returns
unfolding started_checked
returns c =
    start-inside _ _ c.if-n-position.false c.check_plate.ensures c.in_ok-check_plate.was c.begin.ensures
