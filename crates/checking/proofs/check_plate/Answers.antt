-- `check_plate` meets its contract: a bad line is the answer, and the rows of a plate of the form are answered by their first fault.
use native.Mathlib.Omega.{arith}
use Rattle.refusal.specs.declared.Refusal.TheVariants.{Plate}
use Rattle.plate_walk.specs.WalkLaws.{loaded-rows, loaded-bad}
use Rattle.checking.specs.CheckingLaws.{bad-answer, formed-answer, formed-verdict, rows-formed}
use Rattle.search.proofs.HandedOn.{handed-on, mapped-ok, mapped-err}
use Rattle.checking.proofs.check_plate.Goals as goal

pub check_rows-requires : goal.check_rows-requires
check_rows-requires c =
    let read = loaded-rows c.load_plate.ensures (mapped-ok Plate _ _ c.map_err.ensures.cases c.in_ok-header.was) in
    let few = c.args.rows.now.few.0 in
    (c.requires, rows-formed _ _ few read.0 read.1, omega (arith, c.load_plate.auto, few), omega (arith, c.load_plate.auto, few), omega (arith, c.load_plate.auto, few))

pub returns-in_err-header : goal.returns-in_err-header
returns-in_err-header c =
    let w = mapped-err Plate _ _ c.map_err.ensures.cases c.in_err-header.was in
    rw (handed-on _ c.from_residual.ensures.1, w.2) (bad-answer (loaded-bad c.load_plate.ensures w.1))

pub returns-in_err-check_rows : goal.returns-in_err-check_rows
returns-in_err-check_rows c =
    let read = loaded-rows c.load_plate.ensures (mapped-ok Plate _ _ c.map_err.ensures.cases c.in_ok-header.was) in
    rw (handed-on _ c.from_residual-in_err-check_rows.ensures.1) (formed-answer read.0 (formed-verdict _ _ c.args.rows.now.few.0 read.0 read.1 c.check_rows.ensures) c.in_err-check_rows.was)

pub returns : goal.returns
returns c =
    let read = loaded-rows c.load_plate.ensures (mapped-ok Plate _ _ c.map_err.ensures.cases c.in_ok-header.was) in
    formed-answer read.0 (formed-verdict _ _ c.args.rows.now.few.0 read.0 read.1 c.check_rows.ensures) c.in_ok-check_rows.was
