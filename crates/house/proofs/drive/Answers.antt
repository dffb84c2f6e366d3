-- `drive` meets its contract: lanes that are not drivable are 20, the chart's refusal is handed on, and a loaded chart's rows answer the report.
use Rattle.std.proofs.Common.{length, refl, sym, ◌∙◌}
use Rattle.house.specs.Answers.{Drivable}
use Rattle.house.proofs.HousingLaws.{drivable-true, drive-refused, drive-taken, drive-undrivable, not-drivable, some-drivable}
use Rattle.house.proofs.drive.Goals as goal

pub returns-then-lanes_of-eq0 : goal.returns-then-lanes_of-eq0
returns-then-lanes_of-eq0 c =
    rw c.refused.ensures (drive-undrivable _ _ _ _ _ (not-drivable _ _ (sym c.lanes_of.ensures ∙ c.if-lanes_of-eq0.true)))

pub drive_rows-requires : goal.drive_rows-requires
drive_rows-requires c =
    let can : Drivable c.args.lanes (length c.args.reports.now) = some-drivable _ _ (λ none. c.if-lanes_of-eq0.false (c.lanes_of.ensures ∙ none)) in
    ((c.in-Ok.ensures.taken _ refl).ascending, can.few, can.paired)

pub returns-in-Err : goal.returns-in-Err
returns-in-Err c =
    let can : Drivable c.args.lanes (length c.args.reports.now) = some-drivable _ _ (λ none. c.if-lanes_of-eq0.false (c.lanes_of.ensures ∙ none)) in
    rw c.refused-in-Err.ensures (drive-refused _ _ _ _ _ (drivable-true can) _ (c.in-Err.ensures.refused _ refl))

pub returns-in-Ok : goal.returns-in-Ok
returns-in-Ok c =
    let can : Drivable c.args.lanes (length c.args.reports.now) = some-drivable _ _ (λ none. c.if-lanes_of-eq0.false (c.lanes_of.ensures ∙ none)) in
    let taken = c.in-Ok.ensures.taken _ refl in
    drive-taken _ _ _ _ _ (drivable-true can) _ taken.accepted taken.holds c.drive_rows.ensures
