-- `Run::report` meets its contract: the chart's refusal is handed on, and a loaded chart's rows answer the report.
use mathlib.Core.Path.{◌∙◌}
use Rattle.run.proofs.RunningLaws.{report-refused, report-taken}
use Rattle.run.proofs.Run.report.Goals as goal

pub report_rows-requires : goal.report_rows-requires
report_rows-requires c = (c.load.ensures.taken _ c.in-Ok.is).ascending

pub returns-in-Err : goal.returns-in-Err
returns-in-Err c = c.unmoved.ensures ∙ report-refused _ _ _ _ _ (c.load.ensures.refused _ c.in-Err.is)

pub returns-in-Ok : goal.returns-in-Ok
returns-in-Ok c =
    let taken = c.load.ensures.taken _ c.in-Ok.is in
    report-taken _ _ _ _ _ taken.accepted taken.holds c.report_rows.ensures
