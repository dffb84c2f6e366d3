-- `Run::start` meets its contract: the chart's refusal is handed on, and a loaded chart's rows answer the start.
use Rattle.run.proofs.RunningLaws.{start-refused, start-taken}
use Rattle.search.proofs.HandedOn.{handed-on}
use Rattle.run.proofs.Run.start.Goals as goal

pub start_rows-requires : goal.start_rows-requires
start_rows-requires c = (c.load.ensures.taken _ c.in_ok-rows.was).ascending

pub returns-in_err-rows : goal.returns-in_err-rows
returns-in_err-rows c = rw (handed-on _ c.from_residual.ensures.1) (start-refused _ _ _ _ (c.load.ensures.refused _ c.in_err-rows.was))

pub returns : goal.returns
returns c =
    let taken = c.load.ensures.taken _ c.in_ok-rows.was in
    start-taken _ _ _ _ taken.accepted taken.holds c.start_rows.ensures
