-- `check` meets its contract: the chart's refusal is handed on, and a loaded chart's rows are checked with the plate.
use Rattle.checking.specs.CheckingLaws.{refused-answer, taken-answer}
use Rattle.search.proofs.HandedOn.{handed-on}
use Rattle.checking.proofs.check.Goals as goal

pub check_plate-requires : goal.check_plate-requires
check_plate-requires c = (c.load.ensures.taken _ c.in_ok-rows.was).ascending

pub returns-in_err-rows : goal.returns-in_err-rows
returns-in_err-rows c = rw (handed-on _ c.from_residual.ensures.1) (refused-answer _ _ _ (c.load.ensures.refused _ c.in_err-rows.was))

pub returns : goal.returns
returns c =
    let taken = c.load.ensures.taken _ c.in_ok-rows.was in
    taken-answer _ _ _ taken.accepted taken.holds c.check_plate.ensures
