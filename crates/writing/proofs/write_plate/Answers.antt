-- `write_plate` meets its contract: the chart's refusal is handed on, a short buffer is 10, and loaded rows are valued and
-- written.
use borrow.Author.Tests.{le-leb}
use Rattle.search.proofs.Cases.{cases}
use Rattle.writing.specs.WritingLaws.{written-refused, written-short, written-taken}
use Rattle.search.proofs.HandedOn.{handed-on}
use Rattle.writing.proofs.write_plate.Goals as goal

pub returns-then-out-size : goal.returns-then-out-size
returns-then-out-size c = written-short (c.load.ensures.taken _ c.in_ok-rows.was).accepted (search cases)

pub returns-in_err-rows : goal.returns-in_err-rows
returns-in_err-rows c = rw (handed-on _ c.from_residual.ensures.1) (written-refused (c.load.ensures.refused _ c.in_err-rows.was))

pub returns : goal.returns
returns c =
    let taken = c.load.ensures.taken _ c.in_ok-rows.was in
    written-taken taken.accepted (le-leb _ _ c.if-out-size.false) taken.holds c.write_valued.ensures
