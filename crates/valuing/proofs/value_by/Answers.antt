-- `value_by` meets its contract: the chart's refusal is handed on, a short row is 10, and loaded rows are valued.
use borrow.Author.Tests.{le-leb}
use Rattle.search.proofs.Cases.{cases}
use Rattle.valuing.specs.ValuingLaws.{valued-refused, valued-short, valued-taken}
use Rattle.search.proofs.HandedOn.{handed-on}
use Rattle.valuing.proofs.value_by.Goals as goal

pub returns-then-values-n : goal.returns-then-values-n
returns-then-values-n c = valued-short (c.load.ensures.taken _ c.in_ok-rows.was).accepted (search cases)

pub returns-then-choices-n : goal.returns-then-choices-n
returns-then-choices-n c = valued-short (c.load.ensures.taken _ c.in_ok-rows.was).accepted (search cases)

pub returns-then-steps-n : goal.returns-then-steps-n
returns-then-steps-n c = valued-short (c.load.ensures.taken _ c.in_ok-rows.was).accepted (search cases)

pub value_rows-s-requires : goal.value_rows-s-requires
value_rows-s-requires c = (c.if-values-n.false, c.if-choices-n.false, c.if-steps-n.false)

pub returns-in_err-rows : goal.returns-in_err-rows
returns-in_err-rows c = rw (handed-on _ c.from_residual.ensures.1) (valued-refused (c.load.ensures.refused _ c.in_err-rows.was))

pub returns : goal.returns
returns c =
    let taken = c.load.ensures.taken _ c.in_ok-rows.was in
    valued-taken taken.accepted (simp (le-leb _ _ c.if-values-n.false, le-leb _ _ c.if-choices-n.false, le-leb _ _ c.if-steps-n.false))
    (c.value_rows-s.ensures.first-line _ taken.holds).rounds (c.value_rows-s.ensures.rows _ taken.holds)
