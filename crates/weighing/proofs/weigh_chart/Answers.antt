-- `weigh_chart` meets its contract: the chart's refusal is handed on, a short row is 10, an illegal choice 12, and loaded rows
-- are weighed.
use borrow.Author.Tests.{le-leb}
use Rattle.search.proofs.Cases.{cases}
use Rattle.weighing.specs.WeighingLaws.{weighed-refused, weighed-short, weighed-taken, weighed-unfair}
use Rattle.search.proofs.HandedOn.{handed-on}
use Rattle.weighing.proofs.weigh_chart.Goals as goal

pub returns-then-choices-n : goal.returns-then-choices-n
returns-then-choices-n c = weighed-short (c.load.ensures.taken _ c.in_ok-rows.was).accepted (search cases)

pub returns-then-worths-n : goal.returns-then-worths-n
returns-then-worths-n c = weighed-short (c.load.ensures.taken _ c.in_ok-rows.was).accepted (search cases)

pub returns-then-weigh_rows : goal.returns-then-weigh_rows
returns-then-weigh_rows c =
    let taken = c.load.ensures.taken _ c.in_ok-rows.was in
    weighed-taken taken.accepted (simp (le-leb _ _ c.if-choices-n.false, le-leb _ _ c.if-worths-n.false)) taken.holds c.weigh_rows.ensures c.if-weigh_rows.true

pub returns-in_err-rows : goal.returns-in_err-rows
returns-in_err-rows c = rw (handed-on _ c.from_residual.ensures.1) (weighed-refused (c.load.ensures.refused _ c.in_err-rows.was))

pub returns : goal.returns
returns c =
    let taken = c.load.ensures.taken _ c.in_ok-rows.was in
    weighed-unfair taken.accepted (simp (le-leb _ _ c.if-choices-n.false, le-leb _ _ c.if-worths-n.false)) taken.holds c.weigh_rows.ensures c.if-weigh_rows.false
