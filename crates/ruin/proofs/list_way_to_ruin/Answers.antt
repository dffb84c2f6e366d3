-- `list_way_to_ruin` meets its contract: the chart's refusal is handed on, a short row of choices is 10, and loaded rows are listed.
use borrow.Author.Tests.{le-leb, lt-leb}
use Rattle.ruin.specs.RuinLaws.{ruined-refused, ruined-short, ruined-rows}
use Rattle.search.proofs.HandedOn.{handed-on}
use Rattle.ruin.proofs.list_way_to_ruin.Goals as goal

pub returns-then-choices-rows : goal.returns-then-choices-rows
returns-then-choices-rows c = ruined-short (c.load.ensures.taken _ c.in_ok-rows.was).accepted (lt-leb _ _ c.if-choices-rows.true)

pub returns-in_err-rows : goal.returns-in_err-rows
returns-in_err-rows c = rw (handed-on _ c.from_residual.ensures.1) (ruined-refused (c.load.ensures.refused _ c.in_err-rows.was))

pub returns : goal.returns
returns c =
    let taken = c.load.ensures.taken _ c.in_ok-rows.was in
    ruined-rows taken.accepted (le-leb _ _ c.if-choices-rows.false) taken.holds c.list_rows.ensures
