-- `chart::judge_position` meets its contract: the tests say which case of `judged_position` holds.
use Rattle.search.proofs.Cases.{cases}
use Rattle.chart.specs.Examined.{judged_position}
use borrow.Author.Tests.{not-true, not-false}
use Rattle.std.proofs.lemmas.Bool.{not_from_false, not_from_true}
use Rattle.chart.proofs.judge_position.Goals as goal

pub returns-then-not-ok : goal.returns-then-not-ok
unfolding judged_position
returns-then-not-ok c = simp (not-true c.args.ok (not_from_false _ c.if-not-ok.true))

pub returns-then-position-line : goal.returns-then-position-line
unfolding judged_position
returns-then-position-line c = simp (not-false c.args.ok (not_from_true _ c.if-not-ok.false)) (search cases)

pub returns-then-mark-gt1 : goal.returns-then-mark-gt1
unfolding judged_position
returns-then-mark-gt1 c = simp (not-false c.args.ok (not_from_true _ c.if-not-ok.false)) (search cases)

pub returns : goal.returns
unfolding judged_position
returns c = simp (not-false c.args.ok (not_from_true _ c.if-not-ok.false)) (search cases)
