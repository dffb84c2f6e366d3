-- `chart::judge_move` meets its contract: the tests say which case of `judged_move` holds.
use Rattle.search.proofs.Cases.{cases}
use Rattle.chart.specs.Examined.{judged_move}
use borrow.Author.Tests.{not-true, not-false}
use Rattle.std.proofs.lemmas.Bool.{not_from_false, not_from_true}
use Rattle.chart.proofs.judge_move.Goals as goal

pub returns-then-not-ok : goal.returns-then-not-ok
unfolding judged_move
returns-then-not-ok c = simp (not-true c.args.ok (not_from_false _ c.if-not-ok.true))

pub returns-then-n-from : goal.returns-then-n-from
unfolding judged_move
returns-then-n-from c = simp (not-false c.args.ok (not_from_true _ c.if-not-ok.false)) (search cases)

pub returns-then-n-to : goal.returns-then-n-to
unfolding judged_move
returns-then-n-to c = simp (not-false c.args.ok (not_from_true _ c.if-not-ok.false)) (search cases)

pub returns : goal.returns
unfolding judged_move
returns c = simp (not-false c.args.ok (not_from_true _ c.if-not-ok.false)) (search cases)
