-- `chart::limits` meets its contract: the tests say which case of `limits_of` holds.
use Rattle.search.proofs.Cases.{cases}
use Rattle.chart.specs.Examined.{limits_of}
use borrow.Author.Tests.{not-true, not-false}
use Rattle.std.proofs.lemmas.Bool.{not_from_false, not_from_true}
use Rattle.chart.proofs.limits.Goals as goal

pub returns-then-not-ok : goal.returns-then-not-ok
unfolding limits_of
returns-then-not-ok c = simp (not-true c.args.ok (not_from_false _ c.if-not-ok.true))

pub returns-then-n-lt1 : goal.returns-then-n-lt1
unfolding limits_of
returns-then-n-lt1 c = simp (not-false c.args.ok (not_from_true _ c.if-not-ok.false)) (search cases)

pub returns-then-n-gt-POSITIONS : goal.returns-then-n-gt-POSITIONS
unfolding limits_of
returns-then-n-gt-POSITIONS c = simp (not-false c.args.ok (not_from_true _ c.if-not-ok.false)) (search cases)

pub returns-then-m-lt1 : goal.returns-then-m-lt1
unfolding limits_of
returns-then-m-lt1 c = simp (not-false c.args.ok (not_from_true _ c.if-not-ok.false)) (search cases)

pub returns-then-m-gt-MOVES : goal.returns-then-m-gt-MOVES
unfolding limits_of
returns-then-m-gt-MOVES c = simp (not-false c.args.ok (not_from_true _ c.if-not-ok.false)) (search cases)

pub returns-then-size-n : goal.returns-then-size-n
unfolding limits_of
returns-then-size-n c = simp (not-false c.args.ok (not_from_true _ c.if-not-ok.false)) (search cases)

pub returns : goal.returns
unfolding limits_of
returns c = simp (not-false c.args.ok (not_from_true _ c.if-not-ok.false)) (search cases)
