-- `compare_formed` meets its contract: a choice that is not legal is 12, a fault of the rows is 14, and else the values are compared
-- with the worths.
use borrow.Author.Tests.{not-true, not-false}
use Rattle.comparing.specs.ComparingLaws.{faulty-compared, sound-compared, unlawful-compared}
use Rattle.std.proofs.lemmas.Bool.{not_from_false, not_from_true}
use Rattle.search.proofs.HandedOn.{handed-on}
use Rattle.comparing.proofs.compare_formed.Goals as goal

pub returns-then-not-weigh_rows : goal.returns-then-not-weigh_rows
returns-then-not-weigh_rows c = unlawful-compared c.weigh_rows.ensures (not-true _ (not_from_false _ c.if-not-weigh_rows.true))

pub returns-in_err-check_formed : goal.returns-in_err-check_formed
returns-in_err-check_formed c =
    rw (handed-on _ c.from_residual.ensures.1)
    (faulty-compared c.weigh_rows.ensures (not-false _ (not_from_true _ c.if-not-weigh_rows.false)) c.check_formed.ensures c.in_err-check_formed.was)

pub returns : goal.returns
returns c =
    sound-compared c.weigh_rows.ensures (not-false _ (not_from_true _ c.if-not-weigh_rows.false)) c.check_formed.ensures c.in_ok-check_formed.was c.compare_worths.ensures
