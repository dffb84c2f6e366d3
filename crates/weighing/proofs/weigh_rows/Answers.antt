-- `weigh_rows` meets its contract: either way by the test of the choices.
use native.Mathlib.Omega.{arith}
use mathlib.Core.Path.{sym, ◌∙◌}
use borrow.Author.Tests.{not-true, not-false}
use Rattle.rows.specs.Holding.{arena, holds}
use Rattle.weighing.specs.WeighingLaws.{flags-say-legal, weighed-illegal, weighed-legal}
use Rattle.std.proofs.lemmas.Bool.{not_from_false, not_from_true}
use Rattle.weighing.proofs.weigh_rows.Goals as goal

pub flag_chosen-requires : goal.flag_chosen-requires
flag_chosen-requires c = let r = c.args.rows.now in (r.within, c.requires.0, r.few.0)

pub returns-then-not-all_legal : goal.returns-then-not-all_legal
returns-then-not-all_legal c = weighed-illegal c.flag_chosen.ensures (sym c.all_legal.ensures ∙ not-true _ (not_from_false _ c.if-not-all_legal.true))

pub weigh_up_to-requires-clause-legal : goal.weigh_up_to-requires-clause-legal
weigh_up_to-requires-clause-legal c =
    let r = c.args.rows.now in
    flags-say-legal (arena r) _ _ _ _ _ _ _ _ (holds r) _ c.flag_chosen.ensures (sym c.all_legal.ensures ∙ not-false _ (not_from_true _ c.if-not-all_legal.false))

pub weigh_up_to-requires-else-rows-le-FEW-clause-legal : goal.weigh_up_to-requires-else-rows-le-FEW-clause-legal
weigh_up_to-requires-else-rows-le-FEW-clause-legal c =
    let r = c.args.rows.now in
    flags-say-legal (arena r) _ _ _ _ _ _ _ _ (holds r) _ c.flag_chosen.ensures (sym c.all_legal.ensures ∙ not-false _ (not_from_true _ c.if-not-all_legal.false))

pub returns-then-rows-le-FEW : goal.returns-then-rows-le-FEW
returns-then-rows-le-FEW c =
    let weighed = c.weigh_up_to in
    weighed-legal c.flag_chosen.ensures (sym c.all_legal.ensures ∙ not-false _ (not_from_true _ c.if-not-all_legal.false)) weighed.ensures.solved (omega (arith, weighed.auto))

pub returns-else-rows-le-FEW : goal.returns-else-rows-le-FEW
returns-else-rows-le-FEW c =
    let weighed = c.weigh_up_to-else-rows-le-FEW in
    weighed-legal c.flag_chosen.ensures (sym c.all_legal.ensures ∙ not-false _ (not_from_true _ c.if-not-all_legal.false)) weighed.ensures.solved (omega (arith, weighed.auto))
