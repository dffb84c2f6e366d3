-- `list_rows` meets its contract: each answer by the tests that led to it.
use mathlib.Core.Path.{sym, ◌∙◌}
use borrow.Author.Tests.{not-true, not-false}
use Rattle.rows.specs.Holding.{arena, holds}
use Rattle.weighing.specs.WeighingLaws.{flags-say-legal}
use Rattle.ruin.specs.RuinLaws.{rows-choice, rows-position, rows-way}
use Rattle.std.proofs.lemmas.Bool.{not_from_false, not_from_true}
use Rattle.ruin.proofs.list_rows.Goals as goal

pub flag_chosen-requires : goal.flag_chosen-requires
flag_chosen-requires c = let r = c.args.rows.now in (r.within, c.requires, r.few.0)

pub returns-then-not-all_legal : goal.returns-then-not-all_legal
returns-then-not-all_legal c = rows-choice c.flag_chosen.ensures (sym c.all_legal.ensures ∙ not-true _ (not_from_false _ c.if-not-all_legal.true))

pub returns-then-n-position : goal.returns-then-n-position
returns-then-n-position c =
    rows-position c.flag_chosen.ensures (sym c.all_legal.ensures ∙ not-false _ (not_from_true _ c.if-not-all_legal.false)) c.if-n-position.true

pub list_way-requires-clause-legal : goal.list_way-requires-clause-legal
list_way-requires-clause-legal c =
    let r = c.args.rows.now in
    flags-say-legal (arena r) _ _ _ _ _ _ _ _ (holds r) _ c.flag_chosen.ensures (sym c.all_legal.ensures ∙ not-false _ (not_from_true _ c.if-not-all_legal.false))

pub returns : goal.returns
returns c =
    rows-way c.flag_chosen.ensures (sym c.all_legal.ensures ∙ not-false _ (not_from_true _ c.if-not-all_legal.false)) c.if-n-position.false c.list_way.ensures
