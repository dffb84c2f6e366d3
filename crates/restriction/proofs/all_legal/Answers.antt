-- `all_legal` meets its contract: the invariant says that the choices below v are legal.
use mathlib.Core.Path.{refl, sym, ap, ◌∙◌}
use mathlib.Core.Bool.{not}
use Rattle.search.specs.Below.{some_below, some_next, some-hit}
use Rattle.std.proofs.lemmas.Bool.{not_from_false, not_from_true}
use Rattle.restriction.proofs.all_legal.Goals as goal

pub loop-v-init : goal.loop-v-init
unfolding some_below
loop-v-init c = refl

pub returns-then-not-is_legal : goal.returns-then-not-is_legal
returns-then-not-is_legal c = ap not (sym (some-hit _ _ _ c.loop-v-test.true (ap not (sym c.is_legal.ensures) ∙ (not_from_false _ c.if-not-is_legal.true))))

pub loop-v-preserved : goal.loop-v-preserved
loop-v-preserved c = rw (some_next, c.loop-v.invariant, ← c.is_legal.ensures, (not_from_true _ c.if-not-is_legal.false))
