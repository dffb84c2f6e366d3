-- `chart::unflagged` meets its contract, by the laws of `first_from`: the first fault of what is left is the first fault of all.
use Rattle.std.specs.Prelude.{Ok, Err}
use Prim.Native.Nat.{ℕ, ◌+◌, ◌-◌}
use mathlib.Core.Path.{◌≡◌, sym, ap, ◌∙◌}
use native.Mathlib.Omega.{arith}
use borrow.Author.Tests.{eq-eqb, ne_eqb}
use Rattle.chart.specs.Text.{letter_at}
use Rattle.chart.specs.Examined.{is_clean, first_fault, unflagged_at}
use Rattle.search.proofs.FirstLaws.{first_next, first-stop, first_done}
use Rattle.refusal.specs.declared.Misdrawn.TheVariants.{NoMeant}
use Rattle.chart.proofs.unflagged.Goals as goal
use Rattle.chart.proofs.unflagged.Goals.{then-flags-v-eq0+else-letter_at-ne82, else-flags-v-eq0}

pub loop-v-init : goal.loop-v-init
loop-v-init c =
    let a = c.args in
    let e : a.n - 0 ≡ a.n = omega arith in
    (omega arith, ap (λ (k : ℕ). first_fault (unflagged_at a.text.now a.flags.now) k 0) e)

pub returns-then-letter_at-ne82 : goal.returns-then-letter_at-ne82
unfolding unflagged_at
returns-then-letter_at-ne82 c =
    let a = c.args in
    let text = a.text.now in
    let other : letter_at text (c.loop-v.v + 1) ≡ 82 → ⊥ = λ e. c.if-letter_at-ne82.true (c.letter_at.ensures ∙ e) in
    let found : unflagged_at text a.flags.now c.loop-v.v ≡ Err (NoMeant (c.loop-v.v + 1)) = simp (eq-eqb _ _ c.if-flags-v-eq0.true, ne_eqb _ _ other) in
    sym (first-stop _ (unflagged_at text a.flags.now) (Ok tt) a.n c.loop-v.v (omega arith) (ap is_clean found) ∙ found) ∙ c.loop-v.invariant.1

pub loop-v-preserved : goal.loop-v-preserved
unfolding unflagged_at
loop-v-preserved c =
    let a = c.args in
    let text = a.text.now in
    let clean : unflagged_at text a.flags.now c.loop-v.v ≡ (Ok tt) =
    elim c.if-flags-v-eq0.branch [
      | then-flags-v-eq0+else-letter_at-ne82 w ↦ simp (eq-eqb _ _ w.if-flags-v-eq0.true, eq-eqb _ _ (sym w.letter_at.ensures ∙ w.if-letter_at-ne82.false))
      | else-flags-v-eq0 w ↦ simp (ne_eqb _ _ w.if-flags-v-eq0.false)
    ] in
    (omega arith, first_next _ (unflagged_at text a.flags.now) (Ok tt) a.n c.loop-v.v (omega arith) (ap is_clean clean) ∙ c.loop-v.invariant.1)

pub returns : goal.returns
returns c =
    let a = c.args in
    sym (first_done _ (unflagged_at a.text.now a.flags.now) (Ok tt) a.n c.loop-v.v (omega arith)) ∙ c.loop-v.invariant.1
