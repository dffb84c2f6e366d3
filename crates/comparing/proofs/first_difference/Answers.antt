-- `first_difference` meets its contract. The invariant: the first difference of what is left is that of all. Equal numbers leave that
-- as it is, others end it, and with nothing left there is none: the laws of a search's three turns.
use Rattle.std.specs.Prelude.{None, Ok}
use Prim.Native.Nat.{ℕ, ◌-◌}
use native.Mathlib.Omega.{arith}
use mathlib.Core.Path.{◌≡◌, sym, ap, ◌∙◌}
use borrow.Author.Tests.{eq-eqb, ne_eqb}
use Rattle.search.specs.First.{first_from}
use Rattle.search.proofs.FirstLaws.{first_next, first-stop, first_done}
use Rattle.comparing.proofs.first_difference.Invariants.{same, differ}
use Rattle.comparing.proofs.first_difference.Goals as goal

pub loop-v-init : goal.loop-v-init
loop-v-init c =
    let a = c.args in
    let e : a.n - 0 ≡ a.n = omega arith in
    (omega arith, ap (λ (k : ℕ). first_from (same a.values.now a.worths.now) (differ a.values.now a.worths.now) (Ok None) k 0) e)

pub returns-then-values-v : goal.returns-then-values-v
returns-then-values-v c =
    let a = c.args in
    sym (first-stop (same a.values.now a.worths.now) (differ a.values.now a.worths.now) (Ok None) a.n c.loop-v.v (omega arith) (ne_eqb _ _ c.if-values-v.true)) ∙ c.loop-v.invariant.1

pub loop-v-preserved : goal.loop-v-preserved
loop-v-preserved c =
    let a = c.args in
    (omega arith, first_next (same a.values.now a.worths.now) (differ a.values.now a.worths.now) (Ok None) a.n c.loop-v.v (omega arith) (eq-eqb _ _ c.if-values-v.false) ∙ c.loop-v.invariant.1)

pub returns : goal.returns
returns c =
    let a = c.args in
    sym (first_done (same a.values.now a.worths.now) (differ a.values.now a.worths.now) (Ok None) a.n c.loop-v.v (omega arith)) ∙ c.loop-v.invariant.1
