-- `plate::positions_form` meets its contract. The invariant: the lowest bad line of what is left is that of all. A good line leaves
-- that as it is, a bad one ends it, and with nothing left there is none: the three laws of `first_from`.
use Rattle.std.specs.Prelude.{Ok}
use Rattle.search.specs.First.{first_from}
use Rattle.search.proofs.FirstLaws.{first_next, first-stop, first_done}
use Rattle.plate.specs.Formed.{position_good, bad_position}
use borrow.Author.Tests.{not-true, not-false}
use mathlib.Core.Path.{◌≡◌, sym, ap, ◌∙◌}
use Prim.Native.Nat.{ℕ, ◌-◌}
use native.Mathlib.Omega.{arith}
use Rattle.std.proofs.lemmas.Bool.{not_from_false, not_from_true}
use Rattle.plate.proofs.positions_form.Goals as goal

pub loop-v-init : goal.loop-v-init
loop-v-init c = let a = c.args in let e : a.n - 0 ≡ a.n = omega arith in (omega arith, ap (λ (k : ℕ). first_from (position_good a.n a.plate.now) bad_position (Ok tt) k 0) e)

pub returns-then-not-position_good : goal.returns-then-not-position_good
returns-then-not-position_good c =
    let a = c.args in
    let bad = sym c.position_good.ensures ∙ not-true c.position_good.result (not_from_false _ c.if-not-position_good.true) in
    sym (first-stop (position_good a.n a.plate.now) bad_position (Ok tt) a.n c.loop-v.v (omega arith) bad) ∙ c.loop-v.invariant.1

pub loop-v-preserved : goal.loop-v-preserved
loop-v-preserved c =
    let a = c.args in
    let good = sym c.position_good.ensures ∙ not-false c.position_good.result (not_from_true _ c.if-not-position_good.false) in
    (omega arith, first_next (position_good a.n a.plate.now) bad_position (Ok tt) a.n c.loop-v.v (omega arith) good ∙ c.loop-v.invariant.1)

pub returns : goal.returns
returns c =
    let a = c.args in
    sym (first_done (position_good a.n a.plate.now) bad_position (Ok tt) a.n c.loop-v.v (omega arith)) ∙ c.loop-v.invariant.1
