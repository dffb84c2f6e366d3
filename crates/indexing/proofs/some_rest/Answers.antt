-- `some_rest` meets its contract: the invariant says that none of the positions below v rests.
use native.Mathlib.Nat.{le_antisymm}
use native.Mathlib.Omega.{arith}
use mathlib.Core.Path.{refl, sym}
use borrow.Author.Tests.{eq-eqb, ne_eqb}
use Rattle.search.specs.Below.{some_below, some_next, some-hit}
use Rattle.indexing.specs.Indexing.{rests_below}
use Rattle.indexing.proofs.some_rest.Goals as goal

pub loop-v-init : goal.loop-v-init
unfolding rests_below some_below
loop-v-init c = (omega arith, refl)

pub returns-then-owners-v-eq2 : goal.returns-then-owners-v-eq2
unfolding rests_below
returns-then-owners-v-eq2 c = sym (some-hit _ _ _ c.loop-v-test.true (eq-eqb _ 2 c.if-owners-v-eq2.true))

pub loop-v-preserved : goal.loop-v-preserved
unfolding rests_below
loop-v-preserved c = (omega arith, rw (some_next, c.loop-v.invariant.1, ne_eqb _ 2 c.if-owners-v-eq2.false))

pub returns : goal.returns
returns c = rw (← le_antisymm c.loop-v.invariant.0 c.loop-v-test.false, c.loop-v.invariant.1)
