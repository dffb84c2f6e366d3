-- `walk::kinds_allowed` meets its contract. The invariant: the kinds of the first v positions are allowed.
use Prim.Native.Nat.{ℕ, ◌+◌, ◌*◌, ◌-◌}
use native.Mathlib.Omega.{arith}
use mathlib.Core.Path.{◌≡◌, subst}
use Rattle.walk.specs.Walked.{KindsAllowed}
use Rattle.walk.specs.WalkLaws.{stopped, allowed-none, allowed-more}
use Rattle.walk.proofs.kinds_allowed.Goals as goal

pub loop-v-init : goal.loop-v-init
loop-v-init c = (omega arith, allowed-none _ _)

pub overflow_cast-owner : goal.overflow_cast-owner
overflow_cast-owner c = omega (arith, c.shared_slice_known-1.given c.loop-v.v)

pub overflow_cast-kinds : goal.overflow_cast-kinds
overflow_cast-kinds c = omega (arith, c.shared_slice_known-in-loop-v-1.given (2 * c.loop-v.v))

pub overflow_add-kinds : goal.overflow_add-kinds
overflow_add-kinds c =
    let v = c.loop-v.v in
    omega (arith, c.shared_slice_known-in-loop-v-1.given (2 * v), c.shared_slice_known-1.given v)

pub returns-then-kinds-v-ne1 : goal.returns-then-kinds-v-ne1
returns-then-kinds-v-ne1 c = stopped

pub overflow_cast-kinds-in-loop-v : goal.overflow_cast-kinds-in-loop-v
overflow_cast-kinds-in-loop-v c = omega (arith, c.shared_slice_known-in-loop-v-2-1.given (2 * c.loop-v.v + 1))

pub overflow_add-kinds-in-loop-v : goal.overflow_add-kinds-in-loop-v
overflow_add-kinds-in-loop-v c =
    let v = c.loop-v.v in
    omega (arith, c.shared_slice_known-in-loop-v-2-1.given (2 * v + 1), c.shared_slice_known-1.given v)

pub returns-then-kinds-v-eq2 : goal.returns-then-kinds-v-eq2
returns-then-kinds-v-eq2 c = stopped

pub loop-v-preserved : goal.loop-v-preserved
loop-v-preserved c =
    (omega arith, allowed-more _ _ c.loop-v.v c.loop-v.invariant.1 c.if-kinds-v-ne1.false c.if-kinds-v-eq2.false)

pub returns : goal.returns
returns c = λ _.
    let a = c.args in
    let all : c.loop-v.v ≡ a.n = omega arith in
    subst (λ (k : ℕ). KindsAllowed a.owners.now k a.kinds.now) all c.loop-v.invariant.1
