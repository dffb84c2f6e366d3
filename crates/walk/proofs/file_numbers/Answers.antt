-- `walk::file_numbers` meets its contract. The invariant: each slot has a position.
use Prim.Native.Nat.{◌-◌}
use native.Mathlib.Omega.{arith}
use mathlib.Core.Path.{refl}
use lib.ListN.{length-set}
use Rattle.walk.specs.WalkLaws.{numbers_more}
use Rattle.walk.proofs.file_numbers.Goals as goal

pub loop-v-init : goal.loop-v-init
loop-v-init c =
    let zeros = c.requires.2 in
    (omega arith, record { below = λ k h. omega (arith, zeros.below k h); slots = zeros.slots }, refl)

pub loop-v-preserved : goal.loop-v-preserved
loop-v-preserved c =
    (omega arith, numbers_more _ _ _ _ c.loop-v.invariant.1 c.slot.ensures (omega arith), simp length-set c.loop-v.invariant.2)

pub returns : goal.returns
returns c = c.loop-v.invariant.1
