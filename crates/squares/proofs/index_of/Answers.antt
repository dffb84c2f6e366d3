-- `index_of` meets its contract. The invariant: the index so far is the number of the first v digits. A turn adds a digit (`held_next`), and
-- the number stays small (`held-bound`).
use Prim.Native.Nat.{ℕ, ◌+◌, ◌*◌, ◌<◌}
use native.Mathlib.Omega.{arith}
use native.Mathlib.Nat.{le_antisymm}
use mathlib.Core.Path.{◌≡◌, refl, ap, ◌∙◌}
use lib.ListN.{get_or}
use Rattle.numbering.specs.Numbering.{numeral}
use Rattle.numbering.proofs.SetLaws.{set-bound}
use Rattle.squares.specs.Held.{cell, held_index}
use Rattle.squares.specs.SquaresLaws.{held_below, held_next, held-bound, held-product, sets-bound}
use Rattle.squares.proofs.index_of.Goals as goal
use Rattle.squares.proofs.index_of.Goals.{After-digit_of, In-loop-v}

byte : (c : In-loop-v) (v : ℕ) → get_or c.args.marks.now v 0 < 256
byte c v = omega (arith, c.type_inv.marks v)

-- the index with one digit more is the number of the first v + 1
grown : (c : After-digit_of) → let a = c.args in
    c.loop-v.index * c.digit_count-base.result + c.digit_of.result ≡ held_below a.n a.owners.now a.marks.now a.meant a.disturbances (c.loop-v.v + 1)
grown c =
    let a = c.args in
    held_next a.n a.owners.now a.marks.now a.meant a.disturbances c.loop-v.v c.loop-v.invariant c.sets-t.ensures c.digit_count-base.ensures
    c.set_of-meant_set.ensures c.set_of-disturbance_set.ensures c.digit_of.ensures

pub digit_count-base-requires : goal.digit_count-base-requires
digit_count-base-requires c = rw c.sets-t.ensures (sets-bound c.args.n c.requires.0)

pub loop-v-init : goal.loop-v-init
unfolding numeral
loop-v-init c = refl

pub overflow_mul-index : goal.overflow_mul-index
overflow_mul-index c =
    let a = c.args in
    let at = (goal.at.overflow_mul-index c).In-loop-v in
    let small = held-product a.n a.owners.now a.marks.now a.meant a.disturbances c.requires.0 (byte at) c.loop-v.v (omega arith) c.loop-v.invariant c.sets-t.ensures c.digit_count-base.ensures in
    omega arith

pub digit_of-requires : goal.digit_of-requires
digit_of-requires c =
    let sets = c.sets-t.ensures in
    let few = sets-bound c.args.n c.requires.0 in
    let some = c.requires.3 c.loop-v.v c.loop-v-test.true in
    let m = set-bound (cell c.args.meant c.loop-v.v) 3 in
    let d = set-bound (cell c.args.disturbances c.loop-v.v) 3 in
    (omega arith, omega arith, omega arith, omega arith, omega arith)

pub overflow_add-index : goal.overflow_add-index
overflow_add-index c =
    let a = c.args in
    let at = goal.at.overflow_add-index c in
    let small = held-bound a.n a.owners.now a.marks.now a.meant a.disturbances c.requires.0 (byte at.In-loop-v) (c.loop-v.v + 1) (omega arith) in
    omega (arith, grown at.After-digit_of, small)

pub loop-v-preserved : goal.loop-v-preserved
loop-v-preserved c = grown (goal.at.loop-v-preserved c).After-digit_of

pub returns : goal.returns
unfolding held_index
returns c =
    let a = c.args in
    c.loop-v.invariant ∙ ap (held_below a.n a.owners.now a.marks.now a.meant a.disturbances) (le_antisymm c.loop-v.auto.v-end c.loop-v-test.false)
