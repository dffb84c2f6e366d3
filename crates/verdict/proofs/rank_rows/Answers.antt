-- `rank_rows` meets its contract: the invariant says that the positions below v have their ranks.
use native.Mathlib.Nat.{le_antisymm}
use native.Mathlib.Omega.{arith}
use mathlib.Core.Path.{refl}
use Rattle.verdict.specs.Ranks.{ranked-none, ranked-next}
use Rattle.verdict.proofs.rank_rows.Goals as goal

pub loop-v-init : goal.loop-v-init
loop-v-init c = (omega arith, ranked-none _ _ _)

pub overflow_cast-ranks : goal.overflow_cast-ranks
overflow_cast-ranks c = omega (arith, c.shared_slice_known-1.given c.loop-v.v)

pub overflow_mul-ranks : goal.overflow_mul-ranks
overflow_mul-ranks c = omega (arith, c.shared_slice_known-1.given c.loop-v.v)

pub overflow_cast-ranks-in-loop-v : goal.overflow_cast-ranks-in-loop-v
overflow_cast-ranks-in-loop-v c = omega (arith, c.shared_slice_known-in-loop-v-1.given c.loop-v.v)

pub overflow_add-ranks : goal.overflow_add-ranks
overflow_add-ranks c = omega (arith, c.shared_slice_known-1.given c.loop-v.v, c.shared_slice_known-in-loop-v-1.given c.loop-v.v)

pub offset_bounds-ranks-v : goal.offset_bounds-ranks-v
offset_bounds-ranks-v c = omega (arith, c.loop-v.invariant.1.filled.same_length)

pub bounds-ranks-v : goal.bounds-ranks-v
bounds-ranks-v c = omega (arith, c.loop-v.invariant.1.filled.same_length)

pub loop-v-preserved : goal.loop-v-preserved
loop-v-preserved c = (omega arith, ranked-next (omega arith) (omega (arith, c.shared_slice_known-in-loop-v-1.given c.loop-v.v)) refl c.loop-v.invariant.1)

pub shape_of-ranks : goal.shape_of-ranks
shape_of-ranks c = c.loop-v.invariant.1.filled.same_length

pub returns : goal.returns
returns c = rw (← le_antisymm c.loop-v.invariant.0 c.loop-v-test.false) c.loop-v.invariant.1
