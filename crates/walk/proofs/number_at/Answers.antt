-- `walk::number_at` meets its contract: a slot's number is below what all are.
use native.Mathlib.Omega.{arith}
use Rattle.walk.proofs.number_at.Goals as goal

pub overflow_cast-result : goal.overflow_cast-result
overflow_cast-result c = omega (arith, c.shared_slice_known-3-1.given c.slot.result)

pub returns : goal.returns
returns c = λ n h. h.below c.slot.result c.slot.ensures
