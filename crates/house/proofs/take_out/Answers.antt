-- `take_out` meets its contract. The loop's invariant: the records below the present lane are copied into a row that began with no run in it.
use Rattle.std.proofs.Common.{arith, refl}
use Rattle.house.specs.Copies.{copied}
use Rattle.house.proofs.Copying.{copied-more}
use Rattle.house.proofs.take_out.Goals as goal

pub loop-lane-init : goal.loop-lane-init
unfolding copied
loop-lane-init c = (omega arith, rw c.none-held.ensures refl)

pub loop-lane-preserved : goal.loop-lane-preserved
loop-lane-preserved c = (omega arith, copied-more _ _ _ _ _ (omega arith) c.loop-lane.invariant.1)
