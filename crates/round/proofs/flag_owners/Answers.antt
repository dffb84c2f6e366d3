-- `flag_owners` meets its contract: the invariant says that the row is filled up to v and has kept its length.
use Rattle.std.proofs.Common.{arith}
use Rattle.std.proofs.lemmas.Grind.{common_steps}
use Rattle.rows.specs.Filling.{filled_more}
use Rattle.round.specs.Round.{ready_flag}
use Rattle.round.proofs.flag_owners.Goals as goal

pub loop-v-preserved : goal.loop-v-preserved
unfolding ready_flag
loop-v-preserved c = filled_more _ _ _ _ _ c.loop-v.invariant (omega arith) (grind (arith, common_steps))
