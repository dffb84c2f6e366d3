-- `gather` meets its contract: the invariant says that the list has the positions below v.
use Rattle.std.proofs.Common.{arith}
use Rattle.std.proofs.lemmas.Grind.{common_steps}
use Rattle.rows.specs.NumberLaws.{from-bool}
use Rattle.visits.specs.Lists.{listed-none, listed_more, listed-most}
use Rattle.filed.proofs.gather.Goals as goal

pub loop-v-init : goal.loop-v-init
loop-v-init c = listed-none _ (λ v l. absurd (omega arith))

pub offset_bounds-later-late : goal.offset_bounds-later-late
offset_bounds-later-late c = omega (arith, listed-most c.loop-v.invariant)

pub bounds-later-late : goal.bounds-later-late
bounds-later-late c = omega (arith, listed-most c.loop-v.invariant)

pub overflow_add-late : goal.overflow_add-late
overflow_add-late c = grind (arith, common_steps, listed-most c.loop-v.invariant)

pub loop-v-preserved : goal.loop-v-preserved
loop-v-preserved c = rw (c.from-late.ensures, from-bool) (listed_more c.loop-v.invariant (omega (arith, listed-most c.loop-v.invariant)))
