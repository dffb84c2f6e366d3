-- `begin_value` meets its contract: the invariant says that the first i positions of the list are placed.
use native.Mathlib.Omega.{arith}
use mathlib.Core.Path.{ap}
use mathlib.Core.Bool.{not}
use Rattle.visits.specs.Lists.{listed-most, listed-room}
use Rattle.filed.specs.ValueLaws.{begun-turn}
use Rattle.filed.proofs.begin_value.Goals as goal

pub put-grown-requires : goal.put-grown-requires
put-grown-requires c =
    let g = c.requires.0.1 in
    let inv = c.loop-i.invariant in
    let kept = c.loop-i.auto in
    let inside = g.inside _ c.loop-i-test.true in
    let begun = inv _ g in
    (omega (arith, inside, g.few), omega (arith, inside, g.values-row, kept.values), omega (arith, inside, g.steps-row, kept.steps), omega (arith, listed-most begun.placed, g.few), λ free. omega (arith, listed-room begun.placed inside (ap not free), g.order_row, kept.order))

pub loop-i-preserved : goal.loop-i-preserved
loop-i-preserved c =
    let put = c.put-grown in
    let inv = c.loop-i.invariant in
    let kept = c.loop-i.auto in
    let turn = c.loop-i-test.true in
    λ n gathered. begun-turn gathered c.requires.1 turn (inv n gathered) put.ensures (omega (arith, gathered.values-row, kept.values)) (omega (arith, gathered.steps-row, kept.steps)) (omega (arith, gathered.order_row, kept.order))
