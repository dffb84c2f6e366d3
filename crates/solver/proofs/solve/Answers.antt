-- `solve` meets its contract: the invariant says that the rows hold the table that the value after `last` begins with. A
-- value whose first round places nobody is the end, and so is the n-th.
use native.Mathlib.Omega.{arith}
use Rattle.solver.specs.SolveLaws.{solved-after, solving-done}
use Rattle.solver.proofs.solve.Goals as goal

pub first_value-requires : goal.first_value-requires
first_value-requires c = (omega (arith, c.args.rows.now.few.0), c.requires.0, c.requires.1)

pub next_value-count-requires : goal.next_value-count-requires
next_value-count-requires c =
    let first = c.first_value.auto in
    let few = c.args.rows.now.few.0 in
    (omega (arith, few, c), omega (arith, few, c), omega (arith, c.requires.0, c, first), omega (arith, c.requires.1, c, first))

pub returns-then-count-eq0 : goal.returns-then-count-eq0
returns-then-count-eq0 c = solved-after c.first_value.ensures (c.next_value-count.ensures.stops c.loop-last.invariant.1 c.if-count-eq0.true)

pub loop-last-preserved : goal.loop-last-preserved
loop-last-preserved c =
    let kept = c.next_value-count.auto in
    (omega (arith, c, kept), c.next_value-count.ensures.goes_on c.loop-last.invariant.1 c.if-count-eq0.false)

pub returns : goal.returns
returns c = solved-after c.first_value.ensures (solving-done c.loop-last.invariant.1 c.loop-last-test.false)
