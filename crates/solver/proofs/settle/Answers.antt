-- `settle` meets its contract: the invariant says that the rows hold the table after round (k, s). A round that places
-- nobody leaves the table of the last round, and so does the n-th.
use Rattle.solver.specs.SettleLaws.{settling-next, settling-stops}
use Rattle.solver.proofs.settle.Goals as goal

pub returns-then-count-eq0 : goal.returns-then-count-eq0
returns-then-count-eq0 c =
    let so_far = c.loop-s.invariant in
    let noted = c.flag_ready.ensures in
    let round = c.place-count.ensures in
    settling-stops c.requires.0 so_far noted round c.if-count-eq0.true

pub loop-s-preserved : goal.loop-s-preserved
loop-s-preserved c =
    let so_far = c.loop-s.invariant in
    let noted = c.flag_ready.ensures in
    let round = c.place-count.ensures in
    settling-next c.requires.0 so_far noted round
