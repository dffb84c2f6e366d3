-- `choose` meets its contract: the invariant says that the row has the best target among the first i moves.
use native.Mathlib.Nat.{le_antisymm}
use native.Mathlib.Omega.{arith}
use Rattle.rows.specs.RowsLaws.{rows-within}
use Rattle.rows.specs.Rows.{at-move}
use Rattle.choice.specs.ChooseLaws.{choosing-none, choosing-next, choosing-fits, choosing-all, choosing-done}
use Rattle.choice.proofs.choose.Goals as goal

pub loop-i-init : goal.loop-i-init
loop-i-init c = choosing-none c.clear.ensures.row

pub choose_by-requires : goal.choose_by-requires
choose_by-requires c =
    let pre = c.requires in
    let d = pre.0.1.1 in
    let w = rows-within d in
    let turn = c.loop-i-test.true in
    (at-move w _ _ (omega (arith, pre.1)) (omega (arith, pre.2)) _ turn, omega (arith, w.from-inside _ turn, d.owners-row), choosing-fits _ _ w c.loop-i.invariant (omega (arith, pre.1)) turn)

pub loop-i-preserved : goal.loop-i-preserved
loop-i-preserved c =
    let pre = c.requires in
    let inside = (rows-within pre.0.1.1).from-inside _ c.loop-i-test.true in
    let step = c.choose_by.ensures in
    rw step (choosing-next c.loop-i.invariant (omega (arith, c, pre.2)) inside)

pub returns : goal.returns
returns c =
    choosing-done (rows-within c.requires.0.1.1) c.clear.ensures.rest (choosing-all (le_antisymm c.loop-i.auto.i-end c.loop-i-test.false) c.loop-i.invariant)
