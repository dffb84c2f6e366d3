-- `square_of` meets its contract: the invariant says that the first i moves are gathered.
use native.Mathlib.Omega.{arith}
use Prim.Native.Nat.{◌+◌, ◌≤◌, ◌<◌}
use lib.ListN.{get_or}
use Rattle.squares.specs.SquaresLaws.{gathered_none, gathered-other, gathered-more}
use Rattle.squares.proofs.square_of.Goals as goal
use Rattle.squares.proofs.square_of.Goals.{then-costs-i, else-costs-i}

pub loop-i-init : goal.loop-i-init
loop-i-init c = gathered_none

pub loop-i-preserved : goal.loop-i-preserved
loop-i-preserved c =
    let from-inside : get_or c.args.froms.now c.loop-i.i 0 < 3 = c.requires.from-inside c.loop-i.i c.loop-i-test.true in
    let to_inside : get_or c.args.tos.now c.loop-i.i 0 < 3 = c.requires.to_inside c.loop-i.i c.loop-i-test.true in
    let at = c.loop-i in
    let more : at.i + 1 ≤ c.args.m = omega arith in
    elim c.if-costs-i.branch [
      | then-costs-i w ↦ rw w.square-is (gathered-more w.if-costs-i.true from-inside to_inside at.invariant)
      | else-costs-i w ↦ rw w.square-is (gathered-other w.if-costs-i.false at.invariant)
    ]
