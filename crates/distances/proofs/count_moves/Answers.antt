-- `count_moves` meets its contract: the invariant says that the moves into the first positions of the order were looked at.
use native.Mathlib.Omega.{arith}
use Prim.Native.Nat.{ℕ}
use lib.ListN.{get_or-replicate}
use Rattle.distances.specs.QueueLaws.{queue-most}
use Rattle.distances.specs.SearchLaws.{search-done}
use Rattle.distances.proofs.count_moves.Goals as goal

pub chain-requires : goal.chain-requires
chain-requires c =
    let pre = c.requires in
    record { n_bound = (pre.2, pre.0.tos-row, omega arith, pre.2, λ k l. get_or-replicate {A = ℕ} 512 k 65535 0 l); by_index = λ v l f. omega (arith, pre.0.to_inside v l, pre.1) }

pub overflow_add-head : goal.overflow_add-head
overflow_add-head c = omega (arith, c.loop-head-test.true, queue-most c.loop-head.invariant.queue, c.requires.1)

pub loop-head-smaller : goal.loop-head-smaller
loop-head-smaller c = omega (arith, c.loop-head-test.true, queue-most c.loop-head.invariant.queue)

pub loop-head-preserved : goal.loop-head-preserved
loop-head-preserved c =
    let visit = c.visit-tail in
    visit.ensures.search _ _ c.chain.ensures c.requires.0 c.loop-head.invariant

pub returns : goal.returns
returns c =
    let pre = c.requires in
    search-done pre.1 pre.0.to_inside pre.0.from-inside c.loop-head-test.false c.loop-head.invariant
