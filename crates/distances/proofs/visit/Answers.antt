-- `visit` meets its contract: the invariant says that the lines into the position before i were looked at.
use native.Mathlib.Omega.{arith}
use Prim.Native.Nat.{ℕ, ◌+◌, ◌<◌}
use Rattle.std.proofs.Common.{List}
use mathlib.Core.Path.{◌≡◌}
use lib.ListN.{get_or}
use Rattle.chains.specs.Chains.{Chained, next_of}
use Rattle.chains.specs.ChainLaws.{next-above}
use Rattle.distances.specs.Distances.{Joins}
use Rattle.distances.specs.QueueLaws.{queue-most, queue-room}
use Rattle.distances.specs.SearchLaws.{Visiting, visiting-next, visiting-done, reached-lengths}
use Rattle.distances.proofs.visit.Goals as goal

pub offset_bounds-order-head : goal.offset_bounds-order-head
offset_bounds-order-head c = let head-inside : c.args.head < c.args.n = omega (arith, queue-most c.requires.by_index.0.1.1.2.queue, c.requires.by_index.1) in
    omega (arith, head-inside, c.requires.by_index.2)

pub bounds-order-head : goal.bounds-order-head
bounds-order-head c = let head-inside : c.args.head < c.args.n = omega (arith, queue-most c.requires.by_index.0.1.1.2.queue, c.requires.by_index.1) in
    omega (arith, head-inside, c.requires.in_bounds)

pub overflow_add-count : goal.overflow_add-count
overflow_add-count c = let head-inside : c.args.head < c.args.n = omega (arith, queue-most c.requires.by_index.0.1.1.2.queue, c.requires.by_index.1) in
    omega (arith, c.requires.by_index.0.1.1.2.queue.few c.args.head c.requires.by_index.1, head-inside, c.requires.by_index.2)

pub reach-last-requires : goal.reach-last-requires
reach-last-requires c =
    let target : ℕ = get_or c.args.order.now c.args.head 0 in
    let visiting : Visiting c.args.n c.args.m c.requires.by_index.0.0 c.args.froms.now c.requires.by_index.0.1.0 c.args.head (target) (get_or c.args.left.now (target) 0 + 1) c.loop-i.left c.loop-i.order c.loop-i.last c.loop-i.i = c.loop-i.invariant _ _ c.requires.by_index.0.1.1.0 c.requires.by_index.0.1.1.1 c.requires.by_index.0.1.1.2 in
    let from = c.requires.by_index.0.1.1.1.from-inside _ c.loop-i-test.true in
    let queue = (visiting).search.queue in
    (omega (arith, from, c.requires.by_index.2), omega (arith, from, c.requires.in_bounds, c), omega (arith, queue-most queue, c.requires.by_index.2), λ none. omega (arith, queue-room queue from none, c.requires.in_bounds, c))

pub loop-i-smaller : goal.loop-i-smaller
loop-i-smaller c =
    let next-line : (marks tos : List ℕ) → Chained tos c.args.m 0 c.args.heads.now c.args.nexts.now → Joins c.args.n c.args.m c.args.froms.now tos → c.loop-i.i < c.args.m → get_or c.args.nexts.now c.loop-i.i 0 ≡ next_of tos c.args.m (get_or tos c.loop-i.i 0) (c.loop-i.i + 1) = λ marks tos chained joins l. chained.next c.loop-i.i (omega arith) l (λ z. omega (arith, joins.to_inside c.loop-i.i l, c.requires.by_index.2)) in
    let turn = c.loop-i-test.true in
    let known = c.requires.by_index.0.1.1 in
    omega (arith, turn, next-above c.requires.by_index.0.1.0 c.args.m (get_or c.requires.by_index.0.1.0 c.loop-i.i 0) (c.loop-i.i + 1) _ (omega arith) c.requires.by_index.3 (next-line c.requires.by_index.0.0 c.requires.by_index.0.1.0 known.0 known.1 turn))

pub loop-i-preserved : goal.loop-i-preserved
loop-i-preserved c =
    let next-line : (marks tos : List ℕ) → Chained tos c.args.m 0 c.args.heads.now c.args.nexts.now → Joins c.args.n c.args.m c.args.froms.now tos → c.loop-i.i < c.args.m → get_or c.args.nexts.now c.loop-i.i 0 ≡ next_of tos c.args.m (get_or tos c.loop-i.i 0) (c.loop-i.i + 1) = λ marks tos chained joins l. chained.next c.loop-i.i (omega arith) l (λ z. omega (arith, joins.to_inside c.loop-i.i l, c.requires.by_index.2)) in
    let turn = c.loop-i-test.true in
    let reached = c.reach-last.ensures in
    let sizes = reached-lengths reached in λ marks tos chained joins search.
    visiting-next c.requires.by_index.3 c.requires.by_index.2 (c.loop-i.invariant marks tos chained joins search) turn (joins.from-inside _ turn) (omega (arith, c.requires.in_bounds, c)) (omega (arith, c.requires.in_bounds, c)) reached
    (next-line marks tos chained joins turn)

pub returns : goal.returns
returns c =
    record { search = λ marks tos chained joins search. visiting-done c.requires.by_index.3 c.requires.by_index.2 (c.loop-i.invariant marks tos chained joins search) c.loop-i-test.false }
