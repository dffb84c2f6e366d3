-- `settle` meets its contract: the invariant says that the rounds up to (k, s) were carried out, and that the order has those of the last
-- from `at` on.
use Prim.Native.Nat.{◌≤◌}
use native.Mathlib.Omega.{arith}
use Rattle.solver.specs.Solving.{Settling}
use Rattle.solver.specs.SettleLaws.{settling-next, settling-stops}
use Rattle.visits.specs.Lists.{listed-most}
use Rattle.visits.specs.Standing.{Ready}
use Rattle.visits.specs.VisitLaws.{as-long-then, as-long-wide, ready-next}
use Rattle.filed.specs.RoundLaws.{flags-noted, flags-placing, flags-empty}
use Rattle.filed.proofs.settle.Goals as goal

pub overflow_add-s : goal.overflow_add-s
overflow_add-s c = let so_far : Settling c.requires.0 c.requires.1.0.m c.requires.1.0.owners c.requires.1.0.costs c.requires.1.0.froms c.requires.1.0.tos c.args.k c.loop-grown.s c.args.values.now c.args.steps.now c.loop-grown.values c.loop-grown.steps × Ready c.requires.1.0 c.args.k c.loop-grown.at c.loop-grown.grown c.loop-grown.needs c.loop-grown.values c.loop-grown.steps c.loop-grown.order c.loop-grown.due c.loop-grown.later × (c.loop-grown.s ≤ c.loop-grown.grown.tail) × (c.args.lists.tail ≤ c.loop-grown.grown.tail) = c.loop-grown.invariant.1 _ c.requires.1.0 c.requires.1.1 in
    let order-most : c.loop-grown.grown.tail ≤ 512 = omega (arith, listed-most (so_far).1.standing.placed, c.requires.1.0.few-positions) in
    omega (arith, (so_far).2, order-most)

pub visit_round-grown-requires : goal.visit_round-grown-requires
visit_round-grown-requires c = let so_far : Settling c.requires.0 c.requires.1.0.m c.requires.1.0.owners c.requires.1.0.costs c.requires.1.0.froms c.requires.1.0.tos c.args.k c.loop-grown.s c.args.values.now c.args.steps.now c.loop-grown.values c.loop-grown.steps × Ready c.requires.1.0 c.args.k c.loop-grown.at c.loop-grown.grown c.loop-grown.needs c.loop-grown.values c.loop-grown.steps c.loop-grown.order c.loop-grown.due c.loop-grown.later × (c.loop-grown.s ≤ c.loop-grown.grown.tail) × (c.args.lists.tail ≤ c.loop-grown.grown.tail) = c.loop-grown.invariant.1 _ c.requires.1.0 c.requires.1.1 in
    (_, (c.requires.1.0, (so_far).1))

pub returns-then-grown-end : goal.returns-then-grown-end
returns-then-grown-end c =
    let round = c.visit_round-grown in
    record {
      long = as-long-then c.loop-grown.invariant.0 round.ensures.long;
      goes_on = λ n g ready.
          let inv = c.loop-grown.invariant.1 n g ready in
          let done = round.ensures.goes_on n g inv.1 in
          let none = c.if-grown-end.true in
          let next = ready-next g inv.1 inv.1.started (omega arith) done (as-long-wide inv.1.wide round.ensures.long) in (
            settling-stops (omega (arith, ready.small)) inv.0 (flags-noted g inv.1 done round.ensures.long) (flags-placing g inv.1 done round.ensures.long) (flags-empty g inv.1 done round.ensures.long none),
            (rw (← none) at next),
            omega (arith, inv.3, none),
          );
    }

pub loop-grown-smaller : goal.loop-grown-smaller
loop-grown-smaller c =
    let so_far : Settling c.requires.0 c.requires.1.0.m c.requires.1.0.owners c.requires.1.0.costs c.requires.1.0.froms c.requires.1.0.tos c.args.k c.loop-grown.s c.args.values.now c.args.steps.now c.loop-grown.values c.loop-grown.steps × Ready c.requires.1.0 c.args.k c.loop-grown.at c.loop-grown.grown c.loop-grown.needs c.loop-grown.values c.loop-grown.steps c.loop-grown.order c.loop-grown.due c.loop-grown.later × (c.loop-grown.s ≤ c.loop-grown.grown.tail) × (c.args.lists.tail ≤ c.loop-grown.grown.tail) = c.loop-grown.invariant.1 _ c.requires.1.0 c.requires.1.1 in
    let done = c.visit_round-grown.ensures.goes_on _ c.requires.1.0 (so_far).1 in
    omega (arith, done.grown.longer, c.if-grown-end.false, listed-most done.state.placed, c.requires.1.0.few-positions)

pub loop-grown-preserved : goal.loop-grown-preserved
loop-grown-preserved c =
    let round = c.visit_round-grown in (
      as-long-then c.loop-grown.invariant.0 round.ensures.long,
      λ n g ready.
          let inv = c.loop-grown.invariant.1 n g ready in
          let done = round.ensures.goes_on n g inv.1 in
          let more = done.grown.longer in
          let some = c.if-grown-end.false in (
            settling-next (omega (arith, ready.small)) inv.0 (flags-noted g inv.1 done round.ensures.long) (flags-placing g inv.1 done round.ensures.long),
            ready-next g inv.1 inv.1.started (omega arith) done (as-long-wide inv.1.wide round.ensures.long),
            omega (arith, inv.2),
            omega (arith, inv.3),
          ),
    )
