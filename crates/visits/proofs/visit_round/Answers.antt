-- `visit_round` meets its contract: the invariant says that the positions of the order before `at` were visited.
use native.Mathlib.Omega.{arith}
use Rattle.std.proofs.Common.{ℕ}
use Rattle.visits.specs.Standing.{Setting}
use mathlib.Core.Path.{◌≡◌}
use Rattle.visits.specs.Standing.{Ready}
use Rattle.visits.specs.VisitLaws.{as-long-then, as-long-wide, ready-next, progress-then}
use Rattle.visits.proofs.visit_round.Goals as goal
use Rattle.visits.proofs.visit_round.Goals.{In-loop-at}

-- what a visit wants holds before each: as the positions so far have left it
ready_at : (c : In-loop-at) → (n : ℕ) (g : Setting n c.args.starts.now c.args.entries.now) → Ready g c.args.k c.args.head c.args.lists c.args.needs.now c.args.values.now c.args.steps.now c.args.order.now c.args.due.now c.args.later.now → Ready g c.args.k c.loop-at.at c.loop-at.grown c.loop-at.needs c.loop-at.values c.loop-at.steps c.loop-at.order c.loop-at.due c.loop-at.later
ready_at c = λ n g ready. let inv = c.loop-at.invariant.1 n g ready in ready-next g ready inv.0 inv.1 inv.2 (as-long-wide ready.wide c.loop-at.invariant.0)

pub visit-grown-requires : goal.visit-grown-requires
visit-grown-requires c =
    let inv = c.loop-at.invariant.1 _ c.requires.1.0 c.requires.1.1 in
    ((_, (c.requires.1.0, ready_at (goal.at.visit-grown-requires c).In-loop-at _ c.requires.1.0 c.requires.1.1)), omega (arith, inv.2.grown.longer, c.loop-at-test.true))

pub loop-at-preserved : goal.loop-at-preserved
loop-at-preserved c =
    let visit = c.visit-grown in
    let turn = c.loop-at-test.true in (
      as-long-then c.loop-at.invariant.0 visit.ensures.long,
      λ n g ready.
          let inv = c.loop-at.invariant.1 n g ready in
          (omega (arith, inv.0), omega (arith, turn), progress-then g ready inv.2 (visit.ensures.goes_on n g (ready_at (goal.at.loop-at-preserved c).In-loop-at n g ready) (omega (arith, inv.2.grown.longer, turn)))),
    )

pub returns : goal.returns
returns c =
    record {
      long = c.loop-at.invariant.0;
      goes_on = λ n g ready.
          let inv = c.loop-at.invariant.1 n g ready in
          let all : c.loop-at.at ≡ c.args.lists.tail = omega (arith, inv.1, c.loop-at-test.false) in
          rw all at inv.2;
    }
