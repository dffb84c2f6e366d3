-- `solve_rounds` meets its contract: the invariant says that the rounds of all values up to `last` were carried out.
use Prim.Native.Nat.{◌*◌}
use native.Mathlib.Omega.{arith}
use Rattle.rows.specs.Rows.{RowIs}
use Rattle.rows.specs.Numbers.{number_at}
use Rattle.solver.specs.SolveLaws.{begin-again, solved-after, solving-done}
use Rattle.visits.specs.Standing.{Setting, Ready}
use Rattle.visits.specs.VisitLaws.{as-long-then}
use Rattle.filed.proofs.solve_rounds.Goals as goal

pub next_value-lists-requires : goal.next_value-lists-requires
next_value-lists-requires c = let ready_at : (g : Setting c.args.n c.args.starts.now c.args.entries.now) → RowIs c.args.needs.now (2 * c.args.n) (number_at g.first) → Ready g c.loop-last.last c.loop-last.lists.tail c.loop-last.lists c.loop-last.needs c.loop-last.values c.loop-last.steps c.loop-last.order c.loop-last.due c.loop-last.later = λ g first. let f = c.first_value-lists.ensures.goes_on g first in (c.loop-last.invariant.1 g (begin-again f.0) f.1).1 in
    ((_, (c.requires.n_in_bounds.0.0, ready_at c.requires.n_in_bounds.0.0 c.requires.n_in_bounds.0.1)), omega (arith, c.loop-last-test.true, c.requires.n_in_bounds.0.0.few-positions))

pub returns-then-lists-head : goal.returns-then-lists-head
returns-then-lists-head c =
    record {
      goes_on = λ g first.
          let f = c.first_value-lists.ensures.goes_on g first in
          let inv = c.loop-last.invariant.1 g (begin-again f.0) f.1 in
          solved-after f.0 (c.next_value-lists.ensures.stops _ g inv.1 _ _ _ inv.0 c.if-lists-head.true);
    }

pub loop-last-preserved : goal.loop-last-preserved
loop-last-preserved c =
    let next = c.next_value-lists in (as-long-then c.loop-last.invariant.0 next.ensures.long, λ g so ready. let inv = c.loop-last.invariant.1 g so ready in next.ensures.goes_on _ g inv.1 _ _ _ inv.0 c.if-lists-head.false)

pub returns : goal.returns
returns c =
    record {
      goes_on = λ g first.
          let f = c.first_value-lists.ensures.goes_on g first in
          let inv = c.loop-last.invariant.1 g (begin-again f.0) f.1 in
          solved-after f.0 (solving-done inv.0 c.loop-last-test.false);
    }
