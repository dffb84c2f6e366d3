-- `find_way` meets its contract: the moves that stay are weighed, and the way is followed where the worth is a number.
use native.Mathlib.Omega.{arith}
use Rattle.rows.specs.Holding.{arena, holds}
use Rattle.rows.specs.RowsLaws.{rows-within}
use Rattle.ruin.specs.RuinLaws.{found_none, found_some}
use Rattle.ruin.proofs.find_way.Goals as goal

pub returns-then-worths-position : goal.returns-then-worths-position
returns-then-worths-position c = found_none c.solve_restricted-count.ensures c.requires.in_bounds.1 c.if-worths-position.true

pub invariant_of-kept : goal.invariant_of-kept
invariant_of-kept c =
    let r = c.args.rows.now in
    let rows = (c.solve_restricted-count.ensures.rows (arena r) (holds r) c.requires.legal).rows in
    record {
      chart = ∣ (_, rows) ∣₁;
      few = (rows.few-positions, rows.few-moves);
      within = rows-within rows;
      room = (rows.owners-row, rows.marks-row);
    }

pub follow_shortest-requires : goal.follow_shortest-requires
follow_shortest-requires c =
    let r = c.args.rows.now in
    let solved = c.solve_restricted-count in
    record {
      weighed = (_, (_, solved.ensures.rows (arena r) (holds r) c.requires.legal));
      in_bounds = (omega (arith, r.few.0, solved.auto), c.requires.in_bounds.1, c.if-worths-position.false);
      room = c.requires.room;
    }

pub returns : goal.returns
returns c = found_some c.solve_restricted-count.ensures c.follow_shortest.ensures
