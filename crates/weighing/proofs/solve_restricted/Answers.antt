-- `solve_restricted` meets its contract: what is solved are the copied moves, which are no more than the moves.
use native.Mathlib.Omega.{arith}
use Rattle.restriction.specs.RestrictionLaws.{copied-fewer}
use Rattle.weighing.proofs.solve_restricted.Goals as goal

pub restrict-count-requires : goal.restrict-count-requires
restrict-count-requires c =
    let r = c.args.rows.now in
    record { within = (r.within, r.room.0, c.requires.positions_fit.0); m_in_bounds = c.requires.moves_fit }

pub solve_kept-requires : goal.solve_kept-requires
solve_kept-requires c =
    let fewer = copied-fewer c.restrict-count.ensures in
    let kept = c.restrict-count.auto in
    let room = c.requires.moves_fit in
    record {
      legal = c.requires.legal;
      copied = c.restrict-count.ensures;
      positions_fit = c.requires.positions_fit.1;
      moves_fit = (omega (arith, fewer, kept, room), omega (arith, fewer, kept, room), omega (arith, fewer, kept, room));
    }
