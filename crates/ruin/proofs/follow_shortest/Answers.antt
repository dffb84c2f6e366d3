-- `follow_shortest` meets its contract: the straightened moves are those of the arena of tight moves, whose values are the moves that are left.
use native.Mathlib.Omega.{arith}
use Rattle.ruin.specs.RuinLaws.{straight-moves, leads-on, few-left, way-lines}
use Rattle.ruin.proofs.follow_shortest.Goals as goal

pub straighten-requires : goal.straighten-requires
straighten-requires c = let r = c.args.rows.now in (r.within, c.requires.in_bounds.0, r.few.1)

pub count_moves-requires : goal.count_moves-requires
count_moves-requires c =
    let r = c.args.rows.now in
    (straight-moves c.requires.weighed.1.1 c.straighten.ensures (omega (arith, r.few.1, c.straighten.auto)), r.few.0, r.few.1, r.room.1, r.few.0)

pub point_on-requires : goal.point_on-requires
point_on-requires c =
    let r = c.args.rows.now in
    (straight-moves c.requires.weighed.1.1 c.straighten.ensures (omega (arith, r.few.1, c.straighten.auto)), omega (arith, r.few.0, c.count_moves.auto), r.few.0)

pub follow-requires : goal.follow-requires
follow-requires c =
    let w = c.requires.weighed.1.1 in
    let n = c.args.rows.now.few.0 in
    let at = c.requires.in_bounds in
    let on = leads-on w c.straighten.ensures c.count_moves.ensures c.point_on.ensures in
    let few = few-left w c.straighten.ensures c.count_moves.ensures c.point_on.ensures _ at.1 at.2 in
    record { leads_on = (on, n, at.1, few); n_in_bounds = (at.0, omega (arith, n, c.count_moves.auto), omega (arith, n, c.point_on.auto), c.requires.room.0, c.requires.room.1) }

pub returns : goal.returns
returns c =
    let at = c.requires.in_bounds in
    record { way = λ a choice owners w. way-lines w c.straighten.ensures c.count_moves.ensures c.point_on.ensures at.1 at.2 c.follow.ensures }
