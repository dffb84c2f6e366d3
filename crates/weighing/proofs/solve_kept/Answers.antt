-- `solve_kept` meets its contract: the copied moves are those of the restricted arena, which the solver solves.
use Rattle.rows.specs.Holding.{arena, holds}
use Rattle.rows.specs.RowsLaws.{rows-within}
use Rattle.weighing.specs.WeighingLaws.{copied-rows, restricted-solved}
use Rattle.weighing.proofs.solve_kept.Goals as goal

pub invariant_of-kept : goal.invariant_of-kept
invariant_of-kept c =
    let r = c.args.rows.now in
    let room = c.requires.moves_fit in
    let rows = copied-rows (arena r) _ _ _ _ _ _ _ _ (holds r) _ _ _ _ c.requires.copied c.requires.legal room.0 room.1 room.2 in
    record {
      chart = ∣ (_, rows) ∣₁;
      few = (rows.few-positions, rows.few-moves);
      within = rows-within rows;
      room = (rows.owners-row, rows.marks-row);
    }

pub returns : goal.returns
returns c =
    let room = c.requires.moves_fit in
    restricted-solved c.requires.copied room.0 room.1 room.2 c.solve_filed.ensures
