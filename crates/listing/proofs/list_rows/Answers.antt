-- `list_rows` meets its contract: the picked lines are those of every arena that the rows hold, and there are at most 4,096 of them.
use native.Mathlib.Omega.{arith}
use borrow.Author.Tests.{le-leb, lt-leb}
use Rattle.good_moves.specs.PickingLaws.{picked-fewer}
use Rattle.listing.specs.ListingLaws.{rows_short, rows-listed}
use Rattle.listing.proofs.list_rows.Goals as goal

pub pick_good-lines-requires : goal.pick_good-lines-requires
pick_good-lines-requires c =
    let r = c.args.rows.now in
    (r.within, r.room.0, omega (arith, r.few.0, c.solve_filed.auto), r.few.1, r.few.1)

pub overflow_mul-lines : goal.overflow_mul-lines
overflow_mul-lines c =
    omega (arith, c.args.rows.now.few.1, picked-fewer c.pick_good-lines.ensures)

pub returns-then-sheet-lines : goal.returns-then-sheet-lines
returns-then-sheet-lines c =
    rows_short c.solve_filed.ensures c.pick_good-lines.ensures (lt-leb _ _ c.if-sheet-lines.true)

pub write_lines-requires : goal.write_lines-requires
write_lines-requires c =
    let fewer = picked-fewer c.pick_good-lines.ensures in
    let few = c.args.rows.now.few.1 in
    let kept = c.pick_good-lines.auto in
    (omega (arith, fewer, few, kept), omega (arith, fewer, few, kept), c.if-sheet-lines.false)

pub returns : goal.returns
returns c =
    rows-listed c.solve_filed.ensures c.pick_good-lines.ensures (le-leb _ _ c.if-sheet-lines.false) c.write_lines.ensures
