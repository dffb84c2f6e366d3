-- `write_moves` meets its contract. The invariant: the lines of the moves of the positions below v are written, and behind them the buffer is
-- as it was. A turn writes the part behind them twice.
use Prim.Native.Nat.{ℕ, ◌+◌, ◌*◌, ◌≤◌}
use native.Mathlib.Omega.{arith}
use mathlib.Core.Path.{◌≡◌}
use mathlib.Core.List.{List, ◌++◌}
use lib.ListN.{length, length-take, length-drop}
use Rattle.search.specs.Below.{count_below}
use Rattle.line.specs.Joined.{joined}
use Rattle.line.specs.Written.{Written, written-length}
use Rattle.squares.specs.Held.{cell}
use Rattle.numbering.specs.Squares.{target_lines}
use Rattle.square_lines.specs.Lines.{move_lines}
use Rattle.square_lines.specs.LinesLaws.{behind, moves-none, rows_fit, moves-half, moves_more}
use Rattle.square_lines.proofs.write_moves.Goals as goal
use Rattle.square_lines.proofs.write_moves.Goals.{After-write_targets-at, In-loop-v}

-- both rows of lines of a position fit behind what is written
fits : (c : In-loop-v) → let a = c.args in
    c.loop-v.at + count_below (cell a.meant c.loop-v.v) a.n * 12 + count_below (cell a.disturbances c.loop-v.v) a.n * 12 ≤ length a.lines.now
fits c = rows_fit c.args.n c.args.meant c.args.disturbances c.args.lines.now c.loop-v.v c.loop-v.at c.loop-v.lines c.loop-v.invariant c.loop-v-test.true c.requires.1

-- the buffer after the first row of lines, and what it then holds
between : After-write_targets-at → List ℕ
between c = behind c.loop-v.at c.loop-v.lines c.write_targets-at.new.lines

half : (c : After-write_targets-at) → let a = c.args in
    Written (joined (move_lines a.n a.meant a.disturbances) c.loop-v.v ++ target_lines 77 c.loop-v.v (cell a.meant c.loop-v.v) a.n) (c.loop-v.at + c.write_targets-at.result) a.lines.now (between c)
unfolding between
half c =
    moves-half c.args.n c.args.meant c.args.disturbances c.args.lines.now c.loop-v.v c.loop-v.at c.loop-v.lines c.loop-v.invariant c.loop-v-test.true c.requires.1
    _ c.write_targets-at.result c.write_targets-at.ensures

pub loop-v-init : goal.loop-v-init
loop-v-init c = moves-none _ _ _ _

pub write_targets-at-requires : goal.write_targets-at-requires
write_targets-at-requires c =
    let room = fits (goal.at.write_targets-at-requires c).In-loop-v in
    (omega arith, omega arith, simp (length-take, length-drop) (omega arith))

pub write_targets-at-requires-in-loop-v : goal.write_targets-at-requires-in-loop-v
unfolding between
write_targets-at-requires-in-loop-v c =
    let at = goal.at.write_targets-at-requires-in-loop-v c in
    let room = fits at.In-loop-v in
    let first = c.write_targets-at.ensures.bytes in
    let kept = written-length _ _ c.args.lines.now (between at.After-write_targets-at) (half at.After-write_targets-at) (omega (arith, room, first)) in
    (omega arith, omega arith, simp (length-take, length-drop) (omega arith))

pub loop-v-preserved : goal.loop-v-preserved
unfolding between
loop-v-preserved c =
    let at = goal.at.loop-v-preserved c in
    let room = fits at.In-loop-v in
    moves_more c.args.n c.args.meant c.args.disturbances c.args.lines.now c.loop-v.v c.loop-v.at c.loop-v.lines c.loop-v.invariant c.loop-v-test.true c.requires.1 (between at.After-write_targets-at) _ _ _ c.write_targets-at.ensures.bytes (half at.After-write_targets-at) c.write_targets-at-in-loop-v.ensures
