-- `write_targets` meets its contract. The invariant: the lines of the targets below w are written, and behind them the buffer is as it was. A
-- turn with a target writes the part behind them.
use Prim.Native.Nat.{◌+◌, ◌≤◌}
use native.Mathlib.Omega.{arith}
use lib.ListN.{length, length-take, length-drop}
use Rattle.square_lines.specs.LinesLaws.{targets-none, targets-same, targets-more, targets-room}
use Rattle.square_lines.proofs.write_targets.Goals as goal
use Rattle.square_lines.proofs.write_targets.Goals.{then-row-w, else-row-w}

pub loop-w-init : goal.loop-w-init
loop-w-init c = targets-none _ _ _ _

pub write_line-requires : goal.write_line-requires
write_line-requires c = let room : c.loop-w.at + 12 ≤ length c.args.lines.now = targets-room c.args.letter c.args.from c.args.row c.args.lines.now c.loop-w.w c.args.n c.loop-w.at
    c.loop-w-test.true c.if-row-w.true c.loop-w.invariant.bytes c.requires.2 in
    simp (length-take, length-drop) (omega (arith, room))

pub loop-w-preserved : goal.loop-w-preserved
loop-w-preserved c =
    let a = c.args in
    elim c.if-row-w.branch [
      | then-row-w s ↦
          let room : c.loop-w.at + 12 ≤ length a.lines.now = targets-room a.letter a.from a.row a.lines.now c.loop-w.w a.n c.loop-w.at
          c.loop-w-test.true s.if-row-w.true c.loop-w.invariant.bytes c.requires.2 in
          let more = targets-more a.letter a.from a.row a.lines.now c.loop-w.w c.loop-w.at c.loop-w.lines _ s.if-row-w.true room c.loop-w.invariant s.write_line.ensures in
          rw (s.lines-is, s.at-is) more
      | else-row-w s ↦ rw (s.lines-is, s.at-is) (targets-same a.letter a.from a.row a.lines.now c.loop-w.w c.loop-w.at c.loop-w.lines s.if-row-w.false c.loop-w.invariant)
    ]
