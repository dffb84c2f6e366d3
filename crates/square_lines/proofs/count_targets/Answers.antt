-- `count_targets` meets its contract: the invariant says that the targets below w are counted.
use native.Mathlib.Omega.{arith}
use mathlib.Core.Path.{refl}
use Rattle.search.specs.Below.{count_below, count_next, count-bound}
use Rattle.square_lines.specs.Lines.{yes}
use Rattle.square_lines.proofs.count_targets.Goals as goal
use Rattle.square_lines.proofs.count_targets.Goals.{then-row-w, else-row-w}

pub loop-w-init : goal.loop-w-init
unfolding count_below
loop-w-init c = refl

pub overflow_add-count : goal.overflow_add-count
overflow_add-count c = omega (arith, count-bound (yes c.args.row) c.loop-w.w)

pub loop-w-preserved : goal.loop-w-preserved
loop-w-preserved c =
    let next = count_next (yes c.args.row) c.loop-w.w in
    elim c.if-row-w.branch [
      | then-row-w s ↦ rw (next, s.if-row-w.true) (omega arith)
      | else-row-w s ↦ rw (next, s.if-row-w.false) (omega arith)
    ]
