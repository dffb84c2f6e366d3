-- `count_targets` meets its contract: the invariant says that the targets below w are counted.
use mathlib.Core.Path.{◌≡◌}
use Rattle.search.specs.Below.{count_below}
use Rattle.square_lines.specs.Lines.{yes}
use Rattle.square_lines.proofs.count_targets.Given as goal

abbrev pub invariant-loop-w : goal.invariant-loop-w
invariant-loop-w l = l.count ≡ count_below (yes l.row) l.w
