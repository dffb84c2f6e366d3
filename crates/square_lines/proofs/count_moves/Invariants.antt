-- `count_moves` meets its contract: the invariant says that the moves of the positions below v are counted. There are at most 18.
use mathlib.Core.Path.{◌≡◌}
use Rattle.square_lines.specs.Lines.{moves_count}
use Rattle.square_lines.proofs.count_moves.Given as goal

abbrev pub invariant-loop-v : goal.invariant-loop-v
invariant-loop-v l = l.count ≡ moves_count l.n l.meant l.disturbances l.v
