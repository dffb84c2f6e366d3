-- `walk::walk_moves` meets its contract. The invariant: the first i lines stand, ranks below `lowest` are theirs, their kinds are noted, and the
-- rows are filled up to i.
use Prim.Native.Nat.{◌+◌, ◌*◌, ◌≤◌, ◌-◌}
use Rattle.rows.specs.Rows.{Kept}
use Rattle.walk.specs.Decoded.{MoveRows}
use Rattle.walk.specs.Walked.{Kinds}
use Rattle.walk.specs.WalkLaws.{SoFar}
use Rattle.walk.proofs.walk_moves.Given as goal

abbrev pub invariant-loop-i : goal.invariant-loop-i
invariant-loop-i l = (l.i ≤ l.m) × SoFar l.text l.n l.i l.lowest × Kinds l.text l.n l.i l.kinds × Kept (2 * l.n) l.initial.kinds l.kinds × MoveRows l.text (l.n + 1) l.i l.initial.costs l.costs l.initial.froms l.froms l.initial.tos l.tos
