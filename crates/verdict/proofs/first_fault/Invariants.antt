-- `first_fault` meets its contract. Between positions, those below v have no fault and the first i moves are theirs; between
-- moves of v, its moves among the first i were seen. Each way out has a law: a test before the moves fails, a breach of 4 at
-- L, a test after the moves fails, or no position is left.
use Prim.Native.Nat.{◌-◌, ◌≤◌}
use mathlib.Core.Path.{◌≡◌}
use Rattle.verdict.specs.OnRows.{sheet_on}
use Rattle.verdict.specs.Sheet.{line_at}
use Rattle.verdict.specs.Walk.{Walked, Walking}
use Rattle.verdict.proofs.first_fault.Given as goal

abbrev pub invariant-loop-i : goal.invariant-loop-i
invariant-loop-i l = (l.i ≤ l.m) × (l.line ≡ line_at (sheet_on l.rows l.values l.choices l.steps) l.v) × Walking l.m (sheet_on l.rows l.values l.choices l.steps) l.v l.i l.seen

abbrev pub decreases-loop-i : goal.decreases-loop-i
decreases-loop-i l = l.m - l.i

abbrev pub invariant-positions : goal.invariant-positions
invariant-positions l = (l.v ≤ l.n) × (l.i ≤ l.m) × Walked l.m (sheet_on l.rows l.values l.choices l.steps) l.v l.i

abbrev pub decreases-positions : goal.decreases-positions
decreases-positions l = l.n - l.v
