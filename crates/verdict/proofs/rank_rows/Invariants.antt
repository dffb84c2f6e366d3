-- `rank_rows` meets its contract: the invariant says that the positions below v have their ranks.
use Prim.Native.Nat.{◌≤◌}
use Rattle.verdict.specs.Ranks.{RowsRanked}
use Rattle.verdict.proofs.rank_rows.Given as goal

abbrev pub invariant-loop-v : goal.invariant-loop-v
invariant-loop-v l = (l.v ≤ l.n) × RowsRanked l.v l.values l.steps l.initial.ranks l.ranks
