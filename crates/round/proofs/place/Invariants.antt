-- `place` meets its contract: the invariant says that the round has been carried out at the positions below v.
use Prim.Native.Nat.{◌≤◌}
use Rattle.round.specs.Round.{Placing}
use Rattle.round.proofs.place.Given as goal

abbrev pub invariant-loop-v : goal.invariant-loop-v
invariant-loop-v l = (l.count ≤ l.v) × Placing l.v l.flags l.k l.s l.initial.values l.initial.steps l.values l.steps l.count
