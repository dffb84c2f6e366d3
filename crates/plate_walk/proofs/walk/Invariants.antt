-- `walk` meets its contract: the invariant says that the lines below v are good and the rows hold their columns.
use Prim.Native.Nat.{ℕ, ◌-◌, ◌≤◌, ◌<◌}
use mathlib.Core.Path.{◌≡◌}
use mathlib.Core.Bool.{true}
use Rattle.plate.specs.Formed.{position_good}
use Rattle.plate.specs.Read.{ColumnsRead}
use Rattle.plate_walk.proofs.walk.Given as goal

abbrev pub invariant-loop-v : goal.invariant-loop-v
invariant-loop-v l = (l.v ≤ l.n) × ((u : ℕ) → u < l.v → position_good l.n l.plate u ≡ true) × ColumnsRead l.v l.plate l.initial.values l.values l.initial.choices l.choices l.initial.steps l.steps
