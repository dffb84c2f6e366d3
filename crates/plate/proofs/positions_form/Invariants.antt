-- `plate::positions_form` meets its contract. The invariant: the lowest bad line of what is left is that of all. A good line leaves
-- that as it is, a bad one ends it, and with nothing left there is none: the three laws of `first_from`.
use Rattle.std.specs.Prelude.{Ok}
use Rattle.search.specs.First.{first_from}
use Rattle.plate.specs.Formed.{position_good, bad_position}
use mathlib.Core.Path.{◌≡◌}
use Prim.Native.Nat.{◌-◌, ◌≤◌}
use Rattle.plate.proofs.positions_form.Given as goal

abbrev pub invariant-loop-v : goal.invariant-loop-v
invariant-loop-v l = (l.v ≤ l.n) × (first_from (position_good l.n l.plate) bad_position (Ok tt) (l.n - l.v) l.v ≡ first_from (position_good l.n l.plate) bad_position (Ok tt) l.n 0)
