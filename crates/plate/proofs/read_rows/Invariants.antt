-- `plate::read_rows` meets its contract. The invariant: the rows hold the columns of the positions so far. A turn reads one line of
-- three entries, each of which fits 16 bits by the form.
use Rattle.plate.specs.Read.{ColumnsRead}
use Prim.Native.Nat.{◌-◌, ◌≤◌}
use Rattle.plate.proofs.read_rows.Given as goal

abbrev pub invariant-loop-v : goal.invariant-loop-v
invariant-loop-v l = (l.v ≤ l.n) × ColumnsRead l.v l.plate l.initial.values l.values l.initial.choices l.choices l.initial.steps l.steps
