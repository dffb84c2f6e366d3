-- `decode::decode_positions` meets its contract. The invariant: the rows so far are those of the first v positions. That the text
-- has the lines, that its bytes spell its marks and that these fit a byte is what accepting it says.
use Prim.Native.Nat.{◌≤◌, ◌-◌}
use lib.ListN.{length}
use Rattle.walk.specs.Decoded.{PositionRows}
use Rattle.decode.specs.LoadedLaws.{PositionsFit}
use Rattle.decode.proofs.decode_positions.Given as goal

abbrev pub invariant-loop-v : goal.invariant-loop-v
invariant-loop-v l = (l.v ≤ l.n) × (l.n ≤ length l.initial.owners) × (l.n ≤ length l.initial.marks) × PositionsFit l.text l.n × PositionRows l.text l.v l.initial.owners l.owners l.initial.marks l.marks
