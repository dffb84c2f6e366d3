-- `decode::decode_moves` meets its contract. The invariant: the rows so far are those of the first i moves. That the text has the
-- lines, that their bytes spell their numbers and that these fit 16 bits is what accepting it says.
use Prim.Native.Nat.{◌≤◌, ◌-◌}
use lib.ListN.{length}
use Rattle.walk.specs.Decoded.{MoveRows}
use Rattle.decode.specs.LoadedLaws.{MovesFit}
use Rattle.decode.proofs.decode_moves.Given as goal

abbrev pub invariant-loop-i : goal.invariant-loop-i
invariant-loop-i l = (l.i ≤ l.m) × (l.m ≤ length l.initial.costs) × (l.m ≤ length l.initial.froms) × (l.m ≤ length l.initial.tos) × MovesFit l.text l.first l.m × MoveRows l.text l.first l.i l.initial.costs l.costs l.initial.froms l.froms l.initial.tos l.tos
