-- The good moves, computed: each move is tested by the values of the rounds.
-- That the test is the definition (specs/Good.antt) is shown in proofs/GoodLaws.antt.
use Rattle.std.specs.Prelude.{Bool, ◌&&◌, List, eqb}
use Rattle.game.specs.Value.{value_le}
use Rattle.game.specs.Arena.{Arena, Move, owner_at}
use Rattle.game.specs.Keep.{keep}
use Rattle.game.specs.Restrict.{is_controller}
use Rattle.game.specs.Table.{round_value}

-- the move does not fall: its target has at least the value of the position that it leaves
unfoldable pub holds_value : Arena → Move → Bool
holds_value a m = value_le (round_value a m.from) (round_value a m.to)

unfoldable pub good_move : Arena → Move → Bool
good_move a m = eqb m.cost 0 && (is_controller (owner_at a m.from) && holds_value a m)

-- in the chart's order
unfoldable pub good_moves : Arena → List Move
good_moves a = keep (good_move a) a.moves
