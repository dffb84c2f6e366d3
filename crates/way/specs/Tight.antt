-- The way to ruin, computed. In an arena whose controller has no other choice a move is tight if the value where it begins is its target's
-- and its cost: the ways over tight moves are those with fewest disturbances. So fewest moves is the value of another arena, in which
-- nobody chooses and every tight move is a disturbance. That this is the definition (specs/Way.antt) is shown in proofs/WayLaws.antt.
use Rattle.std.specs.Prelude.{ℕ, zero, suc, Bool, cond, not, ◌&&◌, map, eqb}
use Rattle.search.specs.First.{first_from}
use Rattle.game.specs.Value.{Value, ever, ◌⊕◌, value_eq}
use Rattle.game.specs.Arena.{Arena, Move, Position, nobody, disturbance_move, size}
use Rattle.game.specs.Play.{Trail, still, meant, disturbed, last}
use Rattle.game.specs.Table.{round_value, some_move}

unfoldable pub tight : Arena → Move → Bool
tight a m = not (value_eq (round_value a m.from) ever) && value_eq (round_value a m.from) (round_value a m.to ⊕ m.cost)

-- a tight move as a disturbance; any other stays where it begins, and so shortens nothing
unfoldable pub straightened : Arena → Move → Move
straightened a m = disturbance_move 1 m.from (cond (tight a m) m.to m.from)

abbrev pub unowned : Position → Position
unowned p = record { owner = nobody; mark = p.mark }

unfoldable pub tightened : Arena → Arena
tightened a = record { positions = map unowned a.positions; moves = map (straightened a) a.moves }

-- the moves that are left from v on a shortest way
abbrev pub moves_left : Arena → ℕ → Value
moves_left a v = round_value (tightened a) v

-- a tight move leads from v to w, from where one move less is left
unfoldable pub leads : Arena → ℕ → ℕ → Bool
leads a v w = some_move (λ m. eqb m.from v && eqb m.to w) (tightened a).moves && value_eq (moves_left a v) (moves_left a w ⊕ 1)

-- "the lower position": the lowest such w
unfoldable pub lowest_next : Arena → ℕ → ℕ
lowest_next a v = first_from (λ w. not (leads a v w)) (λ w. w) 0 (size a) 0

-- a move more: a meant one if the value stays, else a disturbance
unfoldable pub onward : (value : ℕ → Value) → Trail → (u w : ℕ) → Trail
onward value t u w = cond (value_eq (value u) (value w)) (meant t w) (disturbed t w)

-- the way from v, by the next position of each, after i moves
unfoldable pub way_after : (value : ℕ → Value) → (next : ℕ → ℕ) → ℕ → ℕ → Trail
way_after value next v zero = still
way_after value next v (suc i) = onward value (way_after value next v i) (last v (way_after value next v i)) (next (last v (way_after value next v i)))
