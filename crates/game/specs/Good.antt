-- Good moves (document 02, order 2): "each meant move of an O position whose target has at least the position's value". It is the
-- position's own value that counts, not the best target's: a position that a disturbance holds down has good moves of several values.
use Rattle.std.specs.Prelude.{ℕ, ◌≡◌}
use Rattle.game.specs.Value.{Value, ◌≼◌}
use Rattle.game.specs.Arena.{Arena, Move, controller, owner_at, Meant}
use Rattle.game.specs.Worth.{IsValue}

-- the meant move from v to w is good
pub record Good (a : Arena) (v w : ℕ) : Type 0 where
  pub own : owner_at a v ≡ controller
  pub target : Meant a v w
  pub value : Value
  pub is-value : IsValue a v value
  pub target-value : Value
  pub is-target-value : IsValue a w target-value
  pub at_least : value ≼ target-value

-- a move that is such a one; a disturbance between the same two positions is none
abbrev pub GoodMove : Arena → Move → Type 0
GoodMove a m = (m.cost ≡ 0) × Good a m.from m.to
