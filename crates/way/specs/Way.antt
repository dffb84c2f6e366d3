-- The shortest way to ruin (document 02, order 6): "It is an unsafe play with fewest disturbances, among those with fewest moves, among
-- those with the lower position at the first difference."
use Rattle.std.specs.Prelude.{ℕ, suc, ◌≤◌, ◌<◌, ◌≡◌, cond, leb}
use Rattle.game.specs.Arena.{Arena}
use Rattle.game.specs.Play.{Trail, still, meant, disturbed, Controller, Play, Unsafe, cost}

-- the count of moves on a trail
unfoldable pub moves : Trail → ℕ
moves still = 0
moves (meant t w) = suc (moves t)
moves (disturbed t w) = suc (moves t)

-- where the trail from v stands after its first i moves
unfoldable pub stands_after : ℕ → Trail → ℕ → ℕ
stands_after v still i = v
stands_after v (meant t w) i = cond (leb i (moves t)) (stands_after v t i) w
stands_after v (disturbed t w) i = cond (leb i (moves t)) (stands_after v t i) w

-- of two trails from v, t has "the lower position at the first difference"
pub record Lower (v : ℕ) (t u : Trail) : Type 0 where
  pub place : ℕ
  pub within : place ≤ moves t
  pub same-before : (i : ℕ) → i < place → stands_after v t i ≡ stands_after v u i
  pub lower : stands_after v t place < stands_after v u place

-- the trail is the shortest way to ruin of this controller from v: each of the three criteria is among those that meet the ones before it
pub record WayToRuin (a : Arena) (σ : Controller a) (v : ℕ) (t : Trail) : Type 0 where
  pub play : Play a σ v t
  pub ends : Unsafe a v t
  pub fewest-disturbances : (u : Trail) → Play a σ v u → Unsafe a v u → cost a v t ≤ cost a v u
  pub fewest-moves : (u : Trail) → Play a σ v u → Unsafe a v u → cost a v u ≡ cost a v t → moves t ≤ moves u
  pub lowest : (u : Trail) → Play a σ v u → Unsafe a v u → cost a v u ≡ cost a v t → moves u ≡ moves t → ¬ (Lower v u t)
