-- The order of small charts, in the request's words: "Position 0 is the leading digit. Within a position O comes before L, then the mark, then
-- the meant set, then the disturbance set". That indices rise in this order is shown in proofs/OrderLaws.antt.
use Rattle.std.specs.Prelude.{ℕ, ◌<◌, ◌≡◌, ◌⊎◌}
use Rattle.game.specs.Arena.{Arena, controller, environment, size, owner_at, position_at}
use Rattle.numbering.specs.Numbering.{target_set}

-- two arenas are the same at v, and the first comes before the second there
pub record SameAt (a b : Arena) (v : ℕ) : Type 0 where
  pub owner : owner_at a v ≡ owner_at b v
  pub mark : (position_at a v).mark ≡ (position_at b v).mark
  pub meant : target_set a 0 v ≡ target_set b 0 v
  pub disturbances : target_set a 1 v ≡ target_set b 1 v

unfoldable pub BeforeAt : Arena → Arena → ℕ → Type 0
BeforeAt a b v =
    ((owner_at a v ≡ controller) × (owner_at b v ≡ environment))
    ⊎ ((owner_at a v ≡ owner_at b v) × (((position_at a v).mark < (position_at b v).mark)
    ⊎ (((position_at a v).mark ≡ (position_at b v).mark) × ((target_set a 0 v < target_set b 0 v)
    ⊎ ((target_set a 0 v ≡ target_set b 0 v) × (target_set a 1 v < target_set b 1 v))))))

-- a comes before b at the first position where they are not the same
pub record Precedes (a b : Arena) : Type 0 where
  pub at : ℕ
  pub inside : at < size a
  pub front : (u : ℕ) → u < at → SameAt a b u
  pub before : BeforeAt a b at
