-- What summing up two rows answers: the numbers of a plate's first line, counted from its rows of values and steps.
use Rattle.std.specs.Prelude.{ℕ, ◌+◌, ◌-◌, ◌≤◌, ◌<◌, ◌%◌, ◌≡◌, Bool, not, cond, ◌&&◌, List, get_or, set, eqb, ltb}
use Rattle.search.specs.Below.{bit, count_below}
use Rattle.rows.specs.Numbers.{number_of, row_value}
use Rattle.rows.specs.NumberLaws.{Fits}
use Rattle.game.specs.FirstLine.{first_of_pair, highest}

-- every finite value, and the step beside it, is below 512
abbrev pub PairsFit : ℕ → List ℕ → List ℕ → Type 0
PairsFit n values steps = (v : ℕ) → v < n → (get_or values v 0 ≡ 65535 → ⊥) → (get_or values v 0 < 512) × (get_or steps v 0 < 512)

-- v is the first with its pair, and its value is k
unfoldable pub first_of_value : ℕ → List ℕ → List ℕ → ℕ → Bool
first_of_value k values steps v = eqb (get_or values v 0) k && first_of_pair (row_value values) (row_value steps) v

-- every stamp is at most k
abbrev pub StampsMost : ℕ → List ℕ → Type 0
StampsMost k stamps = (s : ℕ) → s < 512 → get_or stamps s 0 ≤ k

-- the step of v gets the stamp of its value: 1 if it did not have it
pub record Stamped (v : ℕ) (values steps stamps stamps' : List ℕ) (count : ℕ) : Type 0 where
  pub stamp : stamps' ≡ set stamps (get_or steps v 0) (get_or values v 0 + 1)
  pub counted : count ≡ bit (not (eqb (get_or stamps (get_or steps v 0) 0) (get_or values v 0 + 1)))

-- the pairs of value k are counted, and no stamp is above its own
pub record ChainCounted (n k : ℕ) (values steps stamps : List ℕ) (count : ℕ) : Type 0 where
  pub counted : count ≡ count_below (first_of_value k values steps) n
  pub most : StampsMost (k + 1) stamps

-- one more, where 65,535 ("none") becomes 0, and back; and the larger of two
unfoldable pub after : ℕ → ℕ
after x = (x + 1) % 65536

unfoldable pub before : ℕ → ℕ
before x = cond (eqb x 0) 65535 (x - 1)

unfoldable pub larger : ℕ → ℕ → ℕ
larger x y = cond (ltb x y) y x

-- one more than the highest finite number of a row, 0 if there is none
pub record PastHighest (n : ℕ) (row : List ℕ) (past : ℕ) : Type 0 where
  pub past_is : past ≡ after (number_of (highest (row_value row) n))
  pub fits : Fits (highest (row_value row) n)
