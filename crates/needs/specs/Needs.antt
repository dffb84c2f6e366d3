-- What the filed rounds count down. The code of a move names the position that it leaves and its cost, 2 times the one and the other; the needs
-- of a code are kept over 4,096, so that a count can go on past the last need without going below 0.
use Rattle.std.specs.Prelude.{ℕ, ◌+◌, ◌*◌, ◌<◌, ◌≡◌, cond, List, get_or, eqb}
use Rattle.search.specs.Below.{count_below}

-- the code of the i-th move
abbrev pub code_of : (costs froms : List ℕ) → ℕ → ℕ
code_of costs froms i = 2 * get_or froms i 0 + get_or costs i 0

-- the needs of a position's meant code: at O all of its m codes, for "all meant targets" must be placed; elsewhere one, "some meant target"
unfoldable pub need_of : (owner count : ℕ) → ℕ
need_of owner count = 4096 + cond (eqb owner 0) count 1

-- the needs at first; a disturbance needs one
pub record Needs (n m : ℕ) (owners codes first : List ℕ) : Type 0 where
  pub meant : (v : ℕ) → v < n → get_or first (2 * v) 0 ≡ need_of (get_or owners v 0) (count_below (λ i. eqb (get_or codes i 0) (2 * v)) m)
  pub disturbed : (v : ℕ) → v < n → get_or first (2 * v + 1) 0 ≡ 4097
