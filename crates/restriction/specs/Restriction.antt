-- What a row of choices leaves of the moves, as numbers: which moves are chosen or stay, and the moves that stay as rows.
use Rattle.std.specs.Prelude.{ℕ, ◌+◌, ◌≡◌, Bool, cond, not, ◌&&◌, ◌||◌, List, length, get_or, eqb}
use Rattle.search.specs.Below.{bit}
use Rattle.search.specs.Passing.{passing}
use Rattle.rows.specs.Filling.{set_if}
use Rattle.rows.specs.Copies.{CopyOf}

-- the i-th move is a meant move into the choice of the position that it leaves
unfoldable pub is_chosen : (costs froms tos choices : List ℕ) → ℕ → Bool
is_chosen costs froms tos choices i = eqb (get_or costs i 0) 0 && eqb (get_or choices (get_or froms i 0) 0) (get_or tos i 0)

-- the choice at v is a meant target at O (its flag is 1), 65,535 at L and R
unfoldable pub is_legal : (owners choices flags : List ℕ) → ℕ → Bool
is_legal owners choices flags v = cond (eqb (get_or owners v 0) 0) (eqb (get_or flags v 0) 1) (eqb (get_or choices v 0) 65535)

-- the i-th move stays: it is a disturbance, or the environment's, or chosen
unfoldable pub move_stays : (owners costs froms tos choices : List ℕ) → ℕ → Bool
move_stays owners costs froms tos choices i =
    not (eqb (get_or costs i 0) 0 && eqb (get_or owners (get_or froms i 0) 0) 0) || eqb (get_or choices (get_or froms i 0) 0) (get_or tos i 0)

-- the first i moves, of which `count` stay, copied
pub record Copied (owners costs froms tos choices : List ℕ) (i count : ℕ) (costs' froms' tos' : List ℕ) : Type 0 where
  pub counted : count ≡ length (passing (move_stays owners costs froms tos choices) i)
  pub cost : CopyOf (move_stays owners costs froms tos choices) i costs costs'
  pub from : CopyOf (move_stays owners costs froms tos choices) i froms froms'
  pub to : CopyOf (move_stays owners costs froms tos choices) i tos tos'

-- the i-th move, copied to the place `at` if it stays
pub record CopiedMove (owners costs froms tos choices : List ℕ) (i at : ℕ) (costs' froms' tos' costs'' froms'' tos'' : List ℕ) (next : ℕ) : Type 0 where
  pub cost : costs'' ≡ set_if (move_stays owners costs froms tos choices i) at (get_or costs i 0) costs'
  pub from : froms'' ≡ set_if (move_stays owners costs froms tos choices i) at (get_or froms i 0) froms'
  pub to : tos'' ≡ set_if (move_stays owners costs froms tos choices i) at (get_or tos i 0) tos'
  pub counted : next ≡ at + bit (move_stays owners costs froms tos choices i)
