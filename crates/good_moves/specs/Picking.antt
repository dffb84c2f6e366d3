-- Which moves are good, as numbers, and their positions and targets as rows.
use Rattle.std.specs.Prelude.{ℕ, ◌+◌, ◌≡◌, Bool, ◌&&◌, List, length, get_or, eqb, leb}
use Rattle.search.specs.Below.{bit}
use Rattle.search.specs.Passing.{passing}
use Rattle.rows.specs.Filling.{set_if}
use Rattle.rows.specs.Copies.{CopyOf}

-- the i-th move is meant, leaves a position of the controller, and its target has at least that position's number
unfoldable pub is_good : (owners costs froms tos values : List ℕ) → ℕ → Bool
is_good owners costs froms tos values i =
    eqb (get_or costs i 0) 0 && (eqb (get_or owners (get_or froms i 0) 0) 0 && leb (get_or values (get_or froms i 0) 0) (get_or values (get_or tos i 0) 0))

-- the first i moves, of which `count` are good, copied
pub record Picked (owners costs froms tos values : List ℕ) (i count : ℕ) (positions targets : List ℕ) : Type 0 where
  pub counted : count ≡ length (passing (is_good owners costs froms tos values) i)
  pub position : CopyOf (is_good owners costs froms tos values) i froms positions
  pub target : CopyOf (is_good owners costs froms tos values) i tos targets

-- the i-th move, copied to the place `at` if it is good
pub record PickedMove (owners costs froms tos values : List ℕ) (i at : ℕ) (positions targets positions' targets' : List ℕ) (next : ℕ) : Type 0 where
  pub position : positions' ≡ set_if (is_good owners costs froms tos values i) at (get_or froms i 0) positions
  pub target : targets' ≡ set_if (is_good owners costs froms tos values i) at (get_or tos i 0) targets
  pub counted : next ≡ at + bit (is_good owners costs froms tos values i)
