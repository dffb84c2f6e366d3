-- The steps of the shortest way as numbers: which moves lower the worth by their cost, the lowest next positions, and the positions that
-- following them comes through.
use Rattle.std.specs.Prelude.{ℕ, zero, suc, ◌+◌, ◌-◌, ◌≤◌, ◌<◌, ◌≡◌, ◌⊎◌, Bool, true, cond, not, ◌&&◌, List, get_or, eqb}
use Rattle.rows.specs.Rows.{RowIs}

-- the i-th move leaves a position whose worth is a number, its target's and its cost
unfoldable pub is_tight : (worths costs froms tos : List ℕ) → ℕ → Bool
is_tight worths costs froms tos i =
    not (eqb (get_or worths (get_or froms i 0) 0) 65535) && eqb (get_or worths (get_or froms i 0) 0) (get_or worths (get_or tos i 0) 0 + get_or costs i 0)

-- the target of such a move; any other stays where it begins
unfoldable pub straight_to : (worths costs froms tos : List ℕ) → ℕ → ℕ
straight_to worths costs froms tos i = cond (is_tight worths costs froms tos i) (get_or tos i 0) (get_or froms i 0)

-- from the i-th move's target one move less is left
unfoldable pub shortens : (froms tos left : List ℕ) → ℕ → Bool
shortens froms tos left i = eqb (get_or left (get_or froms i 0) 0) (get_or left (get_or tos i 0) 0 + 1)

-- the i-th move shortens the way from v to the position that the row names there
pub record PointedBy (froms tos left next : List ℕ) (v i : ℕ) : Type 0 where
  pub leaves : get_or froms i 0 ≡ v
  pub shorter : shortens froms tos left i ≡ true
  pub named : get_or next v 0 ≡ get_or tos i 0

-- at each position the row has the lowest target of the first i moves that shorten the way, 65,535 if there is none
pub record Pointed (n : ℕ) (froms tos left : List ℕ) (i : ℕ) (next : List ℕ) : Type 0 where
  pub none-lower : (j : ℕ) → j < i → shortens froms tos left j ≡ true → get_or next (get_or froms j 0) 0 ≤ get_or tos j 0
  pub some : (v : ℕ) → v < n → (get_or next v 0 ≡ 65535) ⊎ ((j : ℕ) × (j < i) × PointedBy froms tos left next v j)

-- a row of next positions leads on: where moves are left, fewer than n, to a position with one less and no higher worth
pub record LeadsOn (n : ℕ) (worths left next : List ℕ) : Type 0 where
  pub inside : (v k : ℕ) → v < n → suc k < n → get_or left v 0 ≡ suc k → get_or next v 0 < n
  pub shorter : (v k : ℕ) → v < n → suc k < n → get_or left v 0 ≡ suc k → get_or left (get_or next v 0) 0 ≡ k
  pub no-higher : (v k : ℕ) → v < n → suc k < n → get_or left v 0 ≡ suc k → get_or worths (get_or next v 0) 0 ≤ get_or worths v 0

-- the position after i steps from the start, and by how much the worth fell at the last of them
unfoldable pub stop : (next : List ℕ) (start : ℕ) → ℕ → ℕ
stop next start zero = start
stop next start (suc i) = get_or next (stop next start i) 0

unfoldable pub fell : (worths next : List ℕ) (start : ℕ) → ℕ → ℕ
fell worths next start zero = 0
fell worths next start (suc i) = get_or worths (stop next start i) 0 - get_or worths (stop next start (suc i)) 0

-- the rows have what following comes through, one more than moves were left, which is the answer
pub record Followed (start : ℕ) (worths left next positions led : List ℕ) (count : ℕ) : Type 0 where
  pub counted : count ≡ get_or left start 0 + 1
  pub position : RowIs positions count (stop next start)
  pub leads : RowIs led count (fell worths next start)
