-- What choosing leaves in its row, as numbers: the best target so far, move after move.
use Rattle.std.specs.Prelude.{ℕ, zero, suc, ◌<◌, ◌≡◌, Bool, cond, ◌&&◌, ◌||◌, List, length, get_or, eqb, ltb}
use Rattle.rows.specs.Rows.{RowIs, Stays, RowsOf}
use Rattle.rows.specs.Numbers.{number_of}
use Rattle.rows.specs.NumberLaws.{Fits}
use Rattle.game.specs.Value.{Value}
use Rattle.game.specs.Arena.{Arena}
use Rattle.game.specs.Best.{best_at}

-- w is better than the best so far: there is none, or w has a greater value, or an equal one and a lower number. As
-- numbers too, 65,535 is above each value.
unfoldable pub is_better : List ℕ → ℕ → ℕ → Bool
is_better values best w =
    eqb best 65535
    || (ltb (get_or values best 0) (get_or values w 0) || (eqb (get_or values best 0) (get_or values w 0) && ltb w best))

-- what comparing indexes: the best so far, if there is one, and w
pub record Fitting (values : List ℕ) (best w : ℕ) : Type 0 where
  pub best-in : (best ≡ 65535 → ⊥) → best < length values
  pub new_in : w < length values

-- the i-th move is a meant move of the controller's
unfoldable pub own_move : (owners costs froms : List ℕ) → ℕ → Bool
own_move owners costs froms i = eqb (get_or costs i 0) 0 && eqb (get_or owners (get_or froms i 0) 0) 0

-- the best target of v among the first i moves, 65,535 if there is none
unfoldable pub best_below : (owners costs froms tos values : List ℕ) → ℕ → ℕ → ℕ
best_below owners costs froms tos values zero v = 65535
best_below owners costs froms tos values (suc i) v =
    cond (eqb (get_or froms i 0) v && (own_move owners costs froms i && is_better values (best_below owners costs froms tos values i v) (get_or tos i 0)))
    (get_or tos i 0)
    (best_below owners costs froms tos values i v)

-- a row of values, none of which is 65,535 save "ever"
abbrev pub ValuesAre : List ℕ → ℕ → (ℕ → Value) → Type 0
ValuesAre row n value = (v : ℕ) → v < n → (get_or row v 0 ≡ number_of (value v)) × Fits (value v)

-- the row has the choice of each position, and what lies past them stays
pub record Chosen (n m : ℕ) (owners costs froms tos values choices choices' : List ℕ) : Type 0 where
  pub rows : (a : Arena) (marks : List ℕ) (value : ℕ → Value) → RowsOf a n m owners marks costs froms tos → ValuesAre values n value → RowIs choices' n (λ v. number_of (best_at a value v))
  pub stay : Stays n choices choices'
