-- What the rounds of one value, of the next value and of all values leave in the rows.
use Rattle.std.specs.Prelude.{ℕ, suc, ◌+◌, ◌≡◌, List, length}
use Rattle.rows.specs.Rows.{Stays, RowsOf}
use Rattle.game.specs.Arena.{Arena}
use Rattle.game.specs.Table.{Table, table, table_after, table_before}
use Rattle.round.specs.Held.{Holds}

-- the rounds (k, 1) to (k, s) of one value: where the rows held the table after round (k, 0), they hold the one after
-- round (k, s)
pub record Settling (n m : ℕ) (owners costs froms tos : List ℕ) (k s : ℕ) (values steps values' steps' : List ℕ) : Type 0 where
  pub rows : (a : Arena) (marks : List ℕ) (start : Table) → RowsOf a n m owners marks costs froms tos → length start ≡ n
      → Holds (table_after a start k 0) n values steps → Holds (table_after a start k s) n values' steps'
  pub values-stay : Stays n values values'
  pub steps-stay : Stays n steps steps'

-- the rounds of all values up to `last`: the rows hold the table that the next value begins with, whatever they held
pub record Solving (n m : ℕ) (owners marks costs froms tos : List ℕ) (last : ℕ) (values steps values' steps' : List ℕ) : Type 0 where
  pub rows : (a : Arena) → RowsOf a n m owners marks costs froms tos → Holds (table_before a (suc last)) n values' steps'
  pub values-stay : Stays n values values'
  pub steps-stay : Stays n steps steps'

-- all rounds: the rows hold the table when they are done, whatever they held
pub record Solved (n m : ℕ) (owners marks costs froms tos values steps values' steps' : List ℕ) : Type 0 where
  pub rows : (a : Arena) → RowsOf a n m owners marks costs froms tos → Holds (table a) n values' steps'
  pub values-stay : Stays n values values'
  pub steps-stay : Stays n steps steps'

-- the rounds of the value after `last`, with the count that its first round places: where the rounds up to `last` were
-- carried out, those of the next value are, or all are if it places nobody
pub record NextValue (n m : ℕ) (owners costs froms tos : List ℕ) (last : ℕ) (values steps values' steps' : List ℕ) (count : ℕ) : Type 0 where
  pub goes_on : {marks values₀ steps₀ : List ℕ} → Solving n m owners marks costs froms tos last values₀ steps₀ values steps → (count ≡ 0 → ⊥)
      → Solving n m owners marks costs froms tos (last + 1) values₀ steps₀ values' steps'
  pub stops : {marks values₀ steps₀ : List ℕ} → Solving n m owners marks costs froms tos last values₀ steps₀ values steps → count ≡ 0
      → Solved n m owners marks costs froms tos values₀ steps₀ values' steps'
