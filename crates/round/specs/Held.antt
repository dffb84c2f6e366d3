-- Rows of values and steps as a table of placements, and rows of flags as tests.
use Rattle.std.specs.Prelude.{ℕ, ◌<◌, ◌≡◌, Bool, not, List, length, get_or, eqb}
use Rattle.rows.specs.Rows.{RowIs}
use Rattle.rows.specs.Numbers.{number_of, free}
use Rattle.game.specs.Table.{Table, placement_at, is_placed, placed_value, placed_step}

-- the rows have the values and steps of the table, and 65,535 for what is not placed and for nothing else
pub record Holds (t : Table) (n : ℕ) (values steps : List ℕ) : Type 0 where
  pub full : length t ≡ n
  pub value : RowIs values n (λ v. number_of (placed_value (placement_at t v)))
  pub step : RowIs steps n (λ v. number_of (placed_step (placement_at t v)))
  pub unplaced : (v : ℕ) → v < n → free values v ≡ not (is_placed (placement_at t v))

-- the row has 1 just where the position passes the test
abbrev pub Flags : (ℕ → Bool) → ℕ → List ℕ → Type 0
Flags test n row = (v : ℕ) → v < n → eqb (get_or row v 0) 1 ≡ test v
