-- The rows of a text's lines, decoded, and what lies past them.
use Rattle.std.specs.Prelude.{ℕ, ◌+◌, List}
use Rattle.rows.specs.Rows.{Filled, owner_number}
use Rattle.chart.specs.Text.{letter_at, mark_at, field_number, from_at, to_at}
use Rattle.chart.specs.Meaning.{owner_of, cost_of}

-- the rows of n positions, position v on line v + 1
pub record PositionRows (text : List ℕ) (n : ℕ) (owners₀ owners marks₀ marks : List ℕ) : Type 0 where
  pub owner : Filled owners₀ owners n (λ v. owner_number (owner_of (letter_at text (v + 1))))
  pub mark : Filled marks₀ marks n (λ v. field_number (mark_at text (v + 1)))

-- the rows of m moves, move i on line first + i
pub record MoveRows (text : List ℕ) (first m : ℕ) (costs₀ costs froms₀ froms tos₀ tos : List ℕ) : Type 0 where
  pub cost : Filled costs₀ costs m (λ i. cost_of (letter_at text (first + i)))
  pub from : Filled froms₀ froms m (λ i. from_at text (first + i))
  pub to : Filled tos₀ tos m (λ i. to_at text (first + i))
