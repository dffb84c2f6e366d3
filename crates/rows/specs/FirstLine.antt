-- The first line's numbers (document 01, "The plate"), counted from columns of values and steps: rounds, "the highest finite value",
-- "the count of "ever" positions".
use Rattle.std.specs.Prelude.{ℕ, ◌≡◌}
use Rattle.game.specs.Value.{Value}
use Rattle.game.specs.FirstLine.{pair_count, highest, ever_count}
use Rattle.rows.specs.Numbers.{number_of}
use Rattle.rows.specs.declared.FirstLine.{FirstLine}

-- "The first line's numbers are those of the plate's lines"
pub record FirstLineIs (n : ℕ) (value step : ℕ → Value) (r : FirstLine) : Type 0 where
  pub rounds : r.rounds ≡ pair_count value step n
  pub highest-value : r.highest ≡ number_of (highest value n)
  pub evers : r.evers ≡ ever_count value n

-- the numbers that are so
unfoldable pub first_line_of : ℕ → (value step : ℕ → Value) → FirstLine
first_line_of n value step =
    record { rounds = pair_count value step n; highest = number_of (highest value n); evers = ever_count value n }
