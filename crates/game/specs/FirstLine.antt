-- The numbers of a plate's first line, counted from its lines (document 01, "The plate").
use Rattle.std.specs.Prelude.{ℕ, zero, suc, Bool, cond, ◌&&◌, not, leb}
use Rattle.search.specs.Below.{some_below, count_below}
use Rattle.game.specs.Value.{Value, fin, ever, value_eq}

-- v is the first with its pair of value and step; ""ever" has no pair"
unfoldable pub first_of_pair : (value step : ℕ → Value) → ℕ → Bool
first_of_pair value step v = not (value_eq (value v) ever) && not (some_below (λ u. value_eq (value u) (value v) && value_eq (step u) (step v)) v)

-- "rounds (how many different pairs of value and step occur ..)"
unfoldable pub pair_count : (value step : ℕ → Value) → ℕ → ℕ
pair_count value step n = count_below (first_of_pair value step) n

-- the greater of two finite values; "ever" counts for nothing
unfoldable pub higher : Value → Value → Value
higher (fin j) (fin k) = cond (leb j k) (fin k) (fin j)
higher (fin j) ever = fin j
higher ever y = y

-- "the highest finite value (`-` if none)"
unfoldable pub highest : (ℕ → Value) → ℕ → Value
highest value zero = ever
highest value (suc n) = higher (highest value n) (value n)

-- "the count of "ever" positions"
unfoldable pub ever_count : (ℕ → Value) → ℕ → ℕ
ever_count value n = count_below (λ v. value_eq (value v) ever) n
