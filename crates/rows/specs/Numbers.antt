-- Values as numbers in rows (document 01, "The plate"): "In rows of 16-bit numbers all of these are 65,535", the text `ever` and the
-- dash.
use Rattle.std.specs.Prelude.{ℕ, ◌<◌, ◌≡◌, Bool, cond, List, get_or, eqb}
use Rattle.game.specs.Value.{Value, fin, ever}

-- a value as a 16-bit number, and back: the one place where 65,535 becomes `ever`
unfoldable pub number_of : Value → ℕ
number_of (fin k) = k
number_of ever = 65535

unfoldable pub value_of : ℕ → Value
value_of x = cond (eqb x 65535) ever (fin x)

-- the number at j
abbrev pub number_at : List ℕ → ℕ → ℕ
number_at row j = get_or row j 0

-- a row of numbers as values
abbrev pub row_value : List ℕ → ℕ → Value
row_value row v = value_of (get_or row v 0)

-- 65,535 in a row: "ever", or not placed yet
abbrev pub free : List ℕ → ℕ → Bool
free row v = eqb (get_or row v 0) 65535

-- two columns of values agree at the first n positions
abbrev pub Agree : ℕ → (f g : ℕ → Value) → Type 0
Agree n f g = (v : ℕ) → v < n → f v ≡ g v
