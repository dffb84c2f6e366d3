-- What reading a plate gives (document 01, "Reading"): "the first line's numbers and the three rows", and of the lent rows what lies
-- past the last position's number stays.
use Rattle.std.specs.Prelude.{ℕ, ◌+◌, ◌≡◌, List}
use Rattle.rows.specs.Rows.{Filled}
use Rattle.rows.specs.Numbers.{number_of}
use Rattle.game.specs.Value.{Value, fin, ever}
use Rattle.rows.specs.declared.FirstLine.{FirstLine}
use Rattle.plate.specs.Form.{column_at}
use Rattle.line.specs.declared.Entry.{Entry}
use Rattle.line.specs.declared.Entry.TheVariants.{Number, Dash, Ever, Bad}

-- an entry of a column; a bad one is of no plate of the form
unfoldable pub entry_value : Entry → Value
entry_value (Number x) = fin x
entry_value Dash = ever
entry_value Ever = ever
entry_value Bad = ever

-- "In rows of 16-bit numbers all of these are 65,535"
abbrev pub entry_number : Entry → ℕ
entry_number e = number_of (entry_value e)

-- rounds, highest finite value and count of "ever" on the first line
unfoldable pub header_in : List ℕ → FirstLine
header_in text = record { rounds = entry_number (column_at text 0 1); highest = entry_number (column_at text 0 2); evers = entry_number (column_at text 0 3) }

-- value, choice and step of position v, on line v + 1
unfoldable pub value_in_plate : List ℕ → ℕ → Value
value_in_plate text v = entry_value (column_at text (v + 1) 1)

unfoldable pub choice_in_plate : List ℕ → ℕ → Value
choice_in_plate text v = entry_value (column_at text (v + 1) 2)

unfoldable pub step_in_plate : List ℕ → ℕ → Value
step_in_plate text v = entry_value (column_at text (v + 1) 3)

-- the rows hold the plate's columns of n positions
pub record ColumnsRead (n : ℕ) (text : List ℕ) (values₀ values choices₀ choices steps₀ steps : List ℕ) : Type 0 where
  pub value : Filled values₀ values n (λ v. number_of (value_in_plate text v))
  pub choice : Filled choices₀ choices n (λ v. number_of (choice_in_plate text v))
  pub step : Filled steps₀ steps n (λ v. number_of (step_in_plate text v))

-- and the answer is the first line
pub record RowsRead (n : ℕ) (text : List ℕ) (r : FirstLine) (values₀ values choices₀ choices steps₀ steps : List ℕ) : Type 0 where
  pub header : r ≡ header_in text
  pub rows : ColumnsRead n text values₀ values choices₀ choices steps₀ steps
