-- "For every accepted chart both ways give the same rows and the same plate" (document 02, order 8). The two ways are `value_chart`, which
-- files the moves by target, and `value_plain`, which walks all moves in every round. Each ensures `ValuedIs`, so what is said here of any
-- two calls of Valuing holds of a call of the one and a call of the other.
use Rattle.std.specs.Prelude.{ℕ, ◌≤◌, ◌≡◌, List, length, take, Result, Ok}
use Rattle.rows.specs.Rows.{RowIs}
use Rattle.rows.specs.Numbers.{number_at, row_value}
use Rattle.rows.specs.FirstLine.{first_line_of}
use Rattle.game.specs.Arena.{size}
use Rattle.refusal.specs.declared.Misdrawn.{Misdrawn}
use Rattle.chart.specs.Meaning.{arena_of}
use Rattle.chart.specs.Refusals.{Applies}
use Rattle.plate.specs.Text.{plate_text}
use Rattle.valuing.specs.Valuing.{ValuedIs}
use Rattle.refusal.specs.declared.Refusal.{Refusal}
use Rattle.writing.specs.Writing.{WrittenIs}

-- a call of Valuing with this chart: the rows as they were lent and as they came back, and the answer
pub record Call (text : List ℕ) : Type 0 where
  pub values : List ℕ
  pub values' : List ℕ
  pub choices : List ℕ
  pub choices' : List ℕ
  pub steps : List ℕ
  pub steps' : List ℕ
  pub answer : Result ℕ Refusal
  pub ensured : ValuedIs text values values' choices choices' steps steps' answer

-- each lent row has room for the chart's n numbers
pub record Room {text : List ℕ} (call : Call text) : Type 0 where
  pub value : size (arena_of text) ≤ length call.values
  pub choice : size (arena_of text) ≤ length call.choices
  pub step : size (arena_of text) ≤ length call.steps

-- the rows lent to two calls are equally long, whatever they hold
pub record EquallyLong {text : List ℕ} (filed plain : Call text) : Type 0 where
  pub value : length filed.values ≡ length plain.values
  pub choice : length filed.choices ≡ length plain.choices
  pub step : length filed.steps ≡ length plain.steps

-- the plate of the rows that a call gave: their lines, under the first line counted from them
abbrev pub plate_of_rows : {text : List ℕ} → Call text → List ℕ
plate_of_rows {text} call =
    let n = size (arena_of text) in
    let value = row_value call.values' in
    let step = row_value call.steps' in
    plate_text n (first_line_of n value step) value (row_value call.choices') step

-- of two calls that answered j and k rounds
pub record SameRowsAndPlate {text : List ℕ} (filed plain : Call text) (j k : ℕ) : Type 0 where
  pub rounds : j ≡ k
  -- "the same rows": their first n numbers
  pub value : RowIs filed.values' (size (arena_of text)) (number_at plain.values')
  pub choice : RowIs filed.choices' (size (arena_of text)) (number_at plain.choices')
  pub step : RowIs filed.steps' (size (arena_of text)) (number_at plain.steps')
  -- "and the same plate", which is the bytes that Writing writes of the chart
  pub plate : plate_of_rows filed ≡ plate_of_rows plain
  pub written : {out out' : List ℕ} {bytes : ℕ} → WrittenIs text out out' (Ok bytes) → take bytes out' ≡ plate_of_rows plain

pub record SameWays {text : List ℕ} (filed plain : Call text) : Type 0 where
  -- of every text: the same answer, rounds or refusal
  pub answer : EquallyLong filed plain → filed.answer ≡ plain.answer
  -- of an accepted chart: both answer rounds
  pub taken : ((r : Misdrawn) → Applies text r → ⊥) → Room filed → Room plain → (k : ℕ) × (filed.answer ≡ Ok k) × (plain.answer ≡ Ok k)
  pub same : {j k : ℕ} → filed.answer ≡ Ok j → plain.answer ≡ Ok k → SameRowsAndPlate filed plain j k

-- the request
abbrev pub TwoWays : Type 0
TwoWays = (text : List ℕ) (filed plain : Call text) → SameWays filed plain
