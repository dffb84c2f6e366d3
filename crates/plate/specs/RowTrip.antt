-- The two inverses for rows of numbers, as the jobs have them: rows that were read, set out again, are the plate; and rows in range, set
-- out and read, come back.
use Rattle.std.specs.Prelude.{ℕ, ◌≤◌, ◌<◌, ◌≡◌, List, ◌++◌}
use Rattle.std.proofs.Common.{arith, ap, ◌∙◌}
use Rattle.rows.specs.Rows.{RowIs}
use Rattle.rows.specs.Numbers.{number_of, value_of, row_value, Agree}
use Rattle.rows.specs.NumberLaws.{Fits, value-of-number}
use Rattle.game.specs.Value.{Value}
use Rattle.rows.specs.declared.FirstLine.{FirstLine}
use Rattle.line.specs.JoinedLaws.{joined_same}
use Rattle.plate.specs.Text.{header_line, position_lines, plate_text}
use Rattle.plate.specs.Form.{OfForm}
use Rattle.plate.specs.Read.{header_in, value_in_plate, choice_in_plate, step_in_plate, RowsRead}
use Rattle.plate.specs.Range.{InRange}
use Rattle.plate.specs.RangeLaws.{below-fits}
use Rattle.plate.specs.RoundTrip.{read-in-range, writing-undoes-reading, reading-undoes-writing}

lines_same : (value value' choice choice' step step' : ℕ → Value) (n : ℕ) → Agree n value value' → Agree n choice choice' → Agree n step step' →
    position_lines value choice step n ≡ position_lines value' choice' step' n
unfolding position_lines
lines_same value value' choice choice' step step' n p q r = joined_same _ _ n (λ v l. rw (p v l, q v l, r v l))

-- a plate shows its columns on its positions only
pub plate-same : (n : ℕ) (h : FirstLine) (value value' choice choice' step step' : ℕ → Value) → Agree n value value' → Agree n choice choice' → Agree n step step' →
    plate_text n h value choice step ≡ plate_text n h value' choice' step'
unfolding plate_text
plate-same n h value value' choice choice' step step' p q r = ap (λ (l : List ℕ). header_line n h ++ l) (lines_same value value' choice choice' step step' n p q r)

-- a row that holds a column's numbers is the column
pub row-column : (row : List ℕ) (n : ℕ) (f : ℕ → Value) → RowIs row n (λ v. number_of (f v)) → ((v : ℕ) → v < n → Fits (f v)) → Agree n (row_value row) f
row-column row n f h small v l = ap value_of (h v l) ∙ value-of-number (f v) (small v l)

-- an answer and rows that are a header's and three columns' numbers
pub record RowsBack (n : ℕ) (h r : FirstLine) (value choice step : ℕ → Value) (values choices steps : List ℕ) : Type 0 where
  pub header : r ≡ h
  pub value_row : RowIs values n (λ v. number_of (value v))
  pub choice-row : RowIs choices n (λ v. number_of (choice v))
  pub step_row : RowIs steps n (λ v. number_of (step v))

module _ (n : ℕ) (small : n ≤ 512) where
  -- of rows: "Set out again as plate lines, these are the same bytes"
  pub rows-set-out : (text : List ℕ) (r : FirstLine) (values₀ values choices₀ choices steps₀ steps : List ℕ) → OfForm n text →
      RowsRead n text r values₀ values choices₀ choices steps₀ steps → plate_text n r (row_value values) (row_value choices) (row_value steps) ≡ text
  rows-set-out text r values₀ values choices₀ choices steps₀ steps form w =
      let range = read-in-range n text small form in
      ap (λ (h : FirstLine). plate_text n h (row_value values) (row_value choices) (row_value steps)) w.header
      ∙ plate-same n (header_in text) _ (value_in_plate text) _ (choice_in_plate text) _ (step_in_plate text)
      (row-column values n (value_in_plate text) w.rows.value.row (λ v l. below-fits 512 _ (omega arith) (range.value_in v l)))
      (row-column choices n (choice_in_plate text) w.rows.choice.row (λ v l. below-fits n _ (omega arith) (range.choice-in v l)))
      (row-column steps n (step_in_plate text) w.rows.step.row (λ v l. below-fits 512 _ (omega arith) (range.step_in v l)))
      ∙ writing-undoes-reading n text small form

  -- of rows: what is set out and read comes back
  pub rows-read-back : (h r : FirstLine) (value choice step : ℕ → Value) (values₀ values choices₀ choices steps₀ steps : List ℕ) → InRange n h value choice step →
      RowsRead n (plate_text n h value choice step) r values₀ values choices₀ choices steps₀ steps → RowsBack n h r value choice step values choices steps
  rows-read-back h r value choice step values₀ values choices₀ choices steps₀ steps range w =
      let back = reading-undoes-writing n h value choice step small range in
      record {
        header = w.header ∙ back.header;
        value_row = λ v l. w.rows.value.row v l ∙ ap number_of (back.value-at v l);
        choice-row = λ v l. w.rows.choice.row v l ∙ ap number_of (back.choice-at v l);
        step_row = λ v l. w.rows.step.row v l ∙ ap number_of (back.step-at v l);
      }
