-- A line's columns together, and that a field's number is at most 99,999.
use Rattle.std.specs.Prelude.{ℕ, ◌+◌, ◌*◌, ◌≤◌, ◌≡◌, refl, Bool, false, cond, List, eqb}
use Rattle.std.proofs.Common.{arith}
use Rattle.field.specs.Laws.{field-small}
use Rattle.field.specs.declared.Field.{Field}
use Rattle.field.specs.declared.Field.TheVariants.{Number, Blank, Bad}
use Rattle.chart.specs.Text.{letter_at, first_at, second_at, end_at, field_number, from_at}
use Rattle.chart.specs.declared.Row.{Row}

-- the columns of line i
unfoldable pub row_at : List ℕ → ℕ → Row
row_at text i = record { letter = letter_at text i; first = first_at text i; second = second_at text i; end = end_at text i }

-- a row with the letter of a meant move from v
unfoldable pub meant_row : Row → ℕ → Bool
meant_row row v = cond (eqb row.letter 77) (eqb (field_number row.first) v) false

pub from-small : (text : List ℕ) (i : ℕ) → from_at text i ≤ 99999
unfolding from_at first_at field_number
from-small text i = go (first_at text i) refl
  where
    go : (f : Field) → first_at text i ≡ f → field_number f ≤ 99999
    go (Number x) e = field-small text (i * 12 + 1) x e
    go Blank e = omega arith
    go Bad e = omega arith
