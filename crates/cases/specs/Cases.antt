-- Where the parts of a case lie in a test program's input: four fields with the lengths of its name and of its three texts, a line
-- feed, the name, the texts and a line feed.
use Rattle.std.specs.Prelude.{ℕ, ◌+◌, cond, List, length, ltb}
use Rattle.field.specs.Text.{field_at}
use Rattle.field.specs.declared.Field.{Field}
use Rattle.field.specs.declared.Field.TheVariants.{Number, Blank, Bad}
use Rattle.cases.specs.declared.Case.{Case}

-- a length, 0 where the field has no number
abbrev pub length_in : Field → ℕ
length_in (Number x) = x
length_in Blank = 0
length_in Bad = 0

-- so many bytes further on, or the input's end where that comes first
unfoldable pub after : ℕ → ℕ → ℕ → ℕ
after size from count = cond (ltb size (from + count)) size (from + count)

-- what begins in the place, and has its length in this field, ends here
abbrev pub after_field : List ℕ → ℕ → ℕ → ℕ
after_field input from at = after (length input) from (length_in (field_at input at))

unfoldable pub first_at : List ℕ → ℕ → ℕ
first_at input at = after_field input (at + 21) at

unfoldable pub second_at : List ℕ → ℕ → ℕ
second_at input at = after_field input (first_at input at) (at + 5)

unfoldable pub third_at : List ℕ → ℕ → ℕ
third_at input at = after_field input (second_at input at) (at + 10)

unfoldable pub end_at : List ℕ → ℕ → ℕ
end_at input at = after_field input (third_at input at) (at + 15)

-- past the last case: all places are the input's end
abbrev pub no_case : ℕ → Case
no_case size = record { name = size; first = size; second = size; third = size; end = size }

unfoldable pub whole_case : List ℕ → ℕ → Case
whole_case input at =
    record { name = at + 21; first = first_at input at; second = second_at input at; third = third_at input at; end = end_at input at }

-- the case at a place of the input
unfoldable pub case_at : List ℕ → ℕ → Case
case_at input at = cond (ltb (length input) (at + 21)) (no_case (length input)) (whole_case input at)
