-- The columns of a chart's lines (document 01, "The chart"): "lines of 12 bytes: one letter, two fields of five bytes, a line
-- feed". Lines are counted from 0, the header.
use Rattle.std.specs.Prelude.{ℕ, Bool, true, false, List}
use Rattle.field.specs.Text.{field_at}
use Rattle.line.specs.Text.{line_letter, line_field, line_end}
use Rattle.field.specs.declared.Field.{Field}
use Rattle.field.specs.declared.Field.TheVariants.{Number, Blank, Bad}

-- the letter of line i
unfoldable pub letter_at : List ℕ → ℕ → ℕ
letter_at text i = line_letter 2 text i

-- its first field, its second field and its last byte
unfoldable pub first_at : List ℕ → ℕ → Field
first_at text i = field_at text (line_field 2 i 0)

unfoldable pub second_at : List ℕ → ℕ → Field
second_at text i = field_at text (line_field 2 i 1)

unfoldable pub end_at : List ℕ → ℕ → ℕ
end_at text i = line_end 2 text i

-- "A blank mark in a position line means 0" (document 02, order 1)
unfoldable pub mark_of : Field → Field
mark_of (Number x) = Number x
mark_of Blank = Number 0
mark_of Bad = Bad

-- the mark on position line i
unfoldable pub mark_at : List ℕ → ℕ → Field
mark_at text i = mark_of (second_at text i)

-- the number of a field; that of a blank or a bad one is never used
unfoldable pub field_number : Field → ℕ
field_number (Number x) = x
field_number Blank = 0
field_number Bad = 0

unfoldable pub is_number : Field → Bool
is_number (Number x) = true
is_number Blank = false
is_number Bad = false

-- the counts n and m in the header
unfoldable pub positions_of : List ℕ → ℕ
positions_of text = field_number (first_at text 0)

unfoldable pub moves_of : List ℕ → ℕ
moves_of text = field_number (second_at text 0)

-- the numbers of line i: on a position line the first is its number, on a move line they are from and to
unfoldable pub from_at : List ℕ → ℕ → ℕ
from_at text i = field_number (first_at text i)

unfoldable pub to_at : List ℕ → ℕ → ℕ
to_at text i = field_number (second_at text i)
