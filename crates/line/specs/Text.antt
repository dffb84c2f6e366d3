-- The line of every sheet (document 01, "The chart" and "The plate"): "one letter, two fields of five bytes, a line feed (byte 10)", "a
-- letter, four fields, a line feed". What a field reads as, the five bytes of each entry, and a line over the list of its entries.
use Rattle.std.specs.Prelude.{ℕ, suc, ◌+◌, ◌*◌, ◌≡◌, Bool, true, false, cond, ◌&&◌, List, [], ◌∷◌, ◌++◌, length, get_or, eqb}
use Rattle.std.proofs.lemmas.List.Edits.{sets}
use Rattle.field.specs.Text.{field_of, five, blank_text, number_text}
use Rattle.field.specs.declared.Field.{Field}
use Rattle.field.specs.declared.Field.TheVariants.{Number as Digits, Blank, Bad as Wrong}
use Rattle.line.specs.declared.Entry.{Entry}
use Rattle.line.specs.declared.Entry.TheVariants.{Number, Dash, Ever, Bad}

-- "`ever` and `-` are right-justified too"
unfoldable pub dash_text : List ℕ
dash_text = 32 ∷ 32 ∷ 32 ∷ 32 ∷ 45 ∷ []

unfoldable pub ever_text : List ℕ
ever_text = 32 ∷ 101 ∷ 118 ∷ 101 ∷ 114 ∷ []

-- the five bytes of an entry; a bad one is left blank
unfoldable pub entry_text : Entry → List ℕ
entry_text (Number x) = number_text x
entry_text Dash = dash_text
entry_text Ever = ever_text
entry_text Bad = blank_text

-- two texts are the same
unfoldable pub same_text : List ℕ → List ℕ → Bool
same_text [] [] = true
same_text [] (y ∷ ys) = false
same_text (x ∷ xs) [] = false
same_text (x ∷ xs) (y ∷ ys) = cond (eqb x y) (same_text xs ys) false

-- five bytes that are no number
unfoldable pub word_of : List ℕ → Entry
word_of bytes = cond (same_text bytes dash_text) Dash (cond (same_text bytes ever_text) Ever Bad)

-- "a blank anywhere else" than in a mark is bad (document 02, order 1)
unfoldable pub or_word : List ℕ → Field → Entry
or_word bytes (Digits x) = Number x
or_word bytes Blank = Bad
or_word bytes Wrong = word_of bytes

-- what five bytes read as
unfoldable pub entry_of : List ℕ → Entry
entry_of bytes = or_word bytes (field_of bytes)

unfoldable pub entry_at : List ℕ → ℕ → Entry
entry_at text at = entry_of (five text at)

-- the text with an entry in the five places from `at`, and every other byte as it was
unfoldable pub with_entry : List ℕ → ℕ → Entry → List ℕ
with_entry text at e = sets text at (entry_text e)

-- Lines

-- the fields of a line, and then a line feed
unfoldable pub fields_text : List Entry → List ℕ
fields_text [] = 10 ∷ []
fields_text (e ∷ es) = entry_text e ++ fields_text es

-- "a letter, four fields, a line feed", of as many entries as there are
unfoldable pub line_text : ℕ → List Entry → List ℕ
line_text letter es = letter ∷ fields_text es

-- the bytes of a line of k fields
abbrev pub line_size : ℕ → ℕ
line_size k = 5 * k + 2

-- where field j of a line begins, and where its line feed stands, from the line's first byte
abbrev pub field_place : ℕ → ℕ
field_place j = 5 * j + 1

-- of lines of k fields from the start of a text: the letter of line i, its last byte, and where its field j begins
abbrev pub line_letter : ℕ → List ℕ → ℕ → ℕ
line_letter k text i = get_or text (i * line_size k) 0

abbrev pub line_end : ℕ → List ℕ → ℕ → ℕ
line_end k text i = get_or text (i * line_size k + field_place k) 0

abbrev pub line_field : ℕ → ℕ → ℕ → ℕ
line_field k i j = i * line_size k + field_place j

-- the line of k fields from `at` begins with the letter and ends with a line feed
unfoldable pub framed : List ℕ → ℕ → ℕ → ℕ → Bool
framed text at k letter = eqb (get_or text at 0) letter && eqb (get_or text (at + field_place k) 0) 10

-- the fields from the j-th on of the line at `at` read as these entries
unfoldable pub FieldsRead : List ℕ → ℕ → ℕ → List Entry → Type 0
FieldsRead text at j [] = Unit {0}
FieldsRead text at j (e ∷ es) = (entry_at text (at + field_place j) ≡ e) × FieldsRead text at (suc j) es

-- the line at `at` reads as a letter and these entries
pub record LineReads (text : List ℕ) (at letter : ℕ) (es : List Entry) : Type 0 where
  pub letter-is : get_or text at 0 ≡ letter
  pub entries : FieldsRead text at 0 es
  pub end : get_or text (at + field_place (length es)) 0 ≡ 10
