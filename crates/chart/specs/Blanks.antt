-- Blank marks (document 02, order 1: "Scanned pencil sheets leave the mark column empty for a safe position"): a text with its blank
-- marks filled, and texts "that differ only in blank against 0".
use Rattle.std.specs.Prelude.{ℕ, ◌+◌, ◌/◌, ◌%◌, ◌≤◌, ◌<◌, ◌≡◌, ◌⊎◌, Bool, true, false, cond, List, length, get_or, leb, eqb}
use Rattle.field.specs.Text.{five, blank_text, number_text}
use Rattle.field.specs.declared.Field.{Field}
use Rattle.field.specs.declared.Field.TheVariants.{Number, Blank, Bad}
use Rattle.line.specs.Text.{line_field}
use Rattle.line.specs.Joined.{on_lines}
use Rattle.chart.specs.Text.{second_at, positions_of}
use Rattle.chart.specs.Refusals.{PositionLine}

-- no position line has a blank mark
abbrev pub WithoutBlanks : List ℕ → Type 0
WithoutBlanks text = (i : ℕ) → PositionLine text i → second_at text i ≡ Blank → ⊥

unfoldable pub is_blank : Field → Bool
is_blank (Number x) = false
is_blank Blank = true
is_blank Bad = false

-- byte k is the last of a blank mark: of a line's 12 bytes that with place 10
unfoldable pub ends_blank : List ℕ → ℕ → Bool
ends_blank text k =
    cond (eqb (k % 12) 10) (cond (leb 1 (k / 12)) (cond (leb (k / 12) (positions_of text)) (is_blank (second_at text (k / 12))) false) false) false

-- of a blank mark the last space becomes a `0` (48), so that the mark is `    0`; every other byte stays
unfoldable pub filled_byte : List ℕ → ℕ → ℕ
filled_byte text k = cond (ends_blank text k) 48 (get_or text k 0)

-- the text with its blank marks filled
unfoldable pub filling : List ℕ → List ℕ
filling text = on_lines (filled_byte text) (length text) 0

-- where the mark of line i begins, and that byte k is in the mark of a position line
abbrev pub mark_place : ℕ → ℕ
mark_place i = line_field 2 i 1

abbrev pub InMark : List ℕ → ℕ → Type 0
InMark text k = (i : ℕ) × PositionLine text i × (mark_place i ≤ k) × (k < mark_place i + 5)

-- the bytes of two marks are the same, or those of the one are blank and of the other `    0`
unfoldable pub SameMark : List ℕ → List ℕ → Type 0
SameMark one two = (one ≡ two) ⊎ (((one ≡ blank_text) × (two ≡ number_text 0)) ⊎ ((one ≡ number_text 0) × (two ≡ blank_text)))

-- two texts are the same bytes, save that a mark may be blank in the one and `    0` in the other
pub record OnlyBlanksDiffer (text other : List ℕ) : Type 0 where
  pub same_length : length text ≡ length other
  pub marks : (i : ℕ) → PositionLine text i → SameMark (five text (mark_place i)) (five other (mark_place i))
  pub rest : (k : ℕ) → (InMark text k → ⊥) → get_or text k 0 ≡ get_or other k 0
