-- Refusals 1 to 9 of document 01's table and 17 of document 02 (order 4): when each applies to a text, and their order. A condition of a
-- line takes the line as read: what an earlier refusal would catch is left to it.
use Rattle.std.specs.Prelude.{ℕ, ◌+◌, ◌-◌, ◌*◌, ◌%◌, ◌≤◌, ◌<◌, ◌≡◌, ◌⊎◌, List, length}
use Rattle.field.specs.declared.Field.{Field}
use Rattle.field.specs.declared.Field.TheVariants.{Number, Blank, Bad}
use Rattle.chart.specs.Text.{letter_at, first_at, second_at, end_at, mark_at, field_number, positions_of, moves_of, from_at, to_at}
use Rattle.chart.specs.Meaning.{move_on, Rises}
use Rattle.refusal.specs.Numbers.{misdrawn_line}
use Rattle.refusal.specs.declared.Misdrawn.{Misdrawn}
use Rattle.refusal.specs.declared.Misdrawn.TheVariants.{Length, Form, Limits, Count, Sequence, Endpoint, Disturbed, Resting, Order, NoMeant}

-- lines 1 to n are positions, the m lines after them are moves
abbrev pub PositionLine : List ℕ → ℕ → Type 0
PositionLine text i = (1 ≤ i) × (i ≤ positions_of text)

abbrev pub MoveLine : List ℕ → ℕ → Type 0
MoveLine text i = (positions_of text < i) × (i ≤ positions_of text + moves_of text)

-- 1: "chart empty, over 55,308 bytes, or no multiple of 12"
unfoldable pub BadLength : List ℕ → Type 0
BadLength text = (length text ≡ 0) ⊎ ((55308 < length text) ⊎ (length text % 12 ≡ 0 → ⊥))

-- the letters of a line: `H` (72) on line 0, `O` (79), `L` (76) and `R` (82) on a position line, `M` (77) and `D` (68) on a move line
abbrev pub HeaderLetter : ℕ → Type 0
HeaderLetter letter = letter ≡ 72

abbrev pub PositionLetter : ℕ → Type 0
PositionLetter letter = (letter ≡ 79) ⊎ ((letter ≡ 76) ⊎ (letter ≡ 82))

abbrev pub MoveLetter : ℕ → Type 0
MoveLetter letter = (letter ≡ 77) ⊎ (letter ≡ 68)

-- a letter that is allowed at line i
unfoldable pub Allowed : List ℕ → ℕ → ℕ → Type 0
Allowed text i letter =
    ((i ≡ 0) × HeaderLetter letter) ⊎ ((PositionLine text i × PositionLetter letter) ⊎ (MoveLine text i × MoveLetter letter))

-- a field where a number has to stand has none: "a blank anywhere else in a chart is still refused with 2" (document 02, order 1)
unfoldable pub BadField : Field → Type 0
BadField (Number x) = ⊥
BadField Blank = Unit {0}
BadField Bad = Unit {0}

-- the second field of a line is bad; on a position line that is its mark
unfoldable pub BadSecond : List ℕ → ℕ → Type 0
BadSecond text i = (PositionLine text i × BadField (mark_at text i)) ⊎ ((PositionLine text i → ⊥) × BadField (second_at text i))

-- 2: "letter not allowed at this line, bad field or no line feed"
unfoldable pub BadForm : List ℕ → ℕ → Type 0
BadForm text i =
    (i ≤ positions_of text + moves_of text)
    × ((Allowed text i (letter_at text i) → ⊥) ⊎ (BadField (first_at text i) ⊎ (BadSecond text i ⊎ (end_at text i ≡ 10 → ⊥))))

-- 3: "n or m outside its limits"
unfoldable pub OutsideLimits : List ℕ → Type 0
OutsideLimits text = (positions_of text < 1) ⊎ ((512 < positions_of text) ⊎ ((moves_of text < 1) ⊎ (4096 < moves_of text)))

-- 4: "not 1+n+m lines"
unfoldable pub WrongCount : List ℕ → Type 0
WrongCount text = length text ≡ (1 + positions_of text + moves_of text) * 12 → ⊥

-- 5: "position out of sequence, or mark above 1"
unfoldable pub OutOfSequence : List ℕ → ℕ → Type 0
OutOfSequence text i = PositionLine text i × ((from_at text i ≡ i - 1 → ⊥) ⊎ (1 < field_number (mark_at text i)))

-- 6: "a move names a position from n up"
unfoldable pub BadEndpoint : List ℕ → ℕ → Type 0
BadEndpoint text i = MoveLine text i × ((positions_of text ≤ from_at text i) ⊎ (positions_of text ≤ to_at text i))

-- 7: "a disturbance from L": position v stands on line v + 1
unfoldable pub BadDisturbance : List ℕ → ℕ → Type 0
BadDisturbance text i = MoveLine text i × ((letter_at text i ≡ 68) × (letter_at text (from_at text i + 1) ≡ 76))

-- 17: "a meant move from R" (document 02, order 4)
unfoldable pub MeantAtRest : List ℕ → ℕ → Type 0
MeantAtRest text i = MoveLine text i × ((letter_at text i ≡ 77) × (letter_at text (from_at text i + 1) ≡ 82))

-- 8: "a move not above the one before"
unfoldable pub OutOfOrder : List ℕ → ℕ → Type 0
OutOfOrder text i = MoveLine text i × (MoveLine text (i - 1) × (Rises (move_on text (i - 1)) (move_on text i) → ⊥))

-- 9: "no meant move", "for O and L only" (document 02, order 4): none of the move lines is a meant move from the position on line i
unfoldable pub WithoutMeant : List ℕ → ℕ → Type 0
WithoutMeant text i =
    PositionLine text i
    × ((letter_at text i ≡ 79) ⊎ (letter_at text i ≡ 76))
    × ((j : ℕ) → MoveLine text j → letter_at text j ≡ 77 → from_at text j ≡ i - 1 → ⊥)

-- the table's column "When"
abbrev pub Applies : List ℕ → Misdrawn → Type 0
Applies text Length = BadLength text
Applies text (Form line) = BadForm text line
Applies text Limits = OutsideLimits text
Applies text Count = WrongCount text
Applies text (Sequence line) = OutOfSequence text line
Applies text (Endpoint line) = BadEndpoint text line
Applies text (Disturbed line) = BadDisturbance text line
Applies text (Resting line) = MeantAtRest text line
Applies text (Order line) = OutOfOrder text line
Applies text (NoMeant line) = WithoutMeant text line

-- "Order: 1; then line by line ..; then 9"
abbrev pub stage : Misdrawn → ℕ
stage Length = 0
stage (Form line) = 1
stage Limits = 1
stage Count = 1
stage (Sequence line) = 1
stage (Endpoint line) = 1
stage (Disturbed line) = 1
stage (Resting line) = 1
stage (Order line) = 1
stage (NoMeant line) = 2

-- "2 before the rest, 3 before 4, and 6, 7, 8", 17 "tested beside 7": the place of a refusal among those of its line. No line has both 7
-- and 17
abbrev pub rank : Misdrawn → ℕ
rank Length = 0
rank (Form line) = 1
rank Limits = 2
rank Count = 3
rank (Sequence line) = 4
rank (Endpoint line) = 5
rank (Disturbed line) = 6
rank (Resting line) = 7
rank (Order line) = 8
rank (NoMeant line) = 9

-- by stage, then by line, then by rank
abbrev pub Before : Misdrawn → Misdrawn → Type 0
Before r s =
    (stage r < stage s)
    ⊎ ((stage r ≡ stage s) × ((misdrawn_line r < misdrawn_line s) ⊎ ((misdrawn_line r ≡ misdrawn_line s) × (rank r < rank s))))

-- r applies, and nothing before it in the order does
pub record First (text : List ℕ) (r : Misdrawn) : Type 0 where
  pub applies : Applies text r
  pub none_before : (s : Misdrawn) → Before s r → Applies text s → ⊥
