-- The answer to any text, computed: the first fault in document 01's order ("Order: 1; then line by line 2 before the rest, 3
-- before 4, and 6, 7, 8; then 9"), with 17 beside 7, one function for each line, or the counts. That it is the first of the conditions of
-- specs/Refusals.antt is proved in specs/Exact.antt.
use Rattle.std.specs.Prelude.{ℕ, zero, suc, ◌+◌, ◌-◌, ◌*◌, ◌%◌, Bool, true, false, cond, List, length, get_or, ltb, leb, eqb, ⊤, Result, Ok, Err}
use Rattle.search.specs.First.{first_from}
use Rattle.field.specs.declared.Field.{Field}
use Rattle.chart.specs.Text.{letter_at, first_at, second_at, end_at, mark_of, mark_at, field_number, is_number, positions_of, moves_of, from_at, to_at}
use Rattle.chart.specs.Meaning.{cost_of}
use Rattle.rows.specs.declared.Chart.{Chart}
use Rattle.chart.specs.declared.Row.{Row}
use Rattle.refusal.specs.declared.Misdrawn.{Misdrawn}
use Rattle.refusal.specs.declared.Misdrawn.TheVariants.{Length, Form, Limits, Count, Sequence, Endpoint, Disturbed, Resting, Order, NoMeant}

-- both fields are numbers, and a line feed ends the line
unfoldable pub numbered : Field → Field → ℕ → Bool
numbered first second end = cond (is_number first) (cond (is_number second) (eqb end 10) false) false

-- the tests of the letter: the header's (`H`), a position's (`O`, `L`, `R`) and a move's (`M`, `D`)
unfoldable pub header_letter : ℕ → Bool
header_letter letter = eqb letter 72

unfoldable pub position_letter : ℕ → Bool
position_letter letter = cond (eqb letter 79) true (cond (eqb letter 76) true (eqb letter 82))

unfoldable pub move_letter : ℕ → Bool
move_letter letter = cond (eqb letter 77) true (eqb letter 68)

-- the letter is allowed besides
unfoldable pub formed : Bool → Field → Field → ℕ → Bool
formed allowed first second end = cond allowed (numbered first second end) false

-- the form of the header, of a position line and of a move line
unfoldable pub header_formed : List ℕ → Bool
header_formed text = formed (header_letter (letter_at text 0)) (first_at text 0) (second_at text 0) (end_at text 0)

unfoldable pub position_formed : List ℕ → ℕ → Bool
position_formed text i = formed (position_letter (letter_at text i)) (first_at text i) (mark_at text i) (end_at text i)

unfoldable pub move_formed : List ℕ → ℕ → Bool
move_formed text i = formed (move_letter (letter_at text i)) (first_at text i) (second_at text i) (end_at text i)

-- refusals 2, 3 and 4 on line 0, or the counts
unfoldable pub limits_of : Bool → ℕ → ℕ → ℕ → Result Chart Misdrawn
limits_of ok size n m =
    cond ok
    (cond (ltb n 1) (Err Limits)
    (cond (ltb 512 n) (Err Limits)
    (cond (ltb m 1) (Err Limits)
    (cond (ltb 4096 m) (Err Limits)
    (cond (eqb size ((1 + n + m) * 12)) (Ok (record { positions = n; moves = m }))
    (Err Count))))))
    (Err (Form 0))

unfoldable pub header_of : List ℕ → Result Chart Misdrawn
header_of text = limits_of (header_formed text) (length text) (positions_of text) (moves_of text)

-- refusal 2, then 5: the numbers are in order, and a mark is 0 or 1
unfoldable pub judged_position : Bool → ℕ → ℕ → ℕ → Result ⊤ Misdrawn
judged_position ok i position mark =
    cond ok
    (cond (eqb position (i - 1))
    (cond (ltb 1 mark) (Err (Sequence i)) (Ok tt))
    (Err (Sequence i)))
    (Err (Form i))

unfoldable pub position_finding : List ℕ → ℕ → Result ⊤ Misdrawn
position_finding text i = judged_position (position_formed text i) i (from_at text i) (field_number (mark_at text i))

-- the same from the line's columns
unfoldable pub position_row_finding : Row → ℕ → Result ⊤ Misdrawn
position_row_finding row i =
    judged_position (formed (position_letter row.letter) row.first (mark_of row.second) row.end) i (field_number row.first) (field_number (mark_of row.second))

-- "by from, then M before D, then by to": the second move is above the first
unfoldable pub above : ℕ → ℕ → ℕ → ℕ → ℕ → ℕ → Bool
above from₀ cost₀ to₀ from cost to =
    cond (ltb from₀ from) true
    (cond (ltb from from₀) false
    (cond (ltb cost₀ cost) true
    (cond (ltb cost cost₀) false
    (ltb to₀ to))))

-- the move on line i is above the one on the line before
unfoldable pub rises : List ℕ → ℕ → Bool
rises text i =
    above (from_at text (i - 1)) (cost_of (letter_at text (i - 1))) (to_at text (i - 1))
    (from_at text i) (cost_of (letter_at text i)) (to_at text i)

-- refusal 8; the first move line, n + 1, has none before it
unfoldable pub ordered : ℕ → ℕ → Bool → Result ⊤ Misdrawn
ordered n i rising = cond (leb (i - 1) n) (Ok tt) (cond rising (Ok tt) (Err (Order i)))

-- refusals 7 and 17, then 8, for a letter, the letter of the position moved from, and whether the move rises
unfoldable pub judged_owner : ℕ → ℕ → ℕ → ℕ → Bool → Result ⊤ Misdrawn
judged_owner n i letter owner rising =
    cond (eqb letter 68)
    (cond (eqb owner 76) (Err (Disturbed i)) (ordered n i rising))
    (cond (eqb letter 77)
    (cond (eqb owner 82) (Err (Resting i)) (ordered n i rising))
    (ordered n i rising))

-- refusals 2 and 6, then those, for from and to besides
unfoldable pub judged_move : Bool → ℕ → ℕ → ℕ → ℕ → ℕ → ℕ → Bool → Result ⊤ Misdrawn
judged_move ok n i letter from to owner rising =
    cond ok
    (cond (leb n from) (Err (Endpoint i))
    (cond (leb n to) (Err (Endpoint i))
    (judged_owner n i letter owner rising)))
    (Err (Form i))

unfoldable pub move_finding : List ℕ → ℕ → ℕ → Result ⊤ Misdrawn
move_finding text n i =
    judged_move (move_formed text i) n i (letter_at text i) (from_at text i) (to_at text i) (letter_at text (from_at text i + 1)) (rises text i)

-- the fault of line i after the header, where there are n positions
unfoldable pub line_finding : List ℕ → ℕ → ℕ → Result ⊤ Misdrawn
line_finding text n i = cond (leb i n) (position_finding text i) (move_finding text n i)

-- the first of two findings that is a fault
unfoldable pub or_else : Result ⊤ Misdrawn → Result ⊤ Misdrawn → Result ⊤ Misdrawn
or_else (Ok _) next = next
or_else (Err r) next = Err r

-- no fault
abbrev pub is_clean : Result ⊤ Misdrawn → Bool
is_clean (Ok _) = true
is_clean (Err r) = false

-- the first fault of `count` findings from the i-th on
abbrev pub first_fault : (ℕ → Result ⊤ Misdrawn) → ℕ → ℕ → Result ⊤ Misdrawn
first_fault f = first_from (λ i. is_clean (f i)) f (Ok tt)

-- line i is a meant move from v
unfoldable pub meant_line : List ℕ → ℕ → ℕ → Bool
meant_line text i v = cond (eqb (letter_at text i) 77) (eqb (from_at text i) v) false

-- one of the first `count` move lines is a meant move from v
unfoldable pub meant_in : List ℕ → ℕ → ℕ → ℕ → Bool
meant_in text n zero v = false
meant_in text n (suc count) v = cond (meant_in text n count v) true (meant_line text (n + 1 + count) v)

-- refusal 9 for position v, of n, with m moves; an `R` needs no meant move
unfoldable pub missing_at : List ℕ → ℕ → ℕ → ℕ → Result ⊤ Misdrawn
missing_at text n m v = cond (eqb (letter_at text (v + 1)) 82) (Ok tt) (cond (meant_in text n m v) (Ok tt) (Err (NoMeant (v + 1))))

-- the same of a row of flags, 0 where there is no meant move
unfoldable pub unflagged_at : List ℕ → List ℕ → ℕ → Result ⊤ Misdrawn
unflagged_at text flags v =
    cond (eqb (get_or flags v 0) 0) (cond (eqb (letter_at text (v + 1)) 82) (Ok tt) (Err (NoMeant (v + 1)))) (Ok tt)

-- a fault is the answer, or the chart is accepted
unfoldable pub answer : Chart → Result ⊤ Misdrawn → Result Chart Misdrawn
answer chart (Ok _) = Ok chart
answer chart (Err r) = Err r

-- the lines after the header, then refusal 9
unfoldable pub after_header : List ℕ → Chart → Result Chart Misdrawn
after_header text chart =
    answer chart
    (or_else (first_fault (line_finding text chart.positions) (chart.positions + chart.moves) 1)
    (first_fault (missing_at text chart.positions chart.moves) chart.positions 0))

unfoldable pub lines_after : List ℕ → Result Chart Misdrawn → Result Chart Misdrawn
lines_after text (Ok chart) = after_header text chart
lines_after text (Err r) = Err r

-- refusal 1, and then line by line
unfoldable pub examined : List ℕ → Result Chart Misdrawn
examined text =
    cond (eqb (length text) 0) (Err Length)
    (cond (ltb 55308 (length text)) (Err Length)
    (cond (eqb (length text % 12) 0) (lines_after text (header_of text)) (Err Length)))
