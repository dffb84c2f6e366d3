-- What a walk over a text's lines tells where it passes: that the text is accepted, and that the rows are those of its lines. Whether it passes
-- or stops, what lies past the counts in the rows stays.
use Rattle.std.specs.Prelude.{ℕ, ◌+◌, ◌-◌, ◌*◌, ◌/◌, ◌%◌, ◌≤◌, ◌<◌, ◌≡◌, Bool, true, cond, List, length, get_or, eqb, Ok}
use Rattle.rows.specs.Rows.{RowIs, Filled, Kept}
use Rattle.chart.specs.Text.{letter_at, first_at, second_at, end_at, from_at, to_at}
use Rattle.chart.specs.Meaning.{cost_of}
use Rattle.chart.specs.Refusals.{MoveLetter}
use Rattle.chart.specs.Examined.{rises, meant_in, examined}
use Rattle.chart.specs.Good.{Formed, GoodPosition}
use Rattle.rows.specs.declared.Chart.{Chart}
use Rattle.spelling.specs.Words.{WordIs, spelt}
use Rattle.walk.specs.Decoded.{PositionRows, MoveRows}

-- the three words of a line
pub record LineWords (text : List ℕ) (at opening middle closing : ℕ) : Type 0 where
  pub opens : WordIs text at opening
  pub goes_on : WordIs text (at + 4) middle
  pub closes : WordIs text (at + 8) closing

-- the words of a line with a letter and x: letter, space, space and c; d, e, space and space; and with three bytes before its end: these and
-- a line feed. Two spaces are 2,105,344 in the middle of a word and 538,968,064 at its end, a line feed at the end is 167,772,160.
unfoldable pub opening_of : ℕ → ℕ → ℕ
opening_of letter x = letter + 2105344 + spelt x % 256 * 16777216

unfoldable pub middle_of : ℕ → ℕ
middle_of x = spelt x / 256 + 538968064

abbrev pub closing_of : ℕ → ℕ
closing_of bytes = bytes + 167772160

-- how the moves of a kind open: of the meant (77) from v, which is kind 2 v, or of the disturbances (68) from v, which is 2 v + 1
unfoldable pub move_opening : ℕ → ℕ
move_opening kind = opening_of (77 - 9 * (kind % 2)) (kind / 2)

-- the letter of an owner's number
unfoldable pub letter_of : ℕ → ℕ
letter_of owner = cond (eqb owner 1) 76 (cond (eqb owner 2) 82 79)

-- how a position's line closes, by the last byte of its mark: where that is a space, after three spaces
unfoldable pub mark_word : ℕ → ℕ
mark_word last = closing_of (cond (eqb last 32) 2105376 (spelt (last % 2)))

-- the rows of the words of n positions' lines
pub record LinesSpelt (n : ℕ) (openings₀ openings middles₀ middles closings₀ closings : List ℕ) : Type 0 where
  pub opening : Filled openings₀ openings (2 * n) move_opening
  pub middle : Filled middles₀ middles n middle_of
  pub closing : Filled closings₀ closings n (λ v. closing_of (spelt v))

-- a row with a number below n in each slot
pub record Numbers (numbers : List ℕ) (n : ℕ) : Type 0 where
  pub below : (k : ℕ) → k < 1024 → get_or numbers k 0 < n
  pub slots : 1024 ≤ length numbers

-- what the walk over the move lines looks up
pub record Tables (n : ℕ) (openings middles closings numbers : List ℕ) : Type 0 where
  pub few : n ≤ 512
  pub opening : RowIs openings (2 * n) move_opening
  pub middle : RowIs middles n middle_of
  pub closing : RowIs closings n (λ v. closing_of (spelt v))
  pub number : Numbers numbers n
  pub openings-row : 2 * n ≤ length openings
  pub middles-row : n ≤ length middles
  pub closings-row : n ≤ length closings

-- every position line is good, and its numbers are in the rows
pub record PositionsPassed (text : List ℕ) (n : ℕ) (owners₀ owners marks₀ marks : List ℕ) : Type 0 where
  pub good : (v : ℕ) → v < n → GoodPosition text (v + 1)
  pub rows : PositionRows text n owners₀ owners marks₀ marks

pub record PositionsWalked (text : List ℕ) (n : ℕ) (passed : Bool) (owners₀ owners marks₀ marks : List ℕ) : Type 0 where
  pub told : passed ≡ true → PositionsPassed text n owners₀ owners marks₀ marks
  pub owners-kept : Kept n owners₀ owners
  pub marks-kept : Kept n marks₀ marks

-- a good move line, but for what its position's owner says to its letter
pub record MoveStands (text : List ℕ) (n i : ℕ) : Type 0 where
  pub form : Formed (MoveLetter (letter_at text i)) (first_at text i) (second_at text i) (end_at text i)
  pub from-position : from_at text i < n
  pub to-position : to_at text i < n
  pub above : n < i - 1 → rises text i ≡ true

-- a row with 1 for each kind of move that the first m move lines have; of the meant ones, only for those
pub record Kinds (text : List ℕ) (n m : ℕ) (kinds : List ℕ) : Type 0 where
  pub noted : (i : ℕ) → i < m → get_or kinds (2 * from_at text (n + 1 + i) + cost_of (letter_at text (n + 1 + i))) 0 ≡ 1
  pub meant : (v : ℕ) → v < n → get_or kinds (2 * v) 0 ≡ 1 → meant_in text n m v ≡ true

-- the kinds that n positions have are those that their owners' numbers need and allow
pub record KindsAllowed (owners : List ℕ) (n : ℕ) (kinds : List ℕ) : Type 0 where
  pub needed : (v : ℕ) → v < n → get_or owners v 0 ≤ 1 → get_or kinds (2 * v) 0 ≡ 1
  pub unmeant : (v : ℕ) → v < n → get_or owners v 0 ≡ 2 → get_or kinds (2 * v) 0 ≡ 1 → ⊥
  pub undisturbed : (v : ℕ) → v < n → get_or owners v 0 ≡ 1 → get_or kinds (2 * v + 1) 0 ≡ 1 → ⊥

-- every move line stands, and the kinds and the moves are in the rows
pub record MovesStand (text : List ℕ) (n m : ℕ) (kinds costs₀ costs froms₀ froms tos₀ tos : List ℕ) : Type 0 where
  pub stands : (i : ℕ) → i < m → MoveStands text n (n + 1 + i)
  pub kind : Kinds text n m kinds
  pub rows : MoveRows text (n + 1) m costs₀ costs froms₀ froms tos₀ tos

pub record MovesWalked (text : List ℕ) (n m : ℕ) (passed : Bool) (kinds₀ kinds costs₀ costs froms₀ froms tos₀ tos : List ℕ) : Type 0 where
  pub told : passed ≡ true → MovesStand text n m kinds costs₀ costs froms₀ froms tos₀ tos
  pub kinds_kept : Kept (2 * n) kinds₀ kinds
  pub costs-kept : Kept m costs₀ costs
  pub froms-kept : Kept m froms₀ froms
  pub tos-kept : Kept m tos₀ tos

-- the text is accepted, and its lines are in the rows
pub record Passed (text : List ℕ) (chart : Chart) (owners₀ owners marks₀ marks costs₀ costs froms₀ froms tos₀ tos : List ℕ) : Type 0 where
  pub accepted : examined text ≡ Ok chart
  pub positions : PositionRows text chart.positions owners₀ owners marks₀ marks
  pub moves : MoveRows text (chart.positions + 1) chart.moves costs₀ costs froms₀ froms tos₀ tos

pub record WalkIs (text : List ℕ) (chart : Chart) (passed : Bool) (owners₀ owners marks₀ marks costs₀ costs froms₀ froms tos₀ tos : List ℕ) : Type 0 where
  pub told : passed ≡ true → Passed text chart owners₀ owners marks₀ marks costs₀ costs froms₀ froms tos₀ tos
  pub owners-kept : Kept chart.positions owners₀ owners
  pub marks-kept : Kept chart.positions marks₀ marks
  pub costs-kept : Kept chart.moves costs₀ costs
  pub froms-kept : Kept chart.moves froms₀ froms
  pub tos-kept : Kept chart.moves tos₀ tos
