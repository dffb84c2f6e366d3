-- The arena that a chart's text means, and the text of an arena (document 01, "The chart").
use Rattle.std.specs.Prelude.{ℕ, ◌+◌, ◌≤◌, ◌<◌, ◌≡◌, ◌⊎◌, cond, List, [], ◌∷◌, ◌++◌, length, eqb}
use Rattle.line.specs.Text.{line_text}
use Rattle.line.specs.Joined.{joined, on_lines}
use Rattle.line.specs.declared.Entry.TheVariants.{Number}
use Rattle.game.specs.Arena.{Arena, Position, Move, Owner, controller, environment, nobody, size, position_at, move_at, WellFormed}
use Rattle.chart.specs.Text.{letter_at, mark_at, field_number, positions_of, moves_of, from_at, to_at}

-- "`O` (the console chooses) or `L` (the lane chooses)", and document 02, order 4: "letter `R` is a position without meant moves"
unfoldable pub owner_of : ℕ → Owner
owner_of letter = cond (eqb letter 76) environment (cond (eqb letter 82) nobody controller)

unfoldable pub owner_letter : Owner → ℕ
owner_letter controller = 79
owner_letter environment = 76
owner_letter nobody = 82

-- "`M` (meant) or `D` (disturbance)"
unfoldable pub cost_of : ℕ → ℕ
cost_of letter = cond (eqb letter 68) 1 0

unfoldable pub cost_letter : ℕ → ℕ
cost_letter cost = cond (eqb cost 0) 77 68

-- the position on line i, and the move on line i
unfoldable pub position_on : List ℕ → ℕ → Position
position_on text i = record { owner = owner_of (letter_at text i); mark = field_number (mark_at text i) }

unfoldable pub move_on : List ℕ → ℕ → Move
move_on text i = record { cost = cost_of (letter_at text i); from = from_at text i; to = to_at text i }

-- "Then n position lines", "Then m move lines"
unfoldable pub arena_of : List ℕ → Arena
arena_of text = record {
  positions = on_lines (position_on text) (positions_of text) 1;
  moves = on_lines (move_on text) (moves_of text) (positions_of text + 1);
}

-- one line: "one letter, two fields of five bytes, a line feed (byte 10)"
abbrev pub chart_line : ℕ → ℕ → ℕ → List ℕ
chart_line letter first second = line_text letter (Number first ∷ Number second ∷ [])

-- the line of position v, and of a move
unfoldable pub position_text : ℕ → Position → List ℕ
position_text v p = chart_line (owner_letter p.owner) v p.mark

unfoldable pub move_text : Move → List ℕ
move_text m = chart_line (cost_letter m.cost) m.from m.to

-- "First line: `H`, the count n of positions, the count m of moves", then the position lines and the move lines
unfoldable pub chart_text : Arena → List ℕ
chart_text a =
    chart_line 72 (size a) (length a.moves)
    ++ (joined (λ v. position_text v (position_at a v)) (size a) ++ joined (λ i. move_text (move_at a i)) (length a.moves))

-- "They rise strictly: by from, then M before D, then by to": b is above a
unfoldable pub Rises : Move → Move → Type 0
Rises a b = (a.from < b.from) ⊎ ((a.from ≡ b.from) × ((a.cost < b.cost) ⊎ ((a.cost ≡ b.cost) × (a.to < b.to))))

-- the arenas that have a chart: well-formed, within the limits, marks 0 or 1, moves strictly rising
pub record Chartable (a : Arena) : Type 0 where
  pub well-formed : WellFormed a
  pub some-position : 1 ≤ size a
  pub few-positions : size a ≤ 512
  pub some-move : 1 ≤ length a.moves
  pub few-moves : length a.moves ≤ 4096
  pub mark : (v : ℕ) → v < size a → (position_at a v).mark ≤ 1
  pub rising : (i : ℕ) → i + 1 < length a.moves → Rises (move_at a i) (move_at a (i + 1))
