-- The sheet of good moves (document 02, order 2): "a new sheet in the chart's columns has one line `G`, position, target for each meant
-- move of an O position whose target has at least the position's value, in the chart's order".
use Rattle.std.specs.Prelude.{ℕ, ◌≡◌, ◌⊎◌, List, [], ◌∷◌, ◌++◌}
use Rattle.game.specs.Arena.{Arena, Move}
use Rattle.game.specs.Good.{GoodMove}
use Rattle.chart.specs.Meaning.{chart_line}

-- "one line `G`, position, target", 12 bytes
abbrev pub good_line : Move → List ℕ
good_line m = chart_line 71 m.from m.to

-- the lines of these moves, in their order: a good one has its line, another has none, and there are no others
unfoldable pub Lists : Arena → List Move → (sheet : List ℕ) → Type 0
Lists a [] sheet = sheet ≡ []
Lists a (m ∷ ms) sheet =
    (GoodMove a m × ((rest : List ℕ) × (sheet ≡ good_line m ++ rest) × Lists a ms rest)) ⊎ ((GoodMove a m → ⊥) × Lists a ms sheet)

-- the sheet of an arena
abbrev pub SheetOf : Arena → (sheet : List ℕ) → Type 0
SheetOf a sheet = Lists a a.moves sheet
