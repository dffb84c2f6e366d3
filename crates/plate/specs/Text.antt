-- The plate's text (document 01, "The plate"): its lines, and the whole plate of a header and three columns. Columns hold values, where
-- `ever` stands for the text `ever` or `-`.
use Rattle.std.specs.Prelude.{ℕ, List, [], ◌∷◌, ◌++◌}
use Rattle.line.specs.Text.{line_text}
use Rattle.line.specs.Joined.{joined}
use Rattle.line.specs.declared.Entry.{Entry}
use Rattle.line.specs.declared.Entry.TheVariants.{Number, Dash, Ever}
use Rattle.rows.specs.Numbers.{value_of}
use Rattle.game.specs.Value.{Value, fin, ever}
use Rattle.rows.specs.declared.FirstLine.{FirstLine}

-- the entry of the value column, and of a column "where `-` stands": the highest value, choices and steps
unfoldable pub value_entry : Value → Entry
value_entry (fin k) = Number k
value_entry ever = Ever

unfoldable pub dash_entry : Value → Entry
dash_entry (fin k) = Number k
dash_entry ever = Dash

-- "First `P`, n, rounds .., the highest finite value (`-` if none), the count of "ever" positions"
abbrev pub header_entries : ℕ → FirstLine → List Entry
header_entries n h = Number n ∷ Number h.rounds ∷ dash_entry (value_of h.highest) ∷ Number h.evers ∷ []

unfoldable pub header_line : ℕ → FirstLine → List ℕ
header_line n h = line_text 80 (header_entries n h)

-- "`V`, position, value, choice, step"
abbrev pub position_entries : ℕ → (value choice step : Value) → List Entry
position_entries v value choice step = Number v ∷ value_entry value ∷ dash_entry choice ∷ dash_entry step ∷ []

unfoldable pub position_line : ℕ → (value choice step : Value) → List ℕ
position_line v value choice step = line_text 86 (position_entries v value choice step)

-- the lines of the first `count` positions
unfoldable pub position_lines : (value choice step : ℕ → Value) → ℕ → List ℕ
position_lines value choice step = joined (λ v. position_line v (value v) (choice v) (step v))

-- the plate of n positions
unfoldable pub plate_text : ℕ → FirstLine → (value choice step : ℕ → Value) → List ℕ
plate_text n h value choice step = header_line n h ++ position_lines value choice step n
