-- The sheet of a way to ruin (document 02, order 6): "write the play in chart columns: `W`, position, and 1 if a disturbance led there, else 0".
use Rattle.std.specs.Prelude.{ℕ, List, ◌++◌}
use Rattle.game.specs.Play.{Trail, still, meant, disturbed}
use Rattle.chart.specs.Meaning.{chart_line}

-- "`W`, position, and 1 if a disturbance led there, else 0", 12 bytes
abbrev pub way_line : ℕ → ℕ → List ℕ
way_line v led = chart_line 87 v led

-- a line for each position of the play from v, the first included, to which nothing led
unfoldable pub way_sheet : ℕ → Trail → List ℕ
way_sheet v still = way_line v 0
way_sheet v (meant t w) = way_sheet v t ++ way_line w 0
way_sheet v (disturbed t w) = way_sheet v t ++ way_line w 1
