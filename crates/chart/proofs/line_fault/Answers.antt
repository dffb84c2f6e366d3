-- `chart::line_fault` meets its contract: the test says which case of `line_finding` holds.
use Prim.Native.Nat.{ℕ}
use mathlib.Core.Path.{◌≡◌, ap, ◌∙◌}
use mathlib.Core.List.{List}
use Rattle.search.proofs.Cases.{cases}
use Rattle.chart.specs.Text.{from_at, mark_at}
use Rattle.chart.specs.Columns.{row_at}
use Rattle.chart.specs.Examined.{line_finding, position_finding, position_formed, position_row_finding}
use Rattle.chart.specs.declared.Row.{Row}
use Rattle.chart.proofs.line_fault.Goals as goal

-- the finding from a position line's columns is the line's
of_row : (text : List ℕ) (i : ℕ) (row : Row) → row ≡ row_at text i → position_row_finding row i ≡ position_finding text i
unfolding position_row_finding position_finding position_formed row_at from_at mark_at
of_row text i row e = ap (λ (r : Row). position_row_finding r i) e

pub returns-then-line-n : goal.returns-then-line-n
unfolding line_finding
returns-then-line-n c = c.position_fault.ensures ∙ of_row _ _ _ c.requires.row_value.0 ∙ search cases

pub returns-else-line-n : goal.returns-else-line-n
unfolding line_finding
returns-else-line-n c = search cases
