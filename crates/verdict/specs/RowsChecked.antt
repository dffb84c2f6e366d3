-- What checking rows answers: for every arena that the chart's rows hold, Checking's answer to the plate's rows.
use Rattle.std.specs.Prelude.{ℕ, ◌≡◌, ⊤, Result}
use Rattle.verdict.specs.declared.FoundFault.{FoundFault}
use Rattle.rows.specs.Rows.{RowsOf}
use Rattle.game.specs.Arena.{Arena}
use Rattle.rows.specs.declared.FirstLine.{FirstLine}
use Rattle.verdict.specs.Verdict.{verdict_of}
use Rattle.verdict.specs.Sheet.{Sheet, choice_at, step_at, value_at}

pub record RowsChecked (n m : ℕ) (s : Sheet) (h : FirstLine) (r : Result ⊤ FoundFault) : Type 0 where
  pub verdict : (a : Arena) → RowsOf a n m s.owners s.marks s.costs s.froms s.tos → r ≡ verdict_of a (value_at s) (choice_at s) (step_at s) h
