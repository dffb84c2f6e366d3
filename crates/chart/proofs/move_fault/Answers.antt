-- `chart::move_fault` meets its contract: `judge_move` judges the columns.
use Prim.Native.Nat.{◌≤◌}
use Rattle.chart.specs.Text.{from_at, to_at}
use Rattle.chart.specs.Examined.{move_finding, move_formed, rises}
use native.Mathlib.Omega.{arith}
use Rattle.chart.specs.Columns.{row_at, from-small}
use Rattle.chart.proofs.move_fault.Goals as goal

pub overflow_add-from : goal.overflow_add-from
unfolding row_at from_at
overflow_add-from c =
    let small : c.number-from.result ≤ 99999 = rw (c.number-from.ensures, c.requires.row_value.0) (from-small _ _) in
    omega arith

pub letter_at-owner-requires : goal.letter_at-owner-requires
unfolding row_at from_at
letter_at-owner-requires c =
    let small : c.number-from.result ≤ 99999 = rw (c.number-from.ensures, c.requires.row_value.0) (from-small _ _) in
    omega arith

pub returns : goal.returns
unfolding move_finding move_formed rises row_at from_at to_at
returns c = simp (c.judge_move.ensures, c.rise-rises.ensures, c.cost.ensures, c.letter_at-owner.ensures, c.number-to.ensures, c.number-from.ensures, c.formed-ok.ensures, c.move_letter.ensures, c.requires.row_value.0, c.requires.row_value.1)
