-- Valuing (document 01, "The jobs"): "a chart into three lent rows: values, choices, steps; it answers the rounds", and
-- refusals 1 to 9 and 17, then 10.
use Rattle.std.specs.Prelude.{ℕ, ◌≡◌, cond, ◌&&◌, List, length, leb, Result, Ok, Err}
use Rattle.rows.specs.FirstLine.{FirstLineIs}
use Rattle.rows.specs.Rows.{Filled, RowsOf}
use Rattle.rows.specs.Numbers.{number_of}
use Rattle.game.specs.Arena.{Arena, size}
use Rattle.game.specs.Table.{round_value, round_step}
use Rattle.game.specs.Best.{best_at}
use Rattle.game.specs.FirstLine.{pair_count}
use Rattle.chart.specs.Meaning.{arena_of}
use Rattle.chart.specs.Examined.{examined}
use Rattle.rows.specs.declared.FirstLine.{FirstLine}
use Rattle.refusal.specs.declared.Refusal.{Refusal}
use Rattle.rows.specs.declared.Chart.{Chart}
use Rattle.refusal.specs.declared.Misdrawn.{Misdrawn}
use Rattle.refusal.specs.declared.Refusal.TheVariants.{Chart as OfChart, Short}

-- the first n numbers of the rows are the values, choices and steps of the arena, and what lies past them stays
pub record PlateRows (a : Arena) (n : ℕ) (values values' choices choices' steps steps' : List ℕ) : Type 0 where
  pub value : Filled values values' n (λ v. number_of (round_value a v))
  pub choice : Filled choices choices' n (λ v. number_of (best_at a (round_value a) v))
  pub step : Filled steps steps' n (λ v. number_of (round_step a v))

-- valuing decoded rows
pub record RowsValued (n m : ℕ) (owners marks costs froms tos values values' choices choices' steps steps' : List ℕ) (r : FirstLine) : Type 0 where
  pub rows : (a : Arena) → RowsOf a n m owners marks costs froms tos → PlateRows a n values values' choices choices' steps steps'
  pub first-line : (a : Arena) → RowsOf a n m owners marks costs froms tos → FirstLineIs n (round_value a) (round_step a) r

-- the answer to a chart and rows of these lengths
unfoldable pub valued_by : Result Chart Misdrawn → Arena → (values choices steps : ℕ) → Result ℕ Refusal
valued_by (Err r) a values choices steps = Err (OfChart r)
valued_by (Ok chart) a values choices steps =
    cond (leb chart.positions values && (leb chart.positions choices && leb chart.positions steps))
    (Ok (pair_count (round_value a) (round_step a) (size a)))
    (Err Short)

unfoldable pub valued : List ℕ → (values choices steps : ℕ) → Result ℕ Refusal
valued text values choices steps = valued_by (examined text) (arena_of text) values choices steps

-- the answer, and every lent number afterwards
pub record ValuedIs (text values values' choices choices' steps steps' : List ℕ) (r : Result ℕ Refusal) : Type 0 where
  pub answer : r ≡ valued text (length values) (length choices) (length steps)
  pub taken : (k : ℕ) → r ≡ Ok k → PlateRows (arena_of text) (size (arena_of text)) values values' choices choices' steps steps'
  pub refused : (x : Refusal) → r ≡ Err x → (values' ≡ values) × (choices' ≡ choices) × (steps' ≡ steps)
