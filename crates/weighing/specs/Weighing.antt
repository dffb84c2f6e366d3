-- Weighing (document 01, "The jobs"): "a chart and a row of choices (its first n numbers) into a row of worths: at each
-- position the worth .. of the positional controller that makes these choices", and refusals 1 to 9 and 17, 10 and 12.
use Rattle.std.specs.Prelude.{ℕ, ◌<◌, ◌≡◌, Bool, true, false, cond, not, ◌&&◌, List, length, get_or, leb, ⊤, Result, Ok, Err}
use Rattle.rows.specs.Rows.{RowIs, Filled, Stays, RowsOf}
use Rattle.rows.specs.Numbers.{number_of, value_of, row_value}
use Rattle.search.specs.Below.{some_below}
use Rattle.game.specs.Value.{Value}
use Rattle.game.specs.Arena.{Arena, WellFormed, size, owner_at}
use Rattle.game.specs.Play.{Legal, positional}
use Rattle.game.specs.Worth.{WorthIs}
use Rattle.game.specs.Restrict.{restricted}
use Rattle.game.specs.Table.{round_value}
use Rattle.game.specs.Fault.{legal_as}
use Rattle.chart.specs.Meaning.{arena_of}
use Rattle.chart.specs.Examined.{examined}
use Rattle.refusal.specs.declared.Refusal.{Refusal}
use Rattle.rows.specs.declared.Chart.{Chart}
use Rattle.refusal.specs.declared.Misdrawn.{Misdrawn}
use Rattle.refusal.specs.declared.Refusal.TheVariants.{Chart as OfChart, Short, Choice}

-- each choice of the first n positions is a meant target at O, 65,535 at L and R: the test of condition 3, which looks at no
-- value and no step
unfoldable pub legal_row : Arena → (ℕ → Value) → ℕ → Bool
legal_row a choice n = not (some_below (λ v. not (legal_as a choice choice choice (owner_at a v) v)) n)

-- the row of worths: at each position the worth of the controller that makes the choices, and what lies past them stays
pub record WorthRow (a : Arena) (n : ℕ) (choices worths worths' : List ℕ) : Type 0 where
  pub legal : Legal a (row_value choices)
  pub worth : (v : ℕ) → v < n → WorthIs a (positional a (row_value choices) legal) v (value_of (get_or worths' v 0))
  pub row : Filled worths worths' n (λ v. number_of (round_value (restricted a (row_value choices)) v))

-- the rows of the moves that stay where the controller makes these choices, and of the worths
pub record WeighedRows (a : Arena) (choice : ℕ → Value) (n m : ℕ) (owners marks costs froms tos worths : List ℕ) : Type 0 where
  pub well : WellFormed a
  pub legal : Legal a choice
  pub rows : RowsOf (restricted a choice) n m owners marks costs froms tos
  pub worth : RowIs worths n (λ v. number_of (round_value (restricted a choice) v))

-- the rounds of the restricted arena, where the choices are legal
pub record RestrictedSolved (n m : ℕ) (owners marks costs froms tos choices worths : List ℕ) (count : ℕ) (costs' froms' tos' worths' : List ℕ) : Type 0 where
  pub rows : (a : Arena) → RowsOf a n m owners marks costs froms tos → Legal a (row_value choices) → WeighedRows a (row_value choices) n count owners marks costs' froms' tos' worths'
  pub stay : Stays n worths worths'

-- the worths alone, whatever rows had the moves that stay
pub record LegalWeighed (n m : ℕ) (owners marks costs froms tos choices worths worths' : List ℕ) : Type 0 where
  pub count : ℕ
  pub costs' : List ℕ
  pub froms' : List ℕ
  pub tos' : List ℕ
  pub solved : RestrictedSolved n m owners marks costs froms tos choices worths count costs' froms' tos' worths'

-- weighing decoded rows: whether the choices are legal, and then the worths
pub record RowsWeighed (n m : ℕ) (owners marks costs froms tos choices worths worths' : List ℕ) (r : Bool) : Type 0 where
  pub answer : (a : Arena) → RowsOf a n m owners marks costs froms tos → r ≡ legal_row a (row_value choices) n
  pub taken : (a : Arena) → RowsOf a n m owners marks costs froms tos → r ≡ true → WorthRow a n choices worths worths'
  pub refused : r ≡ false → worths' ≡ worths

-- the answer to a chart, a row of choices, and a row of worths of this length
unfoldable pub weighed_by : Result Chart Misdrawn → Arena → List ℕ → ℕ → Result ⊤ Refusal
weighed_by (Err r) a choices worths = Err (OfChart r)
weighed_by (Ok chart) a choices worths =
    cond (leb chart.positions (length choices) && leb chart.positions worths)
    (cond (legal_row a (row_value choices) (size a)) (Ok tt) (Err Choice))
    (Err Short)

unfoldable pub weighed : List ℕ → List ℕ → ℕ → Result ⊤ Refusal
weighed text choices worths = weighed_by (examined text) (arena_of text) choices worths

-- the answer, and every lent number afterwards
pub record WeighedIs (text choices worths worths' : List ℕ) (r : Result ⊤ Refusal) : Type 0 where
  pub answer : r ≡ weighed text choices (length worths)
  pub taken : r ≡ Ok tt → WorthRow (arena_of text) (size (arena_of text)) choices worths worths'
  pub refused : (x : Refusal) → r ≡ Err x → worths' ≡ worths
