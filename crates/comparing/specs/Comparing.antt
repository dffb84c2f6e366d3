-- Comparing, computed, with its refusals in the table's order: 1 to 9 and 17, then 10 for the row of choices, 11 for the plate's form, 12 for a
-- choice that is not legal, 14 for the plate's first fault, and then the first position where the plate's values and the controller's
-- worths differ.
use Rattle.std.specs.Prelude.{ℕ, ◌≡◌, cond, List, length, leb, eqb, ⊤, Option, Some, None, Result, Ok, Err}
use Rattle.verdict.specs.declared.FoundFault.{FoundFault}
use Rattle.comparing.specs.declared.Difference.{Difference}
use Rattle.rows.specs.Rows.{RowsOf}
use Rattle.rows.specs.Numbers.{number_of, row_value}
use Rattle.game.specs.Arena.{Arena, size}
use Rattle.search.specs.First.{first_from}
use Rattle.game.specs.Restrict.{restricted}
use Rattle.game.specs.Table.{round_value}
use Rattle.refusal.specs.declared.Refusal.TheVariants.{Chart as OfChart, Short, Plate, Choice, Fault}
use Rattle.chart.specs.Meaning.{arena_of}
use Rattle.chart.specs.Examined.{examined}
use Rattle.weighing.specs.Weighing.{legal_row}
use Rattle.plate.specs.Formed.{form_of}
use Rattle.plate.specs.Read.{value_in_plate}
use Rattle.rows.specs.declared.Chart.{Chart}
use Rattle.refusal.specs.declared.Misdrawn.{Misdrawn}
use Rattle.refusal.specs.declared.Refusal.{Refusal}
use Rattle.checking.specs.Checking.{plate_verdict}

-- the plate's value at a position, and the worth there of the controller that makes the choices, as numbers in rows
abbrev pub value_number : List ℕ → ℕ → ℕ
value_number plate v = number_of (value_in_plate plate v)

abbrev pub worth_number : Arena → List ℕ → ℕ → ℕ
worth_number a choices v = number_of (round_value (restricted a (row_value choices)) v)

-- the plate's value x at v, where the worth is y
abbrev pub difference_of : ℕ → ℕ → ℕ → Difference
difference_of v x y = record { position = v; value = x; worth = y }

-- the first of n positions where f and g differ
abbrev pub first_difference : (f g : ℕ → ℕ) → ℕ → Result (Option Difference) Refusal
first_difference f g n = first_from (λ v. eqb (f v) (g v)) (λ v. Ok (Some (difference_of v (f v) (g v)))) (Ok None) n 0

-- 14: the plate's first fault; the rows of a sound plate are compared
unfoldable pub compared_verdict : Arena → (plate choices : List ℕ) → Result ⊤ FoundFault → Result (Option Difference) Refusal
compared_verdict a plate choices (Err f) = Err (Fault f.position f.condition)
compared_verdict a plate choices (Ok _) = first_difference (value_number plate) (worth_number a choices) (size a)

-- 12 before it
unfoldable pub compared_formed : Arena → (plate choices : List ℕ) → Result (Option Difference) Refusal
compared_formed a plate choices = cond (legal_row a (row_value choices) (size a)) (compared_verdict a plate choices (plate_verdict a plate)) (Err Choice)

-- 11 before both
unfoldable pub compared_form : Arena → (plate choices : List ℕ) → Result ⊤ ℕ → Result (Option Difference) Refusal
compared_form a plate choices (Err line) = Err (Plate line)
compared_form a plate choices (Ok _) = compared_formed a plate choices

-- once the chart is examined: 10 before all these
unfoldable pub compared_by : (text plate choices : List ℕ) → Result Chart Misdrawn → Result (Option Difference) Refusal
compared_by text plate choices (Err r) = Err (OfChart r)
compared_by text plate choices (Ok chart) =
    cond (leb chart.positions (length choices)) (compared_form (arena_of text) plate choices (form_of chart.positions plate)) (Err Short)

unfoldable pub compared : (text plate choices : List ℕ) → Result (Option Difference) Refusal
compared text plate choices = compared_by text plate choices (examined text)

-- the answer to a chart's rows, a plate of the form and choices for every position, for every arena that the rows hold
pub record FormedCompared (n m : ℕ) (owners marks costs froms tos plate choices : List ℕ) (r : Result (Option Difference) Refusal) : Type 0 where
  pub answer : (a : Arena) → RowsOf a n m owners marks costs froms tos → r ≡ compared_formed a plate choices
