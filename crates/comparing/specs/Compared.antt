-- What Comparing promises: its computed answer, and of an answer that is no refusal the mission's third demand for these choices.
use Rattle.std.specs.Prelude.{ℕ, ◌<◌, ◌≡◌, List, Option, Some, None, Result, Ok}
use Rattle.comparing.specs.declared.Difference.{Difference}
use Rattle.comparing.specs.Comparing.{difference_of}
use Rattle.rows.specs.Numbers.{value_of, row_value}
use Rattle.game.specs.Value.{◌≺◌}
use Rattle.game.specs.Arena.{size}
use Rattle.game.specs.Play.{Controller, Legal, positional}
use Rattle.game.specs.Worth.{WorthIs, AtMost, IsValue}
use Rattle.chart.specs.Meaning.{arena_of}
use Rattle.plate.specs.Read.{value_in_plate}
use Rattle.refusal.specs.declared.Refusal.{Refusal}
use Rattle.comparing.specs.Comparing.{compared}

-- the controller that makes the choices is worth the plate's value at each position, and no controller is worth more anywhere: to
-- each, with any memory, there is an unsafe play that costs no more
pub record AgreeIs (text plate choices : List ℕ) : Type 0 where
  pub legal : Legal (arena_of text) (row_value choices)
  pub worth : (v : ℕ) → v < size (arena_of text) → WorthIs (arena_of text) (positional (arena_of text) (row_value choices) legal) v (value_in_plate plate v)
  pub none-better : (τ : Controller (arena_of text)) (v : ℕ) → v < size (arena_of text) → AtMost (arena_of text) τ v (value_in_plate plate v)

-- at v the value is x, and the controller that makes the choices is worth y, which is less; some controller is worth x there; and at
-- each position before v the controller is worth the plate's value
pub record DifferIs (text plate choices : List ℕ) (v x y : ℕ) : Type 0 where
  pub legal : Legal (arena_of text) (row_value choices)
  pub inside : v < size (arena_of text)
  pub before : (u : ℕ) → u < v → WorthIs (arena_of text) (positional (arena_of text) (row_value choices) legal) u (value_in_plate plate u)
  pub value : IsValue (arena_of text) v (value_of x)
  pub worth : WorthIs (arena_of text) (positional (arena_of text) (row_value choices) legal) v (value_of y)
  pub less : value_of y ≺ value_of x
  pub better : (τ : Controller (arena_of text)) × WorthIs (arena_of text) τ v (value_of x)

-- the answer, with what it means
pub record ComparedIs (text plate choices : List ℕ) (r : Result (Option Difference) Refusal) : Type 0 where
  pub answer : r ≡ compared text plate choices
  pub agrees : r ≡ Ok None → AgreeIs text plate choices
  pub differs : (v x y : ℕ) → r ≡ Ok (Some (difference_of v x y)) → DifferIs text plate choices v x y
