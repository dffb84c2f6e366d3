-- The mission's third demand, whole, about the two rows of numbers: "the plate's values and the worths that the library answers for
-- that controller, are equal at every position exactly when every other controller, whatever it remembers of earlier positions and
-- disturbances, is worth at most as much at each position. The plate's own controller .. is such a one: its row of worths is the row of
-- the plate's values." The hypotheses are what the jobs' contracts give: a plate that Writing made or Checking accepted, the rows
-- that Reading gave of it, the row that Weighing gave for a row of choices.
use Rattle.std.specs.Prelude.{ℕ, ◌≤◌, ◌<◌, ◌≡◌, refl, ◌↔◌, List, get_or, Ok}
use Rattle.rows.specs.Numbers.{row_value}
use Rattle.game.specs.Value.{Value, ◌≼◌}
use Rattle.game.specs.Arena.{Arena, controller, size, owner_at}
use Rattle.game.specs.Play.{Trail, Controller, last, positional}
use Rattle.game.specs.Worth.{WorthIs, AtMost}
use Rattle.chart.specs.Meaning.{arena_of}
use Rattle.rows.specs.declared.FirstLine.{FirstLine}
use Rattle.weighing.specs.Weighing.{weighed, WeighedIs}
use Rattle.reading.specs.Reading.{ReadingIs}
use Rattle.demands.specs.Sanctioned.{Sanctioned}

-- the plate, as Reading gives it: the row of its values, and that of its choices
pub record ReadPlate (text plate values choices : List ℕ) : Type 0 where
  pub sanctioned : Sanctioned text plate
  pub header : FirstLine
  pub values₀ : List ℕ
  pub choices₀ : List ℕ
  pub steps₀ : List ℕ
  pub steps : List ℕ
  pub read : ReadingIs text plate values₀ values choices₀ choices steps₀ steps (Ok header)

-- the controller that makes the given choices, and the row of its worths as Weighing gives it
pub record Weighing (text given worths : List ℕ) : Type 0 where
  pub worths₀ : List ℕ
  pub weighed : WeighedIs text given worths₀ worths (Ok tt)

abbrev pub controller_of : {text given worths : List ℕ} → Weighing text given worths → Controller (arena_of text)
controller_of {text} {given} w = positional (arena_of text) (row_value given) (w.weighed.taken refl).legal

-- the two rows are equal at every position
abbrev pub RowsAgree : (text values worths : List ℕ) → Type 0
RowsAgree text values worths = (v : ℕ) → v < size (arena_of text) → get_or values v 0 ≡ get_or worths v 0

-- every controller is worth at most as much at each position: the strong form, an actual unsafe play that costs no more
abbrev pub NoneBetter : (text worths : List ℕ) → Type 0
NoneBetter text worths = (τ : Controller (arena_of text)) (v : ℕ) → v < size (arena_of text) → AtMost (arena_of text) τ v (row_value worths v)

-- and the weak form: whatever is its worth is at most as much
abbrev pub WorthAtMost : (text worths : List ℕ) → Controller (arena_of text) → Type 0
WorthAtMost text worths τ = (v : ℕ) → v < size (arena_of text) → (x : Value) → WorthIs (arena_of text) τ v x → x ≼ row_value worths v

-- a controller other than σ: at some history of a position of its own it picks something else
abbrev pub Other : {a : Arena} → Controller a → Controller a → Type 0
Other {a} σ τ = (v : ℕ) × (t : Trail) × (owner_at a (last v t) ≡ controller) × (τ.pick v t ≡ σ.pick v t → ⊥)

-- The demand, whole

pub record Demand3 (text plate values choices given worths : List ℕ) (p : ReadPlate text plate values choices) (w : Weighing text given worths) : Type 0 where
  -- the rows agree exactly when no controller is worth more: strongly to the right, weakly to the left
  pub to-the-right : RowsAgree text values worths → NoneBetter text worths
  pub to-the-left : ((τ : Controller (arena_of text)) → WorthAtMost text worths τ) → RowsAgree text values worths
  -- the same of "every other controller", to the letter
  pub exactly-the-others : RowsAgree text values worths ↔ ((τ : Controller (arena_of text)) → Other (controller_of w) τ → WorthAtMost text worths τ)
  -- the plate's own controller is such a one: Weighing takes its choices, given room for the worths, and answers the values
  pub own-taken : (room : ℕ) → size (arena_of text) ≤ room → weighed text choices room ≡ Ok tt
  pub own_row : {own : List ℕ} → Weighing text choices own → RowsAgree text values own
