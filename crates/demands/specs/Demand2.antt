-- The mission's second demand: "On a plate that the library writes or accepts, a position reads k exactly when some controller stays
-- safe in every play from it with fewer than k disturbances, and against each controller some play with at most k becomes unsafe; it
-- reads "ever" exactly when some controller is safe in all plays." What a position reads is `value_in_plate` of the plate's bytes; the two
-- sides of "exactly when" are `IsValue`, at a number and at "ever". Its last sentence is `SamePlate`, proved in specs/ReadBack.antt.
use Rattle.std.specs.Prelude.{ℕ, ◌≤◌, ◌<◌, ◌≡◌, ◌↔◌, List, length, Result, Ok}
use Rattle.std.proofs.Common.{subst}
use Rattle.rows.specs.Numbers.{row_value}
use Rattle.rows.specs.declared.FirstLine.{FirstLine}
use Rattle.game.specs.Value.{Value}
use Rattle.game.specs.Arena.{size}
use Rattle.game.specs.Worth.{IsValue}
use Rattle.game.proofs.Unique.{value-is-unique}
use Rattle.chart.specs.Meaning.{arena_of}
use Rattle.plate.specs.Read.{value_in_plate}
use Rattle.plate.specs.Text.{plate_text}
use Rattle.valuing.specs.Valuing.{PlateRows}
use Rattle.writing.specs.Writing.{rounds_first_line}
use Rattle.reading.specs.Reading.{ReadingIs}
use Rattle.checking.specs.Plates.{accepted-plate-is-right}
use Rattle.demands.specs.Sanctioned.{Sanctioned}
use Rattle.refusal.specs.declared.Refusal.{Refusal}
use Rattle.demands.specs.SanctionedLaws.{sanctioned-is-accepted}

pub demand-2 : (text plate : List ℕ) → Sanctioned text plate → (v : ℕ) → v < size (arena_of text) → (x : Value)
    → (value_in_plate plate v ≡ x) ↔ IsValue (arena_of text) v x
demand-2 text plate s v l x =
    let right = (accepted-plate-is-right text plate (sanctioned-is-accepted text plate s)).right v l in
    ((λ e. subst (IsValue (arena_of text) v) e right), (λ h. value-is-unique (arena_of text) v (value_in_plate plate v) x right h))

-- "A plate, written and read back, is the same plate", of the bytes that Writing wrote for the chart
pub record SamePlate (text plate : List ℕ) : Type 0 where
  -- Reading takes them into rows that are long enough
  pub taken : {values values' choices choices' steps steps' : List ℕ} {r : Result FirstLine Refusal} → ReadingIs text plate values values' choices choices' steps steps' r
      → size (arena_of text) ≤ length values → size (arena_of text) ≤ length choices → size (arena_of text) ≤ length steps → (h : FirstLine) × (r ≡ Ok h)
  -- the first line's numbers and the rows that it gives, set out again as plate lines, are the same bytes
  pub same_bytes : {values values' choices choices' steps steps' : List ℕ} {h : FirstLine} → ReadingIs text plate values values' choices choices' steps steps' (Ok h)
      → plate_text (size (arena_of text)) h (row_value values') (row_value choices') (row_value steps') ≡ plate
  -- and they are the numbers that were written, "what Valuing gives"
  pub same_numbers : {values values' choices choices' steps steps' : List ℕ} {h : FirstLine} → ReadingIs text plate values values' choices choices' steps steps' (Ok h)
      → (h ≡ rounds_first_line (arena_of text)) × PlateRows (arena_of text) (size (arena_of text)) values values' choices choices' steps steps'
