-- What is read of a plate of the form is what checking its rows wants, and the answer to the rows is the answer to the plate.
use Rattle.std.specs.Prelude.{ℕ, ◌≤◌, ◌<◌, ◌≡◌, refl, ◌⊎◌, List, ⊤, Result, Ok, Err}
use Rattle.verdict.specs.declared.FoundFault.{FoundFault}
use Rattle.std.proofs.Common.{arith, sym, ap, ◌∙◌, inl, inr}
use Rattle.rows.specs.Rows.{Ascending, RowsOf}
use Rattle.rows.specs.Numbers.{number_of, row_value, Agree}
use Rattle.game.specs.Value.{Value, fin, ever}
use Rattle.game.specs.Arena.{Arena, size}
use Rattle.game.specs.Play.{target_of}
use Rattle.chart.specs.Meaning.{arena_of}
use Rattle.chart.specs.Examined.{examined}
use Rattle.decode.specs.LoadedLaws.{decoded-ascending as loaded-ascending}
use Rattle.rows.specs.declared.Chart.{Chart}
use Rattle.refusal.specs.declared.Misdrawn.{Misdrawn}
use Rattle.refusal.specs.declared.Refusal.TheVariants.{Chart as OfChart, Plate}
use Rattle.rows.specs.declared.FirstLine.{FirstLine}
use Rattle.plate.specs.Form.{OfForm}
use Rattle.plate.specs.Formed.{form_of}
use Rattle.plate.specs.Exact.{form-exact}
use Rattle.plate.specs.Read.{RowsRead, header_in, value_in_plate, choice_in_plate, step_in_plate}
use Rattle.plate.specs.Range.{Below}
use Rattle.plate.specs.RangeLaws.{below-fits}
use Rattle.plate.specs.RoundTrip.{read-in-range}
use Rattle.plate.specs.RowTrip.{row-column}
use Rattle.verdict.specs.Verdict.{verdict_of}
use Rattle.verdict.specs.Sheet.{Formed, sheet}
use Rattle.verdict.specs.RowsChecked.{RowsChecked}
use Rattle.checking.specs.Checking.{FormedIs, PlateIs, answer_of, chart_checked, checked, plate_checked, plate_verdict}
use Rattle.refusal.specs.declared.Refusal.{Refusal}
use Rattle.verdict.specs.SameFault.{verdict-same}

-- the loaded moves lie by their positions
pub decoded-ascending : (text : List ℕ) (chart : Chart) → examined text ≡ Ok chart → {n : ℕ} {owners marks costs froms tos : List ℕ}
    → RowsOf (arena_of text) n chart.moves owners marks costs froms tos → Ascending chart.moves froms
decoded-ascending = loaded-ascending

-- a value below 512 as a number
number-formed : (x : Value) → Below 512 x → (number_of x ≡ 65535) ⊎ (number_of x < 512)
unfolding Below number_of
number-formed (fin k) l = inr l
number-formed ever l = inl refl

-- a choice in range names a position
pub target-inside : (n : ℕ) (x : Value) → 0 < n → Below n x → target_of x < n
unfolding Below target_of
target-inside n (fin k) some l = l
target-inside n ever some l = some

module _ (n : ℕ) (plate : List ℕ) (few : n ≤ 512) (good : form_of n plate ≡ Ok tt) {header : FirstLine} {values₀ values choices₀ choices steps₀ steps : List ℕ}
    (read : RowsRead n plate header values₀ values choices₀ choices steps₀ steps) where
  form : OfForm n plate
  form = (form-exact n plate).0 good

  pub rows-formed : Formed n values steps
  rows-formed =
      let range = read-in-range n plate few form in
      record {
        value = λ v l. rw (read.rows.value.row v l) (number-formed (value_in_plate plate v) (range.value_in v l));
        step = λ v l. rw (read.rows.step.row v l) (number-formed (step_in_plate plate v) (range.step_in v l));
      }

  module _ {m : ℕ} {owners marks costs froms tos : List ℕ} where
    verdict-is : {r : Result ⊤ FoundFault} → RowsChecked n m (sheet owners marks costs froms tos values choices steps) header r
        → (a : Arena) → RowsOf a n m owners marks costs froms tos
        → r ≡ plate_verdict a plate
    verdict-is checked a d =
        checked.verdict a d
        ∙ ap (verdict_of a (row_value values) (row_value choices) (row_value steps)) read.header
        ∙ verdict-same a d.well (row_value values) (value_in_plate plate) (row_value choices) (choice_in_plate plate) (row_value steps) (step_in_plate plate)
        (rw d.positions value-column) (rw d.positions choice-column) (rw d.positions step-column) targets (header_in plate)
      where
        value-column : Agree n (row_value values) (value_in_plate plate)
        value-column = row-column values n (value_in_plate plate) read.rows.value.row (λ v l. below-fits 512 (value_in_plate plate v) (omega arith) ((read-in-range n plate few form).value_in v l))

        choice-column : Agree n (row_value choices) (choice_in_plate plate)
        choice-column = row-column choices n (choice_in_plate plate) read.rows.choice.row (λ v l. below-fits n (choice_in_plate plate v) (omega arith) ((read-in-range n plate few form).choice-in v l))

        step-column : Agree n (row_value steps) (step_in_plate plate)
        step-column = row-column steps n (step_in_plate plate) read.rows.step.row (λ v l. below-fits 512 (step_in_plate plate v) (omega arith) ((read-in-range n plate few form).step_in v l))

        targets : (v : ℕ) → v < size a → target_of (row_value choices v) < size a
        targets v l =
            let k : v < n = rw d.positions at l in
            rw (d.positions, choice-column v k) (target-inside n (choice_in_plate plate v) (omega arith) ((read-in-range n plate few form).choice-in v k))

    pub formed-verdict : {r : Result ⊤ FoundFault} → RowsChecked n m (sheet owners marks costs froms tos values choices steps) header r → FormedIs n m owners marks costs froms tos plate r
    formed-verdict checked = record { verdict = verdict-is checked }

-- a plate of the form
pub formed-answer : {n m : ℕ} {owners marks costs froms tos plate : List ℕ} {r v : Result ⊤ FoundFault} → form_of n plate ≡ Ok tt → FormedIs n m owners marks costs froms tos plate r → r ≡ v
    → PlateIs n m owners marks costs froms tos plate (answer_of v)
unfolding plate_checked
formed-answer good is e = record { answer = λ a d. ap answer_of (sym e ∙ is.verdict a d) ∙ rw good }

-- a plate that is not of the form
pub bad-answer : {n m line : ℕ} {owners marks costs froms tos plate : List ℕ} → form_of n plate ≡ Err line → PlateIs n m owners marks costs froms tos plate (Err (Plate line))
unfolding plate_checked
bad-answer bad = record { answer = λ a d. rw bad }

-- only a plate of the form is accepted
pub accepted-form : {n m : ℕ} {owners marks costs froms tos plate : List ℕ} {r : Result ⊤ Refusal} (a : Arena) → RowsOf a n m owners marks costs froms tos
    → PlateIs n m owners marks costs froms tos plate r → r ≡ Ok tt → form_of n plate ≡ Ok tt
unfolding plate_checked
accepted-form {n = n} {plate = plate} a d is e = go (form_of n plate) (sym e ∙ is.answer a d)
  where
    go : (f : Result ⊤ ℕ) → (Ok tt) ≡ plate_checked a plate f → f ≡ Ok tt
    go (Ok _) z = refl
    go (Err line) z = let w : ◌≡◌ {A = ℕ} 0 1 = cc in absurd (omega arith)

-- a chart that is refused, and one that is taken
pub refused-answer : (text plate : List ℕ) (r : Misdrawn) → examined text ≡ Err r → Err (OfChart r) ≡ checked text plate
unfolding checked chart_checked
refused-answer text plate r e = rw e

pub taken-answer : (text plate : List ℕ) (chart : Chart) {r : Result ⊤ Refusal} {owners marks costs froms tos : List ℕ} → examined text ≡ Ok chart
    → RowsOf (arena_of text) chart.positions chart.moves owners marks costs froms tos
    → PlateIs chart.positions chart.moves owners marks costs froms tos plate r → r ≡ checked text plate
unfolding checked chart_checked
taken-answer text plate chart e d is = is.answer (arena_of text) d ∙ rw e
