-- What Reading took: the plate is of the form, the answer is its first line, and the rows, set out again, are the plate.
use Rattle.std.specs.Prelude.{ℕ, ◌≤◌, ◌↔◌, Bool, true, false, ◌&&◌, List, length, leb, ⊤, Result, Ok, Err}
use Rattle.std.proofs.Common.{arith, sym, ◌∙◌, subst}
use Rattle.std.proofs.Math.Path.{◌≡◌, refl, ap}
use Rattle.rows.specs.Numbers.{row_value}
use Rattle.game.specs.Arena.{size}
use Rattle.chart.specs.Meaning.{arena_of}
use Rattle.chart.specs.Examined.{examined}
use Rattle.chart.specs.Accepted.{accepted-size, accepted-chartable}
use Rattle.rows.specs.declared.Chart.{Chart}
use Rattle.refusal.specs.declared.Refusal.{Refusal}
use Rattle.refusal.specs.declared.Refusal.TheVariants.{Chart as OfChart, Short, Plate}
use Rattle.rows.specs.declared.FirstLine.{FirstLine}
use Rattle.plate.specs.Text.{plate_text}
use Rattle.plate.specs.Form.{OfForm, BadAt}
use Rattle.plate.specs.Formed.{form_of}
use Rattle.plate.specs.Exact.{form-exact, bad-line-exact}
use Rattle.plate.specs.Read.{header_in}
use Rattle.plate.specs.RowTrip.{rows-set-out}
use Rattle.refusal.specs.declared.Misdrawn.{Misdrawn}
use Rattle.reading.specs.Reading.{answer_to, read_by, reading, ReadingIs}

-- what an answer with rows says: the chart was accepted, the plate is of the form, and the answer is its first line
pub record Taken (text plate : List ℕ) (h : FirstLine) : Type 0 where
  pub chart : Chart
  pub accepted : examined text ≡ Ok chart
  pub form : OfForm (size (arena_of text)) plate
  pub header : h ≡ header_in plate

same_rows : (h k : FirstLine) → ◌≡◌ {A = Result FirstLine Refusal} (Ok h) (Ok k) → h ≡ k
same_rows h k e = cc

pub reading-took : (text plate : List ℕ) (values choices steps : ℕ) (h : FirstLine) → reading text plate values choices steps ≡ Ok h → Taken text plate h
unfolding reading read_by answer_to
reading-took text plate values choices steps h e = examination (examined text) refl
  where
    other : (x : Refusal) → Err x ≡ Ok h → Taken text plate h
    other x q = let z : ◌≡◌ {A = ℕ} 0 1 = cc in absurd (omega arith)

    examined-plate : (chart : Chart) → examined text ≡ Ok chart → (f : Result ⊤ ℕ) → form_of chart.positions plate ≡ f → answer_to plate f ≡ Ok h → Taken text plate h
    examined-plate chart p (Ok _) g q = record {
      chart = chart;
      accepted = p;
      form = subst (λ (n : ℕ). OfForm n plate) (sym (accepted-size text chart p)) ((form-exact chart.positions plate).0 g);
      header = sym (same_rows (header_in plate) h q);
    }
    examined-plate chart p (Err line) g q = other (Plate line) q

    room : (chart : Chart) → examined text ≡ Ok chart → (b : Bool) →
        (leb chart.positions values && (leb chart.positions choices && leb chart.positions steps)) ≡ b → Taken text plate h
    room chart p true b = examined-plate chart p (form_of chart.positions plate) refl (simp (p, b) at e)
    room chart p false b = other Short (simp (p, b) at e)

    examination : (x : Result Chart Misdrawn) → examined text ≡ x → Taken text plate h
    examination (Ok chart) p = room chart p (leb chart.positions values && (leb chart.positions choices && leb chart.positions steps)) refl
    examination (Err r) p = other (OfChart r) (simp p at e)

few : (text : List ℕ) (chart : Chart) → examined text ≡ Ok chart → size (arena_of text) ≤ 512
few text chart p = (accepted-chartable text chart p).few-positions

-- "Set out again as plate lines, these are the same bytes"
pub reading-set-out : (text plate values values' choices choices' steps steps' : List ℕ) (r : Result FirstLine Refusal) (h : FirstLine) →
    ReadingIs text plate values values' choices choices' steps steps' r → r ≡ Ok h →
    plate_text (size (arena_of text)) h (row_value values') (row_value choices') (row_value steps') ≡ plate
reading-set-out text plate values values' choices choices' steps steps' r h is taken =
    let w = reading-took text plate (length values) (length choices) (length steps) h (sym is.answer ∙ taken) in
    rows-set-out (size (arena_of text)) (few text w.chart w.accepted) plate h values values' choices choices' steps steps' w.form
    (record { header = w.header; rows = is.taken h taken })

-- Given an accepted chart and room, the answer is exact: 11 at line l just where l is the lowest bad line, rows just where the plate is
-- of the form

module _ (text plate : List ℕ) (values choices steps : ℕ) (chart : Chart) (accepted : examined text ≡ Ok chart)
    (room : (leb chart.positions values && (leb chart.positions choices && leb chart.positions steps)) ≡ true) where
  answered : reading text plate values choices steps ≡ answer_to plate (form_of chart.positions plate)
  unfolding reading read_by
  answered = rw (accepted, room)

  pub eleven-exact : (l : ℕ) → reading text plate values choices steps ≡ Err (Plate l) ↔ BadAt chart.positions plate l
  unfolding answer_to
  eleven-exact l = (λ e. (bad-line-exact chart.positions l plate).0 (go (form_of chart.positions plate) (sym answered ∙ e)), λ w. answered ∙ ap (answer_to plate) ((bad-line-exact chart.positions l plate).1 w))
    where
      go : (f : Result ⊤ ℕ) → answer_to plate f ≡ Err (Plate l) → f ≡ Err l
      go (Ok _) e = let z : ◌≡◌ {A = ℕ} 0 1 = cc in absurd (omega arith)
      go (Err k) e = let same : k ≡ l = cc in ap Err same

  pub taken-exact : reading text plate values choices steps ≡ Ok (header_in plate) ↔ OfForm chart.positions plate
  unfolding answer_to
  taken-exact = (λ e. (form-exact chart.positions plate).0 (go (form_of chart.positions plate) (sym answered ∙ e)), λ w. answered ∙ ap (answer_to plate) ((form-exact chart.positions plate).1 w))
    where
      go : (f : Result ⊤ ℕ) → answer_to plate f ≡ Ok (header_in plate) → f ≡ Ok tt
      go (Ok _) e = refl
      go (Err k) e = let z : ◌≡◌ {A = ℕ} 0 1 = cc in absurd (omega arith)
