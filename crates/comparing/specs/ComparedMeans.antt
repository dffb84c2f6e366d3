-- What Comparing's answer means. Where it is no refusal the plate was accepted and the choices are legal, so its values are the values
-- and the worths those of the controller: equal rows are a controller that none surpasses, and at a difference some controller is worth
-- the value, which is more.
use Rattle.std.specs.Prelude.{ℕ, ◌≤◌, ◌<◌, ◌≡◌, refl, ◌⊎◌, Bool, true, false, List, length, leb, eqb, ⊤, Option, Some, None, Result, Ok, Err}
use Rattle.verdict.specs.declared.FoundFault.{FoundFault}
use Rattle.comparing.specs.declared.Difference.{Difference}
use Rattle.comparing.specs.Comparing.{difference_of}
use Rattle.std.proofs.Common.{arith, sym, ap, subst, ◌∙◌, inl, inr, ⊎_elim, eqb-true, leb-true, leb-false}
use Rattle.std.proofs.lemmas.Bool.{eqb-false}
use Rattle.rows.specs.Numbers.{value_of, number_of, row_value}
use Rattle.rows.specs.NumberLaws.{number-of-value, value-of-number}
use Rattle.search.specs.First.{FirstAt, AllPass}
use Rattle.search.proofs.FirstLaws.{first-none, first-at, first_or_none}
use Rattle.game.specs.Value.{Value}
use Rattle.game.proofs.ValueLaws.{≼-split}
use Rattle.game.specs.Arena.{Arena, WellFormed, size}
use Rattle.game.specs.Play.{Controller, Legal, positional}
use Rattle.game.specs.Worth.{WorthIs, IsValue}
use Rattle.game.proofs.Bounds.{value-is-bounds}
use Rattle.game.proofs.Unique.{value-is-greatest, worth-at-most-value}
use Rattle.game.specs.Restrict.{restricted}
use Rattle.game.specs.Table.{round_value}
use Rattle.refusal.specs.declared.Refusal.{Refusal}
use Rattle.refusal.specs.declared.Refusal.TheVariants.{Chart as OfChart, Short, Plate, Choice, Fault}
use Rattle.rows.specs.declared.Chart.{Chart}
use Rattle.chart.specs.Meaning.{arena_of}
use Rattle.chart.specs.Examined.{examined}
use Rattle.chart.specs.Accepted.{accepted-chartable, accepted-size}
use Rattle.weighing.specs.Weighing.{legal_row}
use Rattle.weighing.specs.WeighingLaws.{legal-row-sound, restricted-rounds-are-worths, worths-fit}
use Rattle.plate.specs.Exact.{form-exact}
use Rattle.plate.specs.Formed.{form_of}
use Rattle.plate.specs.RangeLaws.{below-fits}
use Rattle.plate.specs.Read.{header_in, value_in_plate, choice_in_plate, step_in_plate}
use Rattle.plate.specs.RoundTrip.{read-in-range}
use Rattle.verdict.specs.Accepted.{accepted-is-right}
use Rattle.verdict.specs.Verdict.{RightPlate}
use Rattle.checking.specs.Checking.{plate_verdict}
use Rattle.checking.specs.Answers.{AcceptedIs}
use Rattle.checking.specs.AnswersExact.{accepted-sound, verdict-means}
use Rattle.comparing.specs.Comparing.{value_number, worth_number, first_difference, compared}
use Rattle.comparing.specs.Compared.{AgreeIs, DifferIs, ComparedIs}
use Rattle.refusal.specs.declared.Misdrawn.{Misdrawn}
use Rattle.comparing.specs.Order.{first-the-chart, then-ten, then-eleven, then-twelve, then-fourteen, then-the-rows}

-- no refusal's condition holds
record RowsCompared (text plate choices : List ℕ) : Type 0 where
  accepted : AcceptedIs text plate
  lawful : legal_row (arena_of text) (row_value choices) (size (arena_of text)) ≡ true
  is : compared text plate choices ≡ first_difference (value_number plate) (worth_number (arena_of text) choices) (size (arena_of text))

module _ (text plate choices : List ℕ) where
  abbrev Settled : Type 0
  Settled = ((x : Refusal) × (compared text plate choices ≡ Err x)) ⊎ RowsCompared text plate choices

  module _ (chart : Chart) (taken : examined text ≡ Ok chart) (enough : chart.positions ≤ length choices) where
    by-verdict : (form : form_of chart.positions plate ≡ Ok tt) → legal_row (arena_of text) (row_value choices) (size (arena_of text)) ≡ true
        → (r : Result ⊤ FoundFault) → plate_verdict (arena_of text) plate ≡ r → Settled
    by-verdict form lawful (Err f) e = inl (Fault f.position f.condition, then-fourteen text plate choices chart taken enough form lawful f.position f.condition e)
    by-verdict form lawful (Ok _) e = inr (record {
      accepted = verdict-means text plate chart taken ((form-exact chart.positions plate).0 form) (Ok tt) e;
      lawful = lawful;
      is = then-the-rows text plate choices chart taken enough form lawful e;
    })

    by-choices : form_of chart.positions plate ≡ Ok tt → (b : Bool) → legal_row (arena_of text) (row_value choices) (size (arena_of text)) ≡ b → Settled
    by-choices form true e = by-verdict form e (plate_verdict (arena_of text) plate) refl
    by-choices form false e = inl (Choice, then-twelve text plate choices chart taken enough form e)

    by_form : (f : Result ⊤ ℕ) → form_of chart.positions plate ≡ f → Settled
    by_form (Err line) e = inl (Plate line, then-eleven text plate choices chart taken enough line e)
    by_form (Ok _) e = by-choices e (legal_row (arena_of text) (row_value choices) (size (arena_of text))) refl

  by-chart : (x : Result Chart Misdrawn) → examined text ≡ x → Settled
  by-chart (Err r) e = inl (OfChart r, first-the-chart text plate choices r e)
  by-chart (Ok chart) e = go (leb chart.positions (length choices)) refl
    where
      go : (b : Bool) → leb chart.positions (length choices) ≡ b → Settled
      go true h = by_form chart e (leb-true _ _ h) (form_of chart.positions plate) refl
      go false h = inl (Short, then-ten text plate choices chart e (leb-false _ _ h))

module _ {text plate choices : List ℕ} (w : RowsCompared text plate choices) where
  abbrev a : Arena
  a = arena_of text

  abbrev choice : ℕ → Value
  choice = row_value choices

  well : WellFormed a
  well = (accepted-chartable text w.accepted.chart w.accepted.taken).well-formed

  few : size a ≤ 512
  few = (accepted-chartable text w.accepted.chart w.accepted.taken).few-positions

  legal : Legal a choice
  legal = legal-row-sound a choice w.lawful

  abbrev σ : Controller a
  σ = positional a choice legal

  right : RightPlate a (value_in_plate plate) (choice_in_plate plate)
  right = accepted-is-right a well (value_in_plate plate) (choice_in_plate plate) (step_in_plate plate) (header_in plate) (accepted-sound text plate w.accepted)

  -- the numbers stand for the plate's value, which the form keeps below 512, and for the controller's worth
  value-back : (v : ℕ) → v < size a → value_of (value_number plate v) ≡ value_in_plate plate v
  value-back v l =
      let n = accepted-size text w.accepted.chart w.accepted.taken in
      let f = few in
      value-of-number (value_in_plate plate v)
      (below-fits 512 (value_in_plate plate v) (omega arith) ((read-in-range w.accepted.chart.positions plate (omega arith) w.accepted.form).value_in v (omega arith)))

  its-worth : (v : ℕ) → v < size a → WorthIs a σ v (value_of (worth_number a choices v))
  its-worth v l =
      subst (WorthIs a σ v) (sym (value-of-number (round_value (restricted a choice) v) (worths-fit a well choice legal few v)))
      (restricted-rounds-are-worths a well choice legal v l)

  -- equal numbers: the controller is worth the plate's value
  worth-is-value : (v : ℕ) → v < size a → eqb (value_number plate v) (worth_number a choices v) ≡ true → WorthIs a σ v (value_in_plate plate v)
  worth-is-value v l e = subst (WorthIs a σ v) (sym (ap value_of (eqb-true _ _ e)) ∙ value-back v l) (its-worth v l)

  all-agree : AllPass (λ v. eqb (value_number plate v) (worth_number a choices v)) (size a) 0 → AgreeIs text plate choices
  all-agree same =
      record {
        legal = legal;
        worth = λ v l. worth-is-value v l (same v (omega arith) (omega arith));
        none-better = λ τ v l. ((value-is-bounds a v (value_in_plate plate v)).0 (right.right v l)).1 τ;
      }

  first-differs : (v : ℕ) → FirstAt (λ v. eqb (value_number plate v) (worth_number a choices v)) (size a) 0 v
      → DifferIs text plate choices v (value_number plate v) (worth_number a choices v)
  first-differs v first =
      let x = value_number plate v in
      let y = worth_number a choices v in
      let l : v < size a = omega (arith, first.high) in
      let value : IsValue a v (value_of x) = subst (IsValue a v) (sym (value-back v l)) (right.right v l) in
      let greatest = value-is-greatest a v (value_of x) value in
      record {
        legal = legal;
        inside = l;
        before = λ u h. worth-is-value u (omega arith) (first.passed u (omega arith) h);
        value = value;
        worth = its-worth v l;
        less = ⊎_elim (λ h. h) (λ q. absurd (eqb-false x y first.fails (sym (number-of-value x) ∙ ap number_of (sym q) ∙ number-of-value y)))
            (≼-split (value_of y) (value_of x) (worth-at-most-value a v σ (value_of x) (value_of y) value (its-worth v l)));
        better = (greatest.best, greatest.attained);
      }

-- the job's promise, of the computed answer
pub compared_is : (text plate choices : List ℕ) {r : Result (Option Difference) Refusal} → r ≡ compared text plate choices → ComparedIs text plate choices r
compared_is text plate choices {r} e =
    ⊎_elim refused (λ w. ⊎_elim (agreed w) (differing w) (first_or_none (λ v. eqb (value_number plate v) (worth_number (arena_of text) choices v)) (size (arena_of text)) 0))
    (by-chart text plate choices (examined text) refl)
  where
    refused : ((x : Refusal) × (compared text plate choices ≡ Err x)) → ComparedIs text plate choices r
    refused (x, f) =
        record {
          answer = e;
          agrees = λ q. let z : ◌≡◌ {A = ℕ} 0 1 = cc in absurd (omega arith);
          differs = λ v x y q. let z : ◌≡◌ {A = ℕ} 0 1 = cc in absurd (omega arith);
        }

    agreed : RowsCompared text plate choices → AllPass (λ v. eqb (value_number plate v) (worth_number (arena_of text) choices v)) (size (arena_of text)) 0 → ComparedIs text plate choices r
    agreed w same =
        let f : r ≡ (Ok None) = e ∙ w.is ∙ first-none _ _ (Ok None) (size (arena_of text)) 0 same in
        record { answer = e; agrees = λ q. all-agree w same; differs = λ v x y q. let z : ◌≡◌ {A = ℕ} 0 1 = cc in absurd (omega arith) }

    differing : RowsCompared text plate choices → ((v : ℕ) × FirstAt (λ v. eqb (value_number plate v) (worth_number (arena_of text) choices v)) (size (arena_of text)) 0 v)
        → ComparedIs text plate choices r
    differing w (u, first) =
        let f : r ≡ Ok (Some (difference_of u (value_number plate u) (worth_number (arena_of text) choices u))) = e ∙ w.is ∙ first-at _ _ (Ok None) (size (arena_of text)) 0 u first in
        record {
          answer = e;
          agrees = λ q. let z : ◌≡◌ {A = ℕ} 0 1 = cc in absurd (omega arith);
          differs = λ v x y q.
              let same : difference_of u (value_number plate u) (worth_number (arena_of text) choices u) ≡ difference_of v x y = cc in
              let p : u ≡ v = ap (λ (d : Difference). d.position) same in
              let s : value_number plate u ≡ x = ap (λ (d : Difference). d.value) same in
              let t : worth_number (arena_of text) choices u ≡ y = ap (λ (d : Difference). d.worth) same in
              rw (← p, ← s, ← t) (first-differs w u first);
        }
