-- How many lanes are driven; and a house's report from a chart's rows and from two texts.
use Rattle.std.specs.Prelude.{ℕ, ◌≤◌, ◌<◌, ◌⊎◌, Bool, ◌&&◌, List, eqb, length, ⊤, Result, Ok, Err}
use Rattle.verdict.specs.declared.FoundFault.{FoundFault}
use Rattle.std.proofs.Common.{arith, sym, ap, subst, ◌∙◌, inl, inr}
use Rattle.std.proofs.Math.Path.{◌≡◌, refl}
use Rattle.std.proofs.Math.Logic.{⊎_elim}
use Rattle.std.proofs.Math.Bool.{true, false, cond, and-false}
use Rattle.std.proofs.Math.Dec.{ltb}
use borrow.Author.Tests.{eq-eqb, eqb-false, eqb-true, le-ltb, lt-ltb, ltb-false, ltb-true, ne_eqb}
use Rattle.rows.specs.Rows.{RowsOf}
use Rattle.game.specs.Arena.{Arena}
use Rattle.chart.specs.Meaning.{arena_of}
use Rattle.chart.specs.Examined.{examined}
use Rattle.rows.specs.declared.Chart.{Chart}
use Rattle.refusal.specs.declared.Misdrawn.{Misdrawn}
use Rattle.refusal.specs.declared.Refusal.{Refusal}
use Rattle.refusal.specs.declared.Refusal.TheVariants.{Chart as OfChart, Lanes}
use Rattle.plate.specs.Formed.{form_of}
use Rattle.checking.specs.Checking.{PlateIs, answer_of, chart_checked, checked, plate_checked, plate_verdict}
use Rattle.checking.specs.CheckingLaws.{accepted-form, refused-answer}
use Rattle.run.specs.Running.{reported, reported_by, reported_form}
use Rattle.run.specs.declared.Run.{Run}
use Rattle.house.specs.Housing.{DriveIs, checked_answer, drivable, driven_lanes, house_answer, singly}
use Rattle.house.specs.Answers.{Drivable, NotDrivable}
use Rattle.house.specs.Driving.{HandedBack, LanesDriven, RowsDriven, any_plate, refused_house}
use Rattle.house.proofs.DrivingLaws.{driven-refused}
use Rattle.house.specs.declared.House.{House}

-- Lanes and reports

module _ (lanes reports : ℕ) where
  pub driven-unequal : (lanes ≡ reports → ⊥) → 0 ≡ driven_lanes lanes reports
  unfolding driven_lanes drivable
  driven-unequal apart = rw (ne_eqb lanes reports apart, and-false, and-false)

  pub driven-many : 64 < lanes → 0 ≡ driven_lanes lanes reports
  unfolding driven_lanes drivable
  driven-many many = rw (le-ltb lanes 65 many, and-false)

  pub driven-all : lanes ≡ reports → lanes ≤ 64 → lanes ≡ driven_lanes lanes reports
  unfolding driven_lanes drivable
  driven-all same few = rw (eq-eqb lanes reports same, lt-ltb lanes 65 (omega arith)) (go (ltb 0 lanes) refl)
    where
      go : (b : Bool) → ltb 0 lanes ≡ b → lanes ≡ cond (b && true) lanes 0
      go true e = refl
      go false e = omega (arith, ltb-false 0 lanes e)

-- 20: the test and the condition
pub drivable-or-not : (lanes reports : ℕ)
    → ((drivable lanes reports ≡ true) × Drivable lanes reports) ⊎ ((drivable lanes reports ≡ false) × NotDrivable lanes reports)
unfolding drivable
drivable-or-not lanes reports = go (ltb 0 lanes) (ltb lanes 65) (eqb lanes reports) refl refl refl
  where
    go : (a b c : Bool) → ltb 0 lanes ≡ a → ltb lanes 65 ≡ b → eqb lanes reports ≡ c
        → (((a && (b && c)) ≡ true) × Drivable lanes reports) ⊎ (((a && (b && c)) ≡ false) × NotDrivable lanes reports)
    go true true true p q r = inl (refl, record { some = ltb-true 0 lanes p; few = omega (arith, ltb-true lanes 65 q); paired = eqb-true lanes reports r })
    go true true false p q r = inr (refl, inr (inr (eqb-false lanes reports r)))
    go true false c p q r = inr (refl, inr (inl (ltb-false lanes 65 q)))
    go false b c p q r = inr (refl, inl (omega (arith, ltb-false 0 lanes p)))

pub not-both : {lanes reports : ℕ} → Drivable lanes reports → NotDrivable lanes reports → ⊥
not-both d (inl none) = omega (arith, d.some)
not-both d (inr (inl many)) = omega (arith, d.few)
not-both d (inr (inr apart)) = apart d.paired

pub drivable-true : {lanes reports : ℕ} → Drivable lanes reports → drivable lanes reports ≡ true
drivable-true {lanes} {reports} d = ⊎_elim (λ w. w.0) (λ w. absurd (not-both d w.1)) (drivable-or-not lanes reports)

pub drivable-false : {lanes reports : ℕ} → NotDrivable lanes reports → drivable lanes reports ≡ false
drivable-false {lanes} {reports} n = ⊎_elim (λ w. absurd (not-both w.1 n)) (λ w. w.0) (drivable-or-not lanes reports)

module _ (lanes reports : ℕ) where
  pub drivable-is : drivable lanes reports ≡ true → Drivable lanes reports
  drivable-is e = ⊎_elim (λ w. w.1) (λ w. let q = w.0 in let z : ◌≡◌ {A = ℕ} 0 1 = cc in absurd (omega arith)) (drivable-or-not lanes reports)

  -- none are driven exactly where they are not drivable
  pub not-drivable : driven_lanes lanes reports ≡ 0 → drivable lanes reports ≡ false
  unfolding driven_lanes
  not-drivable none = ⊎_elim (λ w. let all = rw w.0 at none in absurd (omega (arith, w.1.some))) (λ w. w.0) (drivable-or-not lanes reports)

  pub some-drivable : (driven_lanes lanes reports ≡ 0 → ⊥) → Drivable lanes reports
  unfolding driven_lanes
  some-drivable some = ⊎_elim (λ w. w.1) (λ w. absurd (some (rw w.0))) (drivable-or-not lanes reports)

-- From a chart's rows

module _ {n m : ℕ} {owners marks costs froms tos : List ℕ} (runs : List Run) (lanes : ℕ) (reports : List ℕ) {plate : List ℕ} {c : Result ⊤ Refusal}
    (is : PlateIs n m owners marks costs froms tos plate c) where
  pub rows-refused : (x : Refusal) → c ≡ Err x → RowsDriven n m owners marks costs froms tos runs lanes reports plate (refused_house runs 0 x)
  unfolding checked_answer
  rows-refused x e = record {
    driven = λ a d.
        driven-refused (any_plate a n plate) runs lanes reports 0 x (ap (checked_answer (any_plate a n plate) runs reports lanes) (sym e ∙ is.answer a d));
  }

  pub rows-accepted : {r : House} → c ≡ Ok tt → LanesDriven n m owners costs froms tos runs lanes reports plate r → RowsDriven n m owners marks costs froms tos runs lanes reports plate r
  unfolding checked_answer plate_checked reported_form
  rows-accepted {r} e h = record { driven = go }
    where
      sound : (v : Result ⊤ FoundFault) → (Ok tt) ≡ answer_of v → v ≡ Ok tt
      sound (Ok _) z = refl
      sound (Err f) z = let w : ◌≡◌ {A = ℕ} 0 1 = cc in absurd (omega arith)

      go : (a : Arena) → RowsOf a n m owners marks costs froms tos
          → HandedBack (any_plate a n plate) runs lanes reports (checked_answer (any_plate a n plate) runs reports lanes (plate_checked a plate (form_of n plate))) r
      go a d =
          let form = accepted-form a d is e in
          let no-fault = sound (plate_verdict a plate) (sym e ∙ is.answer a d ∙ ap (plate_checked a plate) form) in
          subst
          (λ (f : Result ⊤ ℕ).
          HandedBack (λ run to. reported_form run a plate to f) runs lanes reports (checked_answer (λ run to. reported_form run a plate to f) runs reports lanes (plate_checked a plate f)) r)
          (sym form) (rw no-fault (h.driven a marks d no-fault))

-- From two texts

module _ (runs : List Run) (lanes : ℕ) (reports text plate : List ℕ) where
  drive-is : {r : House} → HandedBack (singly text plate) runs lanes reports (house_answer runs reports text plate lanes) r → DriveIs runs lanes reports text plate r
  drive-is h = record { answer = h.answer; written = h.written; count = h.count; records = h.records }

  pub drive-undrivable : drivable lanes (length reports) ≡ false → DriveIs runs lanes reports text plate (refused_house runs 0 Lanes)
  unfolding house_answer
  drive-undrivable e = drive-is (driven-refused (singly text plate) runs lanes reports 0 Lanes (rw e))

  module _ (can : drivable lanes (length reports) ≡ true) where
    pub drive-refused : (x : Misdrawn) → examined text ≡ Err x → DriveIs runs lanes reports text plate (refused_house runs 0 (OfChart x))
    unfolding house_answer checked_answer
    drive-refused x e = drive-is (driven-refused (singly text plate) runs lanes reports 0 (OfChart x) (rw (can, ← refused-answer text plate x e)))

    pub drive-taken : (chart : Chart) {r : House} {owners marks costs froms tos : List ℕ} → examined text ≡ Ok chart
        → RowsOf (arena_of text) chart.positions chart.moves owners marks costs froms tos
        → RowsDriven chart.positions chart.moves owners marks costs froms tos runs lanes reports plate r → DriveIs runs lanes reports text plate r
    unfolding house_answer reported reported_by checked chart_checked
    drive-taken chart {r} e d h =
        drive-is
        (rw can
        (subst (λ (x : Result Chart Misdrawn). HandedBack (λ run to. reported_by run text plate to x) runs lanes reports (checked_answer (λ run to. reported_by run text plate to x) runs reports lanes (chart_checked text plate x)) r) (sym e)
        (h.driven (arena_of text) d)))
