-- A lent house is driven by way of a row of 64: its first records are copied there, that house is driven, and as many records as it then has to
-- be put back are copied back. This is a report of the lent house, since a house's answer looks at no record past its lanes.
use Prim.Native.Nat.{ℕ, zero, suc, ◌≤◌, ◌<◌}
use Rattle.std.proofs.Math.Decide.{dec_lt}
use Rattle.std.proofs.Common.{eq-or-lt_of_le, sym, ◌∙◌, get_or-set_same}
use native.Mathlib.Omega.{arith}
use Rattle.std.proofs.Math.Path.{◌≡◌, refl, ap, subst}
use Rattle.std.proofs.Math.Logic.{⊎_elim}
use Rattle.std.specs.Prelude.{Bool, List, length, set, ⊤, Result, Ok, Err}
use Rattle.std.proofs.Math.Bool.{true, false, cond}
use Rattle.std.proofs.Math.ListN.{get_or}
use Rattle.std.proofs.Math.Seq.{get_or-set_other}
use Rattle.search.proofs.FirstLaws.{first-same}
use Rattle.refusal.specs.declared.Refusal.TheVariants.{Lanes}
use Rattle.checking.specs.Checking.{checked}
use Rattle.run.specs.Running.{no_run}
use Rattle.run.specs.declared.Run.{Run}
use Rattle.run.specs.declared.Reported.{Reported}
use Rattle.house.specs.Housing.{DriveIs, HouseIs, checked_answer, drivable, driven_lanes, house_answer, lane_after, lane_moved, lane_passes, lane_refused, lane_reported, lanes_answer, singly, written_by}
use Rattle.house.specs.Copies.{copied, copied-length, no_runs}
use Rattle.house.proofs.HousingLaws.{drivable-is}
use Rattle.house.proofs.DrivingLaws.{quiet-stays}
use Rattle.refusal.specs.declared.Refusal.{Refusal}
use Rattle.house.specs.declared.House.{House}

-- Copies

module _ (from to : List Run) where
  pub copied-past : (i lane : ℕ) → i ≤ lane → get_or (copied from to i) lane no_run ≡ get_or to lane no_run
  unfolding copied
  copied-past zero lane l = refl
  copied-past (suc i) lane l = get_or-set_other (copied from to i) i lane _ no_run (λ e. absurd (omega (arith, e))) ∙ copied-past i lane (omega arith)

  pub copied-below : (i lane : ℕ) → lane < i → i ≤ length to → get_or (copied from to i) lane no_run ≡ get_or from lane no_run
  unfolding copied
  copied-below zero lane l h = absurd (omega arith)
  copied-below (suc i) lane l h =
      ⊎_elim
      (λ e. subst (λ (k : ℕ). get_or (set (copied from to i) i (get_or from i no_run)) k no_run ≡ get_or from k no_run) (sym e) (get_or-set_same (copied from to i) i (get_or from i no_run) no_run (omega (arith, copied-length from to i))))
      (λ less. get_or-set_other (copied from to i) i lane (get_or from i no_run) no_run (λ e. absurd (omega (arith, e))) ∙ copied-below i lane less (omega arith))
      (eq-or-lt_of_le within)
    where
      within : lane ≤ i
      within = omega arith

-- Two houses that have the same first records

module _ (single : Run → ℕ → Reported) (held runs : List Run) (reports : List ℕ) (lanes : ℕ) (same : (lane : ℕ) → lane < lanes → get_or held lane no_run ≡ get_or runs lane no_run) where
  lane-same : (lane : ℕ) → lane < lanes → lane_reported single held reports lane ≡ lane_reported single runs reports lane
  unfolding lane_reported
  lane-same lane l = rw (same lane l)

  moved_same : (lane : ℕ) → lane < lanes → lane_moved single held reports lane ≡ lane_moved single runs reports lane
  unfolding lane_moved
  moved_same lane l = rw (lane-same lane l, same lane l)

  answer-same : (c : Result ⊤ Refusal) → checked_answer single held reports lanes c ≡ checked_answer single runs reports lanes c
  unfolding checked_answer lanes_answer lane_passes lane_refused
  answer-same (Err x) = refl
  answer-same (Ok _) = first-same _ _ _ _ _ lanes 0 (λ lane low high. (rw (lane-same lane (omega arith)), rw (lane-same lane (omega arith))))

-- The lent house

module _ (runs : List Run) (reports : List ℕ) where
  abbrev lanes : ℕ
  lanes = length runs

  abbrev count : ℕ
  count = driven_lanes lanes (length reports)

  -- what is copied fits
  pub count_fits : (count ≤ lanes) × (count ≤ 64)
  unfolding driven_lanes
  count_fits = go (drivable lanes (length reports)) refl
    where
      go : (b : Bool) → drivable lanes (length reports) ≡ b → (cond b lanes 0 ≤ lanes) × (cond b lanes 0 ≤ 64)
      go true e = (omega arith, (drivable-is lanes (length reports) e).few)
      go false e = (omega arith, omega arith)

  abbrev held : List Run
  held = copied runs no_runs count

  module _ (text plate : List ℕ) (h : House) (is : DriveIs held lanes reports text plate h) where
    driven-same : drivable lanes (length reports) ≡ true → (lane : ℕ) → lane < lanes → get_or held lane no_run ≡ get_or runs lane no_run
    unfolding driven_lanes
    driven-same e lane l = copied-below runs no_runs count lane (rw e l) count_fits.1

    house-same : house_answer held reports text plate lanes ≡ house_answer runs reports text plate lanes
    unfolding house_answer
    house-same = go (drivable lanes (length reports)) refl
      where
        go : (b : Bool) → drivable lanes (length reports) ≡ b
            → cond b (checked_answer (singly text plate) held reports lanes (checked text plate)) (Err (0, Lanes)) ≡ cond b (checked_answer (singly text plate) runs reports lanes (checked text plate)) (Err (0, Lanes))
        go true e = answer-same (singly text plate) held runs reports lanes (driven-same e) (checked text plate)
        go false e = refl

    answered : h.answer ≡ house_answer runs reports text plate lanes
    answered = is.answer ∙ house-same

    -- an answer that counts was given to a house that is driven
    moved-drivable : (c : ℕ) → h.answer ≡ Ok c → drivable lanes (length reports) ≡ true
    unfolding house_answer
    moved-drivable c e = go (drivable lanes (length reports)) (sym e ∙ answered)
      where
        go : (b : Bool) → Ok c ≡ cond b (checked_answer (singly text plate) runs reports lanes (checked text plate)) (Err (0, Lanes)) → b ≡ true
        go true z = refl
        go false z = let w : ◌≡◌ {A = ℕ} 0 1 = cc in absurd (omega arith)

    -- what is copied back fits
    pub written-fits : (h.written ≤ lanes) × (h.written ≤ 64)
    unfolding written_by
    written-fits = go h.answer refl
      where
        go : (r : Result ℕ (ℕ × Refusal)) → h.answer ≡ r → (h.written ≤ lanes) × (h.written ≤ 64)
        go (Err (at, x)) e = let z = is.written ∙ ap (written_by lanes) e in (omega (arith, z), omega (arith, z))
        go (Ok c) e =
            let z = is.written ∙ ap (written_by lanes) e in
            let few = (drivable-is lanes (length reports) (moved-drivable c e)).few in
            (omega (arith, z), omega (arith, z))

    records-after : (lane : ℕ) → get_or (copied h.runs runs h.written) lane no_run ≡ lane_after (singly text plate) runs reports h.answer lane
    unfolding written_by lane_after
    records-after lane = go h.answer refl
      where
        go : (r : Result ℕ (ℕ × Refusal)) → h.answer ≡ r → get_or (copied h.runs runs h.written) lane no_run ≡ lane_after (singly text plate) runs reports r lane
        go (Err (at, x)) e = rw (is.written, e) (copied-past h.runs runs 0 lane (omega arith))
        go (Ok c) e = rw (is.written, e) (by (dec_lt lane lanes))
          where
            can : drivable lanes (length reports) ≡ true
            can = moved-drivable c e

            by : Dec (lane < lanes) → get_or (copied h.runs runs lanes) lane no_run ≡ lane_moved (singly text plate) runs reports lane
            by (yes l) =
                copied-below h.runs runs lanes lane l (omega arith) ∙ is.records lane ∙ ap (λ (r : Result ℕ (ℕ × Refusal)). lane_after (singly text plate) held reports r lane) e
                ∙ moved_same (singly text plate) held runs reports lanes (driven-same can) lane l
            by (no past) = copied-past h.runs runs lanes lane (omega arith) ∙ quiet-stays (singly text plate) runs reports lane (omega (arith, (drivable-is lanes (length reports) can).paired))

    pub lent-house : HouseIs runs reports text plate (copied h.runs runs h.written) h.answer
    lent-house = record { answer = answered; count = copied-length h.runs runs h.written; records = records-after }
