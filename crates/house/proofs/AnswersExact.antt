-- Each answer of a house is given exactly when its condition holds. Forward, by cases on the test for 20, Checking's answer and the first
-- lane whose test fails, if there is one; backward, the condition settles each of these in turn.
use Rattle.std.specs.Prelude.{ℕ, ◌<◌, ◌≡◌, ◌⊎◌, ◌↔◌, Bool, true, false, not, cond, List, length, get_or, eqb, ⊤, Result, Ok, Err}
use Rattle.std.proofs.Common.{arith, sym, ◌∙◌, inl, eqb-true}
use Rattle.std.proofs.Math.Path.{refl, ap, subst}
use Rattle.std.proofs.Math.Logic.{inr, ⊎_elim}
use Rattle.std.proofs.lemmas.Bool.{eqb-false}
use Rattle.search.specs.Below.{count_below}
use Rattle.search.specs.First.{AllPass, FirstAt}
use Rattle.search.proofs.FirstLaws.{first_or_none, first-none, first-at}
use Rattle.refusal.specs.declared.Refusal.{Refusal}
use Rattle.refusal.specs.declared.Refusal.TheVariants.{Lanes, Chart as OfChart, NotSmall, Short, Plate, Choice, Position, Ever, Fault, Held, Move, Seen}
use Rattle.checking.specs.Answers.{AcceptedIs, RefusedIs}
use Rattle.checking.specs.AnswersExact.{answer-exactly}
use Rattle.checking.specs.Checking.{checked}
use Rattle.run.specs.Running.{no_run, reported}
use Rattle.run.specs.Answers.{ReportRefused}
use Rattle.run.proofs.AnswersExact.{report-refused-exactly}
use Rattle.run.specs.declared.Run.{Run}
use Rattle.house.specs.Housing.{checked_answer, house_answer, lane_passes, lane_refused, lane_reported, lanes_answer, refused_at, reporting, singly, taken}
use Rattle.house.specs.Answers.{Drivable, Driven, HouseAnswerIs, LaneRefused, NotRefused, OfLane, Reports}
use Rattle.run.specs.declared.Advice.{Advice}
use Rattle.house.proofs.HousingLaws.{drivable-false, drivable-or-not, drivable-true}

-- the test of a lane's report and the condition
reports-or-not : (reports : List ℕ) (lane : ℕ)
    → ((reporting reports lane ≡ true) × Reports reports lane) ⊎ ((reporting reports lane ≡ false) × (Reports reports lane → ⊥))
unfolding reporting
reports-or-not reports lane = go (eqb (get_or reports lane 65535) 65535) refl
  where
    go : (b : Bool) → eqb (get_or reports lane 65535) 65535 ≡ b
        → ((not b ≡ true) × Reports reports lane) ⊎ ((not b ≡ false) × (Reports reports lane → ⊥))
    go true e = inr (refl, λ apart. apart (eqb-true (get_or reports lane 65535) 65535 e))
    go false e = inl (refl, eqb-false (get_or reports lane 65535) 65535 e)

-- Checking's answer is one
pub accepted-not-refused : (text plate : List ℕ) (x : Refusal) → AcceptedIs text plate → RefusedIs text plate x → ⊥
accepted-not-refused text plate x is h =
    let p = (answer-exactly text plate (Ok tt)).1 is in
    let q = (answer-exactly text plate (Err x)).1 h in
    let z : ◌≡◌ {A = ℕ} 0 1 = cc in
    omega arith

-- so on an accepted plate a single report gives 13, 18, 15 or 16
pub accepted-lane-gives : (run : Run) (text plate : List ℕ) (to : ℕ) (x : Refusal) → AcceptedIs text plate → ReportRefused run text plate to x → OfLane x
accepted-lane-gives run text plate to Position is h = tt
accepted-lane-gives run text plate to Held is h = tt
accepted-lane-gives run text plate to Move is h = tt
accepted-lane-gives run text plate to Seen is h = tt
accepted-lane-gives run text plate to (OfChart r) is h = accepted-not-refused text plate (OfChart r) is h
accepted-lane-gives run text plate to (Plate line) is h = accepted-not-refused text plate (Plate line) is h
accepted-lane-gives run text plate to (Fault v c) is h = accepted-not-refused text plate (Fault v c) is h.0
accepted-lane-gives run text plate to Lanes is h = h
accepted-lane-gives run text plate to NotSmall is h = h
accepted-lane-gives run text plate to Short is h = h
accepted-lane-gives run text plate to Choice is h = h
accepted-lane-gives run text plate to Ever is h = h

module _ (runs : List Run) (reports text plate : List ℕ) where
  abbrev passes : ℕ → Bool
  passes = lane_passes (singly text plate) runs reports

  abbrev refusal : ℕ → Result ℕ (ℕ × Refusal)
  refusal = lane_refused (singly text plate) runs reports

  abbrev Is : Result ℕ (ℕ × Refusal) → Type 0
  Is = HouseAnswerIs runs reports text plate

  abbrev answer_at : ℕ → Result Advice Refusal
  answer_at lane = (reported (get_or runs lane no_run) text plate (get_or reports lane 65535)).answer

  -- the test of a lane and the condition
  passes-or-not : (lane : ℕ) → ((passes lane ≡ true) × NotRefused runs reports text plate lane)
      ⊎ ((passes lane ≡ false) × Reports reports lane × ((x : Refusal) × LaneRefused runs reports text plate lane x))
  unfolding lane_passes lane_reported taken
  passes-or-not lane = go (reporting reports lane) (answer_at lane) (reports-or-not reports lane) refl
    where
      refused : (x : Refusal) → (answer_at lane ≡ Err x) ↔ LaneRefused runs reports text plate lane x
      refused = report-refused-exactly (get_or runs lane no_run) text plate (get_or reports lane 65535)

      go : (b : Bool) (a : Result Advice Refusal) → ((b ≡ true) × Reports reports lane) ⊎ ((b ≡ false) × (Reports reports lane → ⊥)) → answer_at lane ≡ a
          → ((cond b (taken a) true ≡ true) × NotRefused runs reports text plate lane)
          ⊎ ((cond b (taken a) true ≡ false) × Reports reports lane × ((x : Refusal) × LaneRefused runs reports text plate lane x))
      go b a (inr (e, silent)) z = inl (rw e, λ here. absurd (silent here))
      go b (Err x) (inl (e, here)) z = inr (rw e, here, (x, (refused x).0 z))
      go b (Ok advice) (inl (e, here)) z = inl (rw e, λ h x k. let q = (refused x).1 k in let w : ◌≡◌ {A = ℕ} 0 1 = cc in omega arith)

  free-passes : (lane : ℕ) → NotRefused runs reports text plate lane → passes lane ≡ true
  free-passes lane free = ⊎_elim (λ w. w.0) (λ w. absurd (free w.1 w.2.0 w.2.1)) (passes-or-not lane)

  refused-fails : (lane : ℕ) (x : Refusal) → Reports reports lane → LaneRefused runs reports text plate lane x → passes lane ≡ false
  refused-fails lane x here h = ⊎_elim (λ w. absurd (w.1 here x h)) (λ w. w.0) (passes-or-not lane)

  lane-refused : (lane : ℕ) (x : Refusal) → LaneRefused runs reports text plate lane x → refusal lane ≡ Err (lane, x)
  unfolding lane_refused lane_reported refused_at
  lane-refused lane x h = ap (refused_at lane) ((report-refused-exactly (get_or runs lane no_run) text plate (get_or reports lane 65535) x).1 h)

  -- forward
  of-lanes : Driven runs reports text plate → Is (lanes_answer (singly text plate) runs reports (length runs))
  unfolding lanes_answer
  of-lanes driven =
      ⊎_elim (λ all. subst Is (sym (first-none passes refusal moved (length runs) 0 all)) (record { driven = driven; free = free all; counts = refl }))
      (λ w. refused w.0 w.1)
      (first_or_none passes (length runs) 0)
    where
      moved : Result ℕ (ℕ × Refusal)
      moved = Ok (count_below (reporting reports) (length runs))

      passed : (lane : ℕ) → passes lane ≡ true → NotRefused runs reports text plate lane
      passed lane e = ⊎_elim (λ w. w.1) (λ w. let q = w.0 in let z : ◌≡◌ {A = ℕ} 0 1 = cc in absurd (omega arith)) (passes-or-not lane)

      free : AllPass passes (length runs) 0 → (lane : ℕ) → lane < length runs → NotRefused runs reports text plate lane
      free all lane l = passed lane (all lane (omega arith) (omega arith))

      refused : (lane : ℕ) → FirstAt passes (length runs) 0 lane → Is (lanes_answer (singly text plate) runs reports (length runs))
      refused lane w =
          ⊎_elim (λ v. let p = v.0 in let q = w.fails in let z : ◌≡◌ {A = ℕ} 0 1 = cc in absurd (omega arith))
          (λ v.
          subst Is (sym (first-at passes refusal moved (length runs) 0 lane w ∙ lane-refused lane v.2.0 v.2.1))
          (inr (inr (record {
            driven = driven;
            inside = omega (arith, w.high);
            reports-here = v.1;
            refused = v.2.1;
            lowest = λ k l. passed k (w.passed k (omega arith) l);
          }))))
          (passes-or-not lane)

  of-checked : Drivable (length runs) (length reports) → (c : Result ⊤ Refusal) → checked text plate ≡ c → Is (checked_answer (singly text plate) runs reports (length runs) c)
  unfolding checked_answer
  of-checked d (Err x) e = inr (inl (refl, d, (answer-exactly text plate (Err x)).0 e))
  of-checked d (Ok _) e = of-lanes (record { drivable = d; accepted = (answer-exactly text plate (Ok tt)).0 e })

  answered : Is (house_answer runs reports text plate (length runs))
  unfolding house_answer
  answered =
      ⊎_elim (λ w. rw w.0 (of-checked w.1 (checked text plate) refl)) (λ w. rw w.0 (inl (refl, refl, w.1))) (drivable-or-not (length runs) (length reports))

  -- backward
  driven-answer : Driven runs reports text plate → house_answer runs reports text plate (length runs) ≡ lanes_answer (singly text plate) runs reports (length runs)
  unfolding house_answer checked_answer
  driven-answer w = rw (drivable-true w.drivable, (answer-exactly text plate (Ok tt)).1 w.accepted)

  from : (r : Result ℕ (ℕ × Refusal)) → Is r → house_answer runs reports text plate (length runs) ≡ r
  unfolding house_answer checked_answer lanes_answer
  from (Ok count) w =
      driven-answer w.driven
      ∙ first-none passes refusal _ (length runs) 0 (λ lane l m. free-passes lane (w.free lane (omega arith)))
      ∙ ap Ok (sym w.counts)
  from (Err (lane, x)) (inl (here, only, apart)) = rw (here, only, drivable-false apart)
  from (Err (lane, x)) (inr (inl (here, d, h))) = rw (here, drivable-true d, (answer-exactly text plate (Err x)).1 h)
  from (Err (lane, x)) (inr (inr w)) =
      driven-answer w.driven
      ∙ first-at passes refusal _ (length runs) 0 lane (record {
        low = omega arith;
        high = omega (arith, w.inside);
        fails = refused-fails lane x w.reports-here w.refused;
        passed = λ k l m. free-passes k (w.lowest k m);
      })
      ∙ lane-refused lane x w.refused

  pub house-exactly : (r : Result ℕ (ℕ × Refusal)) → (house_answer runs reports text plate (length runs) ≡ r) ↔ Is r
  house-exactly r = (
    λ e. subst Is e answered,
    from r,
  )
