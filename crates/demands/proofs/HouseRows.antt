-- The first demand's rows of a house. Its answers' conditions (house/specs/Answers.antt) are the rows' in other words: 20 and Checking's rows say
-- whether the house is driven, and where it is, each lane's own rows whether the lane is refused.
use Rattle.std.specs.Prelude.{ℕ, ◌≡◌, refl, ◌⊎◌, ◌↔◌, List, length, get_or, ⊤, Result, Ok, Err}
use Rattle.std.proofs.Common.{sym, ◌∙◌}
use Rattle.std.proofs.Math.Path.{ap}
use Rattle.std.proofs.Math.Logic.{inl, inr, ⊎_elim}
use Rattle.std.proofs.Math.Seq.{ext_get_or}
use Rattle.search.specs.Below.{count_below}
use Rattle.refusal.specs.declared.Refusal.{Refusal}
use Rattle.refusal.specs.declared.Refusal.TheVariants.{Lanes}
use Rattle.checking.specs.Answers.{AcceptedIs, RefusedIs}
use Rattle.checking.specs.AnswersExact.{answer-exactly}
use Rattle.checking.specs.Checking.{checked}
use Rattle.run.specs.Running.{no_run}
use Rattle.run.proofs.AnswersExact.{report-refused-exactly}
use Rattle.run.specs.declared.Run.{Run}
use Rattle.house.specs.Housing.{HouseIs, lane_after, reporting, singly}
use Rattle.house.specs.Answers.{AllMove, Drivable, Driven, HouseAnswerIs, HouseRefused as HouseRefusedIs, LaneRefused, LowestRefused, NotDrivable, NotRefused, Reports}
use Rattle.house.proofs.AnswersExact.{accepted-not-refused, house-exactly}
use Rattle.house.proofs.HousingLaws.{drivable-or-not, not-both}
use Rattle.demands.proofs.RowLaws.{clear-refuses-none}
use Rattle.demands.proofs.ReportRows.{checking-settled, lane-settled}
use Rattle.demands.specs.Demand1.{AllClear, Clear, HouseExact, LaneRefusedBy, RefusedBy, checking_rows, house_rows, rows_at}

-- Checking's rows and its conditions
module _ (text plate : List ℕ) where
  refused-rows : (x : Refusal) → RefusedIs text plate x ↔ RefusedBy (checking_rows text plate) x
  refused-rows x =
      let by = (checking-settled text plate).exactly x in
      let is = answer-exactly text plate (Err x) in
      (λ h. by.0 (is.1 h), λ h. is.0 (by.1 h))

  accepted-clear : AcceptedIs text plate ↔ Clear (checking_rows text plate)
  accepted-clear = (
    λ is. (checking-settled text plate).taken (λ x q. accepted-not-refused text plate x is ((answer-exactly text plate (Err x)).0 q)),
    λ clear. go clear (checked text plate) refl,
  )
    where
      go : Clear (checking_rows text plate) → (c : Result ⊤ Refusal) → checked text plate ≡ c → AcceptedIs text plate
      go clear (Ok _) e = (answer-exactly text plate (Ok tt)).0 e
      go clear (Err x) e = absurd (clear-refuses-none (checking_rows text plate) clear x (((checking-settled text plate).exactly x).0 e))

module _ (runs : List Run) (reports text plate : List ℕ) where
  -- the house's rows
  not-twenty : ((y : Refusal) → (y ≡ Lanes) × NotDrivable (length runs) (length reports) → ⊥) → Drivable (length runs) (length reports)
  not-twenty none = ⊎_elim (λ w. w.1) (λ w. absurd (none Lanes (refl, w.1))) (drivable-or-not (length runs) (length reports))

  driven-clear : Driven runs reports text plate ↔ Clear (house_rows runs reports text plate)
  unfolding Clear
  driven-clear = (
    λ w. (λ y h. not-both w.drivable h.1, (accepted-clear text plate).0 w.accepted),
    λ w. record { drivable = not-twenty w.0; accepted = (accepted-clear text plate).1 w.1 },
  )

  own-rows : (x : Refusal)
      → (((x ≡ Lanes) × NotDrivable (length runs) (length reports)) ⊎ (Drivable (length runs) (length reports) × RefusedIs text plate x))
      ↔ RefusedBy (house_rows runs reports text plate) x
  unfolding RefusedBy
  own-rows x = (
    ⊎_elim inl (λ w. inr (λ y h. not-both w.0 h.1, (refused-rows text plate x).0 w.1)),
    ⊎_elim inl (λ w. inr (not-twenty w.0, (refused-rows text plate x).1 w.1)),
  )

  -- a lane's rows
  module _ (is : AcceptedIs text plate) (lane : ℕ) where
    refused-at : (x : Refusal) → LaneRefused runs reports text plate lane x ↔ RefusedBy (rows_at runs reports text plate lane) x
    refused-at x =
        let by = (lane-settled (get_or runs lane no_run) text plate (get_or reports lane 65535) is).exactly x in
        let answer = report-refused-exactly (get_or runs lane no_run) text plate (get_or reports lane 65535) x in
        (λ h. by.0 (answer.1 h), λ h. answer.0 (by.1 h))

    free-clear : NotRefused runs reports text plate lane ↔ (Reports reports lane → Clear (rows_at runs reports text plate lane))
    free-clear = (
      λ free here.
          (lane-settled (get_or runs lane no_run) text plate (get_or reports lane 65535) is).taken
          (λ x q. free here x ((report-refused-exactly (get_or runs lane no_run) text plate (get_or reports lane 65535) x).0 q)),
      λ clear here x h. clear-refuses-none (rows_at runs reports text plate lane) (clear here) x ((refused-at x).0 h),
    )

  lowest-rows : (lane : ℕ) (x : Refusal) → LowestRefused runs reports text plate lane x ↔ LaneRefusedBy runs reports text plate lane x
  lowest-rows lane x = (
    λ w.
        let is = w.driven.accepted in
        record {
          clear = driven-clear.0 w.driven;
          inside = w.inside;
          reports-here = w.reports-here;
          refused = (refused-at is lane x).0 w.refused;
          lower = λ k l. (free-clear is k).0 (w.lowest k l);
        },
    λ w.
        let driven = driven-clear.1 w.clear in
        record {
          driven = driven;
          inside = w.inside;
          reports-here = w.reports-here;
          refused = (refused-at driven.accepted lane x).1 w.refused;
          lowest = λ k l. (free-clear driven.accepted k).1 (w.lower k l);
        },
  )

  refused-by-rows : (lane : ℕ) (x : Refusal) → HouseRefusedIs runs reports text plate lane x
      ↔ (((lane ≡ 0) × RefusedBy (house_rows runs reports text plate) x) ⊎ LaneRefusedBy runs reports text plate lane x)
  refused-by-rows lane x = (
    ⊎_elim (λ w. inl (w.0, (own-rows x).0 (inl (w.1, w.2))))
        (⊎_elim (λ w. inl (w.0, (own-rows x).0 (inr (w.1, w.2)))) (λ w. inr ((lowest-rows lane x).0 w))),
    ⊎_elim (λ w. ⊎_elim (λ h. inl (w.0, h.0, h.1)) (λ h. inr (inl (w.0, h.0, h.1))) ((own-rows x).1 w.1)) (λ w. inr (inr ((lowest-rows lane x).1 w))),
  )

  moved-by-rows : (moved : ℕ) → AllMove runs reports text plate moved ↔ (AllClear runs reports text plate × (moved ≡ count_below (reporting reports) (length runs)))
  moved-by-rows moved = (
    λ w.
        let is = w.driven.accepted in
        (record { clear = driven-clear.0 w.driven; lanes = λ lane l. (free-clear is lane).0 (w.free lane l) }, w.counts),
    λ (w, e).
        let driven = driven-clear.1 w.clear in
        record { driven = driven; free = λ lane l. (free-clear driven.accepted lane).1 (w.lanes lane l); counts = e },
  )

  pub house-exact : {after : List Run} {r : Result ℕ (ℕ × Refusal)} → HouseIs runs reports text plate after r → HouseExact runs after reports text plate r
  unfolding lane_after
  house-exact {after} {r} is =
      record {
        exactly = λ lane x. (λ e. (refused-by-rows lane x).0 ((answered (Err (lane, x))).0 e), λ h. (answered (Err (lane, x))).1 ((refused-by-rows lane x).1 h));
        taken = λ moved. (λ e. (moved-by-rows moved).0 ((answered (Ok moved)).0 e), λ h. (answered (Ok moved)).1 ((moved-by-rows moved).1 h));
        unchanged = λ lane x e.
            ext_get_or no_run after runs is.count
            (λ i l. is.records i ∙ ap (λ (a : Result ℕ (ℕ × Refusal)). lane_after (singly text plate) runs reports a i) e);
      }
    where
      answered : (a : Result ℕ (ℕ × Refusal)) → (r ≡ a) ↔ HouseAnswerIs runs reports text plate a
      answered a = (λ e. (house-exactly runs reports text plate a).0 (sym is.answer ∙ e), λ h. is.answer ∙ (house-exactly runs reports text plate a).1 h)
