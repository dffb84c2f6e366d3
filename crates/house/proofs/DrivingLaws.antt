-- The lanes of a house, one after the other: what is known before each lane, and what each lane makes of it.
use Rattle.std.specs.Prelude.{ℕ, ◌+◌, ◌-◌, ◌≤◌, ◌<◌, ◌≡◌, refl, true, false, List, length, get_or, set, Result, Ok, Err}
use Rattle.std.proofs.Math.Nat.{sub-zero}
use Rattle.std.proofs.Math.Decide.{dec_lt}
use Rattle.std.proofs.Common.{arith, ap, ◌∙◌, length-set, get_or-set_same, below_more, eq-eqb, ne_eqb}
use Rattle.std.proofs.Math.Path.{sym}
use Rattle.std.proofs.Math.ListN.{get_or-eq_default}
use Rattle.std.proofs.Math.Seq.{get_or-set_other}
use Rattle.std.proofs.lemmas.List.{set-get_or}
use Rattle.search.specs.Below.{count_below, count-bound, count_next}
use Rattle.search.specs.First.{first_from}
use Rattle.search.proofs.FirstLaws.{first_next, first-stop, first_done}
use Rattle.rows.specs.Rows.{RowsOf}
use Rattle.game.specs.Arena.{Arena}
use Rattle.refusal.specs.declared.Refusal.{Refusal}
use Rattle.checking.specs.Checking.{plate_verdict}
use Rattle.run.specs.Running.{CheckedReport, no_run}
use Rattle.run.specs.declared.Advice.{Advice}
use Rattle.run.specs.declared.Run.{Run}
use Rattle.run.specs.declared.Reported.{Reported}
use Rattle.house.specs.Housing.{lane_after, lane_moved, lane_passes, lane_refused, lane_reported, lanes_answer, refused_at, reporting, taken, written_by}
use Rattle.house.specs.Driving.{HandedBack, LanesDriven, inside, refused_house}

-- within a list, what stands past its end doesn't matter
within-list : {A : Type 0} (l : List A) (i : ℕ) (d e : A) → i < length l → get_or l i d ≡ get_or l i e
within-list l i d e h = ap (λ (k : List _). get_or k i d) (sym (set-get_or l i e)) ∙ get_or-set_same l i (get_or l i e) d h

-- whether a lane reports, by the number that is read
module _ (reports : List ℕ) (lane : ℕ) (l : lane < length reports) where
  quiet : get_or reports lane 0 ≡ 65535 → reporting reports lane ≡ false
  unfolding reporting
  quiet e = rw (eq-eqb (get_or reports lane 65535) 65535 (within-list reports lane 65535 0 l ∙ e))

  reports-one : (get_or reports lane 0 ≡ 65535 → ⊥) → reporting reports lane ≡ true
  unfolding reporting
  reports-one apart = rw (ne_eqb (get_or reports lane 65535) 65535 (λ e. apart (within-list reports lane 0 65535 l ∙ e)))

-- past the row no lane reports
quiet-past : (reports : List ℕ) (lane : ℕ) → length reports ≤ lane → reporting reports lane ≡ false
unfolding reporting
quiet-past reports lane l = rw (eq-eqb (get_or reports lane 65535) 65535 (get_or-eq_default reports 65535 l))

pub quiet-stays : (single : Run → ℕ → Reported) (runs : List Run) (reports : List ℕ) (lane : ℕ) → length reports ≤ lane → get_or runs lane no_run ≡ lane_moved single runs reports lane
unfolding lane_moved
quiet-stays single runs reports lane l = rw (quiet-past reports lane l)

-- The lanes below `lane` have passed: what is answered is found from there on, and their records are moved.
module _ (single : Run → ℕ → Reported) (runs : List Run) (reports : List ℕ) (lanes : ℕ) where
  pub record Passed (after : List Run) (lane : ℕ) : Type 0 where
    pub answer : first_from (lane_passes single runs reports) (lane_refused single runs reports) (Ok (count_below (reporting reports) lanes)) (lanes - lane) lane
        ≡ lanes_answer single runs reports lanes
    pub records : (i : ℕ) → i < lane → get_or after i no_run ≡ lane_moved single runs reports i

  none_passed : (after : List Run) → Passed after 0
  unfolding lanes_answer
  none_passed after = record { answer = rw sub-zero; records = λ i l. absurd (omega arith) }

  module _ {after : List Run} {lane : ℕ} (l : lane < lanes) (h : Passed after lane) where
    next-passed : (later : List Run) → lane_passes single runs reports lane ≡ true → ((i : ℕ) → i < lane → get_or later i no_run ≡ get_or after i no_run)
        → get_or later lane no_run ≡ lane_moved single runs reports lane → Passed later (lane + 1)
    next-passed later e kept here = record {
      answer = first_next (lane_passes single runs reports) (lane_refused single runs reports) (Ok (count_below (reporting reports) lanes)) lanes lane l e ∙ h.answer;
      records = below_more (λ i. get_or later i no_run ≡ lane_moved single runs reports i) lane (λ i k. kept i k ∙ h.records i k) here;
    }

    quiet-passed : reporting reports lane ≡ false → get_or after lane no_run ≡ get_or runs lane no_run → Passed after (lane + 1)
    unfolding lane_passes lane_moved
    quiet-passed e stays = next-passed after (rw e) (λ i k. refl) (rw e stays)

    module _ (e : reporting reports lane ≡ true) {r : Reported} (is : r ≡ lane_reported single runs reports lane) where
      moved-passed : (advice : Advice) → r.answer ≡ Ok advice → lane < length after → Passed (set after lane r.run) (lane + 1)
      unfolding lane_passes lane_moved taken
      moved-passed advice told within =
          next-passed (set after lane r.run) (rw (e, ← is, told))
          (λ i k. get_or-set_other after lane i r.run no_run (λ same. omega (arith, same)))
          (get_or-set_same after lane r.run no_run within ∙ rw (e, ← is))

      refused-passed : (x : Refusal) → r.answer ≡ Err x → Err (lane, x) ≡ lanes_answer single runs reports lanes
      unfolding lane_passes lane_refused refused_at taken
      refused-passed x told =
          sym (first-stop (lane_passes single runs reports) (lane_refused single runs reports) (Ok (count_below (reporting reports) lanes)) lanes lane l (rw (e, ← is, told)) ∙ rw (← is, told))
          ∙ h.answer

-- a house that is handed back as it was
pub driven-refused : (single : Run → ℕ → Reported) (runs : List Run) (lanes : ℕ) (reports : List ℕ) (lane : ℕ) (x : Refusal) {answered : Result ℕ (ℕ × Refusal)}
    → Err (lane, x) ≡ answered → HandedBack single runs lanes reports answered (refused_house runs lane x)
unfolding refused_house written_by lane_after
driven-refused single runs lanes reports lane x e = record { answer = e; written = refl; count = refl; records = λ i. refl }

-- The loop over the lanes: before each lane those below it have passed, in every arena that the rows hold, and the records from it on are
-- as they were.
pub record LanesPassed (n m : ℕ) (owners costs froms tos : List ℕ) (runs : List Run) (lanes : ℕ) (reports plate : List ℕ) (after : List Run) (moved lane : ℕ) : Type 0 where
  pub within : lane ≤ lanes
  pub same_length : length after ≡ length runs
  pub count : moved ≡ count_below (reporting reports) lane
  pub rest : (i : ℕ) → lane ≤ i → get_or after i no_run ≡ get_or runs i no_run
  pub passed : (a : Arena) (marks : List ℕ) → RowsOf a n m owners marks costs froms tos → plate_verdict a plate ≡ Ok tt → Passed (inside a plate) runs reports lanes after lane

pub lanes-begin : (n m : ℕ) (owners costs froms tos : List ℕ) (runs : List Run) (lanes : ℕ) (reports plate : List ℕ) → LanesPassed n m owners costs froms tos runs lanes reports plate runs 0 0
unfolding count_below
lanes-begin n m owners costs froms tos runs lanes reports plate = record {
  within = omega arith;
  same_length = refl;
  count = refl;
  rest = λ i l. refl;
  passed = λ a marks d sound. none_passed (inside a plate) runs reports lanes runs;
}

module _ {n m : ℕ} {owners costs froms tos : List ℕ} {runs : List Run} {lanes : ℕ} {reports plate : List ℕ} {after : List Run} {moved lane : ℕ}
    (h : LanesPassed n m owners costs froms tos runs lanes reports plate after moved lane) (row : lanes ≡ length reports) where
  -- no more lanes are moved than gone through
  pub moved-bound : moved ≤ lanes
  moved-bound = omega (arith, h.count, count-bound (reporting reports) lane, h.within)

  module _ (l : lane < lanes) where
    -- a lane without a report
    pub lane-quiet : get_or reports lane 0 ≡ 65535 → LanesPassed n m owners costs froms tos runs lanes reports plate after moved (lane + 1)
    lane-quiet e =
        let none = quiet reports lane (omega arith) e in
        record {
          within = omega arith;
          same_length = h.same_length;
          count = h.count ∙ sym (count_next (reporting reports) lane ∙ rw none (omega arith));
          rest = λ i k. h.rest i (omega arith);
          passed = λ a marks d sound. quiet-passed (inside a plate) runs reports lanes l (h.passed a marks d sound) none (h.rest lane (omega arith));
        }

    -- a lane that reports, by its single report
    module _ (told : get_or reports lane 0 ≡ 65535 → ⊥) (within : lane < length runs) (e : Run) {r : Reported}
        (is : CheckedReport n m owners costs froms tos (get_or runs lane e) plate (get_or reports lane 0) r) where
      single-report : (a : Arena) (marks : List ℕ) → RowsOf a n m owners marks costs froms tos → plate_verdict a plate ≡ Ok tt → r ≡ lane_reported (inside a plate) runs reports lane
      unfolding lane_reported
      single-report a marks d sound =
          is.answer a marks d sound
          ∙ rw (within-list runs lane e no_run within, within-list reports lane 0 65535 (omega arith))

      pub lane-moved : (advice : Advice) → r.answer ≡ Ok advice → LanesPassed n m owners costs froms tos runs lanes reports plate (set after lane r.run) (moved + 1) (lane + 1)
      lane-moved advice went =
          let one = reports-one reports lane (omega arith) told in
          record {
            within = omega arith;
            same_length = length-set after lane r.run ∙ h.same_length;
            count = ap (λ (k : ℕ). k + 1) h.count ∙ sym (count_next (reporting reports) lane ∙ rw one);
            rest = λ i k. get_or-set_other after lane i r.run no_run (λ same. omega (arith, same)) ∙ h.rest i (omega arith);
            passed = λ a marks d sound.
                moved-passed (inside a plate) runs reports lanes l (h.passed a marks d sound) one (single-report a marks d sound) advice went (omega (arith, h.same_length));
          }

      pub lane-refused : (x : Refusal) → r.answer ≡ Err x → LanesDriven n m owners costs froms tos runs lanes reports plate (refused_house runs lane x)
      lane-refused x refused = record {
        driven = λ a marks d sound.
            driven-refused (inside a plate) runs lanes reports lane x
            (refused-passed (inside a plate) runs reports lanes l (h.passed a marks d sound) (reports-one reports lane (omega arith) told) (single-report a marks d sound) x refused);
      }

  -- after the last lane
  pub lanes_end : lanes ≤ lane → LanesDriven n m owners costs froms tos runs lanes reports plate (record { runs = after; written = lanes; answer = Ok moved })
  unfolding written_by lane_after
  lanes_end l = record {
    driven = λ a marks d sound. record {
      answer = moved_all a marks d sound;
      written = refl;
      count = h.same_length;
      records = λ i. at a marks d sound i (dec_lt i lane);
    };
  }
    where
      last : lane ≡ lanes
      last = omega (arith, h.within)

      moved_all : (a : Arena) (marks : List ℕ) → RowsOf a n m owners marks costs froms tos → plate_verdict a plate ≡ Ok tt → Ok moved ≡ lanes_answer (inside a plate) runs reports lanes
      moved_all a marks d sound =
          ap Ok (h.count ∙ ap (count_below (reporting reports)) last)
          ∙ sym (first_done (lane_passes (inside a plate) runs reports) (lane_refused (inside a plate) runs reports) (Ok (count_below (reporting reports) lanes)) lanes lane l)
          ∙ (h.passed a marks d sound).answer

      at : (a : Arena) (marks : List ℕ) → RowsOf a n m owners marks costs froms tos → plate_verdict a plate ≡ Ok tt → (i : ℕ) → Dec (i < lane)
          → get_or after i no_run ≡ lane_moved (inside a plate) runs reports i
      at a marks d sound i (yes k) = (h.passed a marks d sound).records i k
      at a marks d sound i (no k) = h.rest i (omega arith) ∙ quiet-stays (inside a plate) runs reports i (omega arith)
