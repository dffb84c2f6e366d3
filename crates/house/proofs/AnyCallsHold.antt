-- The guarantee of order 5 at each lane that keeps its run. A call does to a lane's record what the single reports that the lane has by it do, if
-- any; so after a row of calls the record is the run after the lane's own single reports, and what is shown of these
-- (run/proofs/AnyTextsHold.antt) holds of it.
use Rattle.std.specs.Prelude.{ℕ, ◌≡◌, Bool, List, [], ◌∷◌, ◌++◌, Result, Ok, Err}
use Rattle.std.proofs.Math.Path.{refl, ap, subst}
use Rattle.std.proofs.Common.{sym, ◌∙◌}
use Rattle.std.proofs.Math.Bool.{true, false, cond}
use Rattle.std.proofs.Math.Dec.{eqb}
use Rattle.std.proofs.Math.ListN.{get_or}
use borrow.Author.Tests.{eqb-true, eqb-false}
use Rattle.rows.specs.Numbers.{value_of}
use Rattle.game.specs.Value.{Value, ◌≼◌, ◌⊕◌}
use Rattle.plate.specs.Read.{value_in_plate}
use Rattle.run.specs.Running.{no_run, started}
use Rattle.run.specs.AnyTexts.{Report, Sustained, Texts, answered, run_after, seen_after, texts_after}
use Rattle.run.proofs.AnyTextsHold.{run-sustains-any-texts}
use Rattle.run.specs.declared.Run.{Run}
use Rattle.run.specs.declared.Advice.{Advice}
use Rattle.house.specs.Housing.{lane_after, lane_moved, lane_reported, reporting, singly}
use Rattle.refusal.specs.declared.Refusal.{Refusal}
use Rattle.house.specs.AnyCalls.{Call, Drives, Keeps, KeepsAll, Step, WrittenAt, lane_report, lane_reports, own_report}

-- reports one row after the other
after_both : (run : Run) (rs ts : List Report) → run_after run (rs ++ ts) ≡ run_after (run_after run rs) ts
unfolding run_after
after_both run [] ts = refl
after_both run (r ∷ rs) ts = after_both (answered run r).run rs ts

-- One call

module _ (lane : ℕ) (runs : List Run) where
  abbrev here : Run
  here = get_or runs lane no_run

  house-lane : (reports : List ℕ) (texts : Texts) (r : Result ℕ (ℕ × Refusal))
      → lane_after (singly texts.chart texts.plate) runs reports r lane ≡ run_after here (own_report r reports texts lane)
  unfolding lane_after lane_moved lane_reported own_report run_after
  house-lane reports texts (Err (at, x)) = refl
  house-lane reports texts (Ok count) = go (reporting reports lane)
    where
      go : (b : Bool) → cond b (lane_reported (singly texts.chart texts.plate) runs reports lane).run here
          ≡ run_after here (cond b (record { texts = texts; to = get_or reports lane 65535 } ∷ []) [])
      go true = refl
      go false = refl

  single-lane : (at : ℕ) (r : Report) (after : List Run) → WrittenAt runs at (answered (get_or runs at no_run) r).run after
      → get_or after lane no_run ≡ run_after here (cond (eqb at lane) (r ∷ []) [])
  unfolding run_after
  single-lane at r after is = go (eqb at lane) refl
    where
      go : (b : Bool) → eqb at lane ≡ b → get_or after lane no_run ≡ run_after here (cond b (r ∷ []) [])
      go true e = subst (λ (k : ℕ). get_or after k no_run ≡ run_after (get_or runs k no_run) (r ∷ [])) (eqb-true at lane e) is.there
      go false e = is.elsewhere lane (λ z. eqb-false at lane e (sym z))

  call-lane : (c : Call) (after : List Run) → Step runs c after → Keeps lane c → get_or after lane no_run ≡ run_after here (lane_report lane runs c)
  unfolding lane_report run_after
  call-lane (Call.house reports texts) after (r, is) kept =
      is.records lane ∙ house-lane reports texts r ∙ ap (λ (x : Result ℕ (ℕ × Refusal)). run_after here (own_report x reports texts lane)) is.answer
  call-lane (Call.single at r) after is kept = single-lane at r after is
  call-lane (Call.anew at run) after is kept = is.elsewhere lane (λ z. kept (sym z))

-- A row of calls

pub lane_runs : (lane : ℕ) (runs : List Run) (calls : List Call) (after : List Run) (d : Drives runs calls after) → KeepsAll lane calls
    → get_or after lane no_run ≡ run_after (get_or runs lane no_run) (lane_reports lane runs calls after d)
unfolding Drives KeepsAll lane_reports run_after
lane_runs lane runs [] after d kept = ap (λ (x : List Run). get_or x lane no_run) d
lane_runs lane runs (c ∷ cs) after (next, step, rest) kept =
    lane_runs lane next cs after rest kept.1
    ∙ ap (λ (x : Run). run_after x (lane_reports lane next cs after rest)) (call-lane lane runs c next step kept.0)
    ∙ sym (after_both (get_or runs lane no_run) (lane_report lane runs c) (lane_reports lane next cs after rest))

-- "The guarantee of order 5 then holds at each lane of the house": of a lane whose record a start began, with whatever texts
module _ (text plate : List ℕ) (position : ℕ) (runs : List Run) (lane : ℕ) (advice : Advice)
    (begun : started text plate position ≡ Ok ((get_or runs lane no_run), advice))
    (calls : List Call) (after : List Run) (d : Drives runs calls after) (kept : KeepsAll lane calls) where
  abbrev first : Texts
  first = record { chart = text; plate = plate }

  abbrev had : List Report
  had = lane_reports lane runs calls after d

  pub house-sustains-any-texts : Sustained first position (texts_after (get_or runs lane no_run) first had) (seen_after (get_or runs lane no_run) 0 had) (get_or after lane no_run)
  house-sustains-any-texts =
      subst (Sustained first position (texts_after (get_or runs lane no_run) first had) (seen_after (get_or runs lane no_run) 0 had)) (sym (lane_runs lane runs calls after d kept))
      (run-sustains-any-texts text plate position (get_or runs lane no_run) advice begun had)

  -- in particular "present value plus disturbances seen is still at least the starting value"
  pub house-sustains-value : value_in_plate plate position ≼ value_of (get_or after lane no_run).value ⊕ (get_or after lane no_run).seen
  house-sustains-value =
      subst (λ (x : Value). x ≼ value_of (get_or after lane no_run).value ⊕ (get_or after lane no_run).seen) house-sustains-any-texts.began house-sustains-any-texts.sums
