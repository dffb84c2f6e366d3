-- A run begun by a start whose texts stay the same. That its sum holds is a case of any texts; that its reports are a play of the plate's
-- controller is shown one report at a time: it is refused and nothing changes, or it is the controller's move or a disturbance.
use Rattle.std.specs.Prelude.{ℕ, ◌+◌, ◌≡◌, ⊤, Result, Ok, Err}
use Rattle.verdict.specs.declared.FoundFault.{FoundFault}
use Rattle.verdict.specs.Verdict.{fault_of}
use Rattle.std.proofs.Common.{arith, ◌∙◌, inl, inr}
use Rattle.std.proofs.Math.Path.{refl, sym, ap, subst}
use mathlib.Core.List.{List, [], ◌∷◌}
use Rattle.rows.specs.Numbers.{value_of, number_of}
use Rattle.game.specs.Value.{Value, fin, ◌≼◌, ◌≺◌, ◌⊕◌}
use Rattle.game.specs.Arena.{Arena, owner_at, Meant as Meant', Disturbance as Disturbance'}
use Rattle.game.specs.Play.{Trail, still, meant, disturbed, last, cost, Allows, target_of, Play, Legal, positional}
use Rattle.game.proofs.PlayLaws.{disturbance-costs-one, positional-pick}
use Rattle.game.proofs.Certified.{certificate-is-legal}
use Rattle.game.proofs.Holding.{choices-keep, keeping-is-safe}
use Rattle.chart.specs.Meaning.{arena_of}
use Rattle.chart.specs.Accepted.{accepted-chartable}
use Rattle.refusal.specs.declared.Refusal.TheVariants.{Fault, Held}
use Rattle.plate.specs.Read.{value_in_plate, choice_in_plate, step_in_plate}
use Rattle.checking.specs.Answers.{AcceptedIs}
use Rattle.checking.specs.AnswersExact.{accepted-sound, faulty-at}
use Rattle.moves.specs.Moves.{move_kind}
use Rattle.moves.specs.MoveLaws.{meant-follows, disturbance-follows}
use Rattle.run.specs.Running.{moved, reported, run_at, started}
use Rattle.run.specs.Answers.{ReportIs, StartIs}
use Rattle.run.proofs.AnswersExact.{start-exactly}
use Rattle.run.specs.AnyTexts.{Report, Texts, answered, run_after, seen_after, stands_on, texts_after}
use Rattle.run.proofs.AnyTextsHold.{Standing, report-does, stands-with-any-texts, sustained}
use Rattle.run.specs.Following.{Follows, grown, trail_after, trail_with, with_texts}
use Rattle.moves.specs.declared.Kind.{Kind}
use Rattle.moves.specs.declared.Kind.TheVariants.{Meant, Disturbance}
use Rattle.run.specs.declared.Run.{Run}
use Rattle.refusal.specs.declared.Refusal.{Refusal}
use Rattle.run.specs.declared.Advice.{Advice}

-- where every report is lent the texts of the start, the run stands on them
module _ (texts : Texts) where
  stays_on : (a : Result Advice Refusal) → stands_on a texts texts ≡ texts
  unfolding stands_on
  stays_on (Ok advice) = refl
  stays_on (Err x) = refl

  same-texts : (tos : List ℕ) (run : Run) → texts_after run texts (with_texts texts tos) ≡ texts
  unfolding texts_after
  same-texts [] run = refl
  same-texts (to ∷ tos) run =
      let r : Report = record { texts = texts; to = to } in
      ap (λ (t : Texts). texts_after (answered run r).run t (with_texts texts tos)) (stays_on (answered run r).answer) ∙ same-texts tos (answered run r).run

-- The play
module _ (text plate : List ℕ) (legal : Legal (arena_of text) (choice_in_plate plate)) (position : ℕ) where
  abbrev a : Arena
  a = arena_of text

  pub record Traced (run : Run) (t : Trail) : Type 0 where
    pub play : Play a (positional a (choice_in_plate plate) legal) position t
    pub stands : run.position ≡ last position t
    pub counts : run.seen ≡ cost a position t

  module _ (run : Run) (to : ℕ) (t : Trail) (f : Traced run t) where
    abbrev kind : Kind
    kind = move_kind a (choice_in_plate plate run.position) run.position to

    traced-meant : kind ≡ Meant → (x : ℕ) → Traced (moved run to run.seen x) (meant t to)
    unfolding moved last cost Play
    traced-meant e x =
        let m = meant-follows a (choice_in_plate plate run.position) run.position to e in
        let allowed = subst (λ (v : ℕ). Allows (owner_at a v) (target_of (choice_in_plate plate v)) to) f.stands m.1 in
        let pick = sym (positional-pick a (choice_in_plate plate) legal position t) in
        let picked = subst (λ (p : ℕ). Allows (owner_at a (last position t)) p to) pick allowed in
        record { play = (f.play, subst (λ (v : ℕ). Meant' a v to) f.stands m.0, picked); stands = refl; counts = f.counts }

    traced-disturbance : kind ≡ Disturbance → (x : ℕ) → Traced (moved run to (run.seen + 1) x) (disturbed t to)
    unfolding moved last cost Play
    traced-disturbance e x =
        let d = disturbance-follows a (choice_in_plate plate run.position) run.position to e in
        record {
          play = (f.play, subst (λ (v : ℕ). Disturbance' a v to) f.stands d);
          stands = refl;
          counts = rw (disturbance-costs-one a (last position t) to) (ap (λ (s : ℕ). s + 1) f.counts);
        }

    -- one report
    traced : (after : Run) (r : Result Advice Refusal) → ReportIs run text plate to after r → Traced after (grown r kind to t)
    unfolding grown
    traced after (Err x) is = subst (λ (u : Run). Traced u t) (sym is.1) f
    traced after (Ok advice) (inl (w, e), z) = rw w.kind (subst (λ (u : Run). Traced u (meant t to)) (sym e) (traced-meant w.kind (number_of (value_in_plate plate to))))
    traced after (Ok advice) (inr (w, l, e), z) = rw w.kind (subst (λ (u : Run). Traced u (disturbed t to)) (sym e) (traced-disturbance w.kind (number_of (value_in_plate plate to))))

    report-traced : Traced (reported run text plate to).run (trail_with text plate run to t)
    unfolding trail_with
    report-traced = traced (reported run text plate to).run (reported run text plate to).answer (report-does run text plate to)

  -- and a row of them
  all-traced : (tos : List ℕ) (run : Run) (t : Trail) → Traced run t
      → Traced (run_after run (with_texts (record { chart = text; plate = plate }) tos)) (trail_after text plate run t tos)
  unfolding run_after trail_after
  all-traced [] run t f = f
  all-traced (to ∷ tos) run t f = all-traced tos (reported run text plate to).run (trail_with text plate run to t) (report-traced run to t f)

  -- a play that is paid for by what was seen is safe while less was seen than the value at its start
  module _ (is : AcceptedIs text plate) (seen : ℕ) (run : Run) (s : Standing (record { chart = text; plate = plate }) position (record { chart = text; plate = plate }) seen run) where
    never-faulted : (to v c : ℕ) → (reported run text plate to).answer ≡ Err (Fault v c) → ⊥
    never-faulted to v c e =
        let at = subst (ReportIs run text plate to (reported run text plate to).run) e (report-does run text plate to) in
        apart (sym (accepted-sound text plate is) ∙ faulty-at text plate v c at.0.0)
      where
        apart : ◌≡◌ {A = Result ⊤ FoundFault} (Ok tt) (Err (fault_of v c)) → ⊥
        apart e = let z : ◌≡◌ {A = ℕ} 0 1 = cc in omega arith

    never-swapped : (to : ℕ) → (reported run text plate to).answer ≡ Err Held → ⊥
    never-swapped to e =
        let at = subst (ReportIs run text plate to (reported run text plate to).run) e (report-does run text plate to) in
        at.0.1 s.holds

    follows : (t : Trail) → Traced run t → Follows text plate legal position run t
    follows t f =
        let well = (accepted-chartable text is.chart is.taken).well-formed in
        let now = sustained (record { chart = text; plate = plate }) position (record { chart = text; plate = plate }) seen run s in
        record {
          play = f.play;
          stands = f.stands;
          counts = f.counts;
          began = s.began;
          holds = subst (λ (v : Value). value_of run.initial ≼ v ⊕ run.seen) now.holds s.sums;
          safe = λ less.
              let keeps = choices-keep a well (value_in_plate plate) (choice_in_plate plate) (step_in_plate plate) is.certificate legal position in
              keeping-is-safe a well (value_in_plate plate) (choice_in_plate plate) (step_in_plate plate) is.certificate (positional a (choice_in_plate plate) legal) position keeps t f.play
              (subst (λ (c : ℕ). fin c ≺ value_in_plate plate position) f.counts (subst (λ (v : Value). fin run.seen ≺ v) s.began less));
          sound = never-faulted;
          held = never-swapped;
        }

-- a start that is taken: the exact condition of that answer
module _ (text plate : List ℕ) (position : ℕ) (run : Run) (advice : Advice) (e : started text plate position ≡ Ok (run, advice)) where
  abbrev own : Texts
  own = record { chart = text; plate = plate }

  begun : StartIs text plate position (Ok (run, advice))
  begun = (start-exactly text plate position (Ok (run, advice))).0 e

  -- the plate's choices are those of a controller
  pub begun-is-legal : Legal (arena_of text) (choice_in_plate plate)
  begun-is-legal = certificate-is-legal (arena_of text) (value_in_plate plate) (choice_in_plate plate) (step_in_plate plate) begun.0.certificate

  -- any row of reports is a play of the plate's controller, in step with the run
  pub run-follows-its-controller : (legal : Legal (arena_of text) (choice_in_plate plate)) (tos : List ℕ)
      → Follows text plate legal position (run_after run (with_texts own tos)) (trail_after text plate run still tos)
  unfolding last cost Play run_at
  run-follows-its-controller legal tos =
      let s = stands-with-any-texts text plate position run advice e (with_texts own tos) in
      let here = subst (λ (t : Texts). Standing own position t (seen_after run 0 (with_texts own tos)) (run_after run (with_texts own tos))) (same-texts own tos run) s in
      let first : Traced text plate legal position (run_at plate position) still = record { play = begun.1; stands = refl; counts = refl } in
      follows text plate legal position begun.0 (seen_after run 0 (with_texts own tos)) (run_after run (with_texts own tos)) here (trail_after text plate run still tos)
      (all-traced text plate legal position tos run still (subst (λ (r : Run). Traced text plate legal position r still) (sym begun.2) first))
