-- The guarantee of any texts. One report carries a bound over, whatever run and texts it gets: a refused one leaves the run, and for one that
-- is taken the plate is certified at the position that is left, and its value there is the one that the run held, on whatever texts.
use Rattle.std.specs.Prelude.{ℕ, ◌+◌, ◌<◌, ◌≡◌, refl, T, Result, Ok, Err}
use Rattle.std.proofs.Common.{arith, zero-add, add-zero, ◌∙◌, inl, inr}
use Rattle.std.proofs.Math.Path.{sym, ap, subst}
use mathlib.Core.List.{List, [], ◌∷◌}
use Rattle.rows.specs.Numbers.{value_of, number_of}
use Rattle.rows.specs.NumberLaws.{value-of-number}
use Rattle.game.specs.Value.{Value, fin, ◌≼◌, ◌≺◌, ◌⊕◌}
use Rattle.game.proofs.ValueLaws.{⊕zero, ⊕fin, ≡→≼, ≺-not-≼}
use Rattle.game.specs.Arena.{size, unsafe}
use Rattle.game.proofs.PlayLaws.{disturbance-costs-one}
use Rattle.game.specs.Certificate.{CertifiedAt}
use Rattle.game.proofs.Holding.{chosen-move-holds, disturbance-holds}
use Rattle.chart.specs.Meaning.{arena_of}
use Rattle.chart.specs.Accepted.{accepted-size, accepted-few}
use Rattle.plate.specs.RangeLaws.{below-fits}
use Rattle.plate.specs.RoundTrip.{read-in-range}
use Rattle.plate.specs.Read.{value_in_plate, choice_in_plate, step_in_plate}
use Rattle.checking.specs.Answers.{AcceptedIs}
use Rattle.moves.specs.MoveLaws.{meant-follows, disturbance-follows}
use Rattle.moves.specs.declared.Kind.{Kind}
use Rattle.run.specs.Running.{moved, reported, run_at, started}
use Rattle.run.specs.Answers.{Moves, ReportIs, StartIs}
use Rattle.run.proofs.AnswersExact.{report-exactly, start-exactly}
use Rattle.run.specs.AnyTexts.{Report, Sustained, Texts, answered, disturbing, kind_of, run_after, seen_after, stands_on, texts_after}
use Rattle.run.specs.declared.Run.{Run}
use Rattle.refusal.specs.declared.Refusal.{Refusal}
use Rattle.run.specs.declared.Advice.{Advice}

-- what a report does to the run, by the exact conditions of its answers
pub report-does : (run : Run) (text plate : List ℕ) (to : ℕ) → ReportIs run text plate to (reported run text plate to).run (reported run text plate to).answer
report-does run text plate to = (report-exactly run text plate to (reported run text plate to).run (reported run text plate to).answer).0 refl

-- a plate of the form has values that come back from their numbers
plate-value : (text plate : List ℕ) → AcceptedIs text plate → (v : ℕ) → v < size (arena_of text) → value_of (number_of (value_in_plate plate v)) ≡ value_in_plate plate v
plate-value text plate is v inside =
    let few = accepted-few text is.chart is.taken in
    let l : v < is.chart.positions = subst (λ (n : ℕ). v < n) (accepted-size text is.chart is.taken) inside in
    let range = (read-in-range is.chart.positions plate few is.form).value_in v l in
    value-of-number (value_in_plate plate v) (below-fits 512 (value_in_plate plate v) (omega arith) range)

-- The step, for every run and all texts
module _ (run : Run) (text plate : List ℕ) (to : ℕ) (x : Value) where
  abbrev Bounds : Run → Type 0
  Bounds r = x ≼ value_of r.value ⊕ r.seen

  module _ {k : Kind} (w : Moves run text plate to k) where
    here : CertifiedAt (arena_of text) (value_in_plate plate) (choice_in_plate plate) (step_in_plate plate) run.position
    here = w.stands.accepted.certificate run.position w.stands.own

    -- the value held is the certified one
    left : Bounds run → x ≼ value_in_plate plate run.position ⊕ run.seen
    left h =
        subst (λ (v : Value). x ≼ v ⊕ run.seen) (ap value_of (sym w.holds) ∙ plate-value text plate w.stands.accepted run.position w.stands.own) h

    -- and the one that is held afterwards is the plate's
    arrives : (c : ℕ) (after : Run) → after ≡ moved run to c (number_of (value_in_plate plate to)) → x ≼ value_in_plate plate to ⊕ c → Bounds after
    unfolding moved
    arrives c after e h =
        subst Bounds (sym e) (subst (λ (v : Value). x ≼ v ⊕ c) (sym (plate-value text plate w.stands.accepted to w.stands.inside)) h)

  carried : (after : Run) (r : Result Advice Refusal) → ReportIs run text plate to after r → Bounds run → Bounds after
  carried after (Err y) is h = subst Bounds (sym is.1) h
  carried after (Ok advice) (inl (w, e), z) h =
      let m = meant-follows (arena_of text) (choice_in_plate plate run.position) run.position to w.kind in
      arrives w run.seen after e
      (chosen-move-holds (arena_of text) (value_in_plate plate) (choice_in_plate plate) (step_in_plate plate) run.position to run.seen x (here w) m.0 m.1 (left w h))
  carried after (Ok advice) (inr (w, l, e), z) h =
      let d = disturbance-follows (arena_of text) (choice_in_plate plate run.position) run.position to w.kind in
      arrives w (run.seen + 1) after e
      (rw (disturbance-costs-one (arena_of text) run.position to) at
      (disturbance-holds (arena_of text) (value_in_plate plate) (choice_in_plate plate) (step_in_plate plate) run.position to run.seen x (here w) d (left w h)))

  -- held value plus disturbances seen is bounded from below by whatever bounded it before
  pub report-holds : Bounds run → Bounds (reported run text plate to).run
  report-holds = carried (reported run text plate to).run (reported run text plate to).answer (report-does run text plate to)

-- A run that a start began
module _ (first : Texts) (position : ℕ) where
  -- what a report takes on and hands on: the numbers, from which `Sustained` follows
  pub record Standing (last : Texts) (seen : ℕ) (run : Run) : Type 0 where
    pub accepted : AcceptedIs last.chart last.plate
    pub inside : run.position < size (arena_of last.chart)
    pub holds : number_of (value_in_plate last.plate run.position) ≡ run.value
    pub counts : run.seen ≡ seen
    pub began : value_of run.initial ≡ value_in_plate first.plate position
    pub sums : value_of run.initial ≼ value_of run.value ⊕ run.seen

  module _ (last : Texts) (seen : ℕ) (run : Run) (s : Standing last seen run) where
    held-value : value_of run.value ≡ value_in_plate last.plate run.position
    held-value = ap value_of (sym s.holds) ∙ plate-value last.chart last.plate s.accepted run.position s.inside

    -- at an unsafe position the value is 0, so as much was seen as the starting value
    held-safe : fin run.seen ≺ value_of run.initial → T (unsafe (arena_of last.chart) run.position) → ⊥
    held-safe less ruin =
        let zero = held-value ∙ (s.accepted.certificate run.position s.inside).unsafe-zero ruin in
        ≺-not-≼ _ _ less (rw (⊕fin 0 run.seen, zero-add run.seen) at (subst (λ (v : Value). value_of run.initial ≼ v ⊕ run.seen) zero s.sums))

    pub sustained : Sustained first position last seen run
    sustained =
        record {
          accepted = s.accepted;
          inside = s.inside;
          holds = held-value;
          counts = s.counts;
          began = s.began;
          sums = s.sums;
          safe = held-safe;
        }

    -- one report
    module _ (r : Report) where
      arrived : {k : Kind} → Moves run r.texts.chart r.texts.plate r.to k → (c : ℕ) (after : Run)
          → after ≡ moved run r.to c (number_of (value_in_plate r.texts.plate r.to)) → (d : ℕ) → c ≡ seen + d
          → value_of after.initial ≼ value_of after.value ⊕ after.seen → Standing r.texts (seen + d) after
      unfolding moved
      arrived w c after e d z h =
          record {
            accepted = w.stands.accepted;
            inside = subst (λ (a : Run). a.position < size (arena_of r.texts.chart)) (sym e) w.stands.inside;
            holds = subst (λ (a : Run). number_of (value_in_plate r.texts.plate a.position) ≡ a.value) (sym e) refl;
            counts = ap (λ (a : Run). a.seen) e ∙ z;
            began = subst (λ (a : Run). value_of a.initial ≡ value_in_plate first.plate position) (sym e) s.began;
            sums = h;
          }

      goes : (after : Run) (a : Result Advice Refusal) → ReportIs run r.texts.chart r.texts.plate r.to after a
          → value_of after.initial ≼ value_of after.value ⊕ after.seen → Standing (stands_on a r.texts last) (seen + disturbing a (kind_of run r)) after
      unfolding stands_on disturbing
      goes after (Err x) is h = rw (add-zero seen) (subst (Standing last seen) (sym is.1) s)
      goes after (Ok advice) (inl (w, e), z) h = rw w.kind (arrived w run.seen after e 0 (s.counts ∙ sym (add-zero seen)) h)
      goes after (Ok advice) (inr (w, l, e), z) h = rw w.kind (arrived w (run.seen + 1) after e 1 (ap (λ (c : ℕ). c + 1) s.counts) h)

      stays : value_of (answered run r).run.initial ≡ value_of run.initial
      unfolding moved
      stays = go (answered run r).run (answered run r).answer (report-does run r.texts.chart r.texts.plate r.to)
        where
          go : (after : Run) (a : Result Advice Refusal) → ReportIs run r.texts.chart r.texts.plate r.to after a → value_of after.initial ≡ value_of run.initial
          go after (Err x) is = ap (λ (a : Run). value_of a.initial) is.1
          go after (Ok advice) (inl (w, e), z) = ap (λ (a : Run). value_of a.initial) e
          go after (Ok advice) (inr (w, l, e), z) = ap (λ (a : Run). value_of a.initial) e

      reported-stands : Standing (stands_on (answered run r).answer r.texts last) (seen + disturbing (answered run r).answer (kind_of run r)) (answered run r).run
      reported-stands =
          goes (answered run r).run (answered run r).answer (report-does run r.texts.chart r.texts.plate r.to)
          (subst (λ (x : Value). x ≼ value_of (answered run r).run.value ⊕ (answered run r).run.seen) (sym stays)
          (report-holds run r.texts.chart r.texts.plate r.to (value_of run.initial) s.sums))

  -- and a row of them
  all-stand : (reports : List Report) (last : Texts) (seen : ℕ) (run : Run) → Standing last seen run
      → Standing (texts_after run last reports) (seen_after run seen reports) (run_after run reports)
  unfolding texts_after seen_after run_after
  all-stand [] last seen run s = s
  all-stand (r ∷ rs) last seen run s = all-stand rs _ _ (answered run r).run (reported-stands last seen run s r)

  -- the start
  start-stands : AcceptedIs first.chart first.plate → position < size (arena_of first.chart) → Standing first 0 (run_at first.plate position)
  unfolding run_at
  start-stands is inside =
      let began = plate-value first.chart first.plate is position inside in
      record {
        accepted = is;
        inside = inside;
        holds = refl;
        counts = refl;
        began = began;
        sums = rw (⊕zero (value_of (number_of (value_in_plate first.plate position)))) (≡→≼ _ _ refl);
      }

-- "From then on a user may lend any texts at any report": whichever they are, and however many
module _ (text plate : List ℕ) (position : ℕ) (run : Run) (advice : Advice) (e : started text plate position ≡ Ok (run, advice)) where
  abbrev first : Texts
  first = record { chart = text; plate = plate }

  begun : StartIs text plate position (Ok (run, advice))
  begun = (start-exactly text plate position (Ok (run, advice))).0 e

  pub stands-with-any-texts : (reports : List Report) → Standing first position (texts_after run first reports) (seen_after run 0 reports) (run_after run reports)
  stands-with-any-texts reports =
      all-stand first position reports first 0 run
      (subst (Standing first position first 0) (sym begun.2) (start-stands first position begun.0 begun.1))

  pub run-sustains-any-texts : (reports : List Report) → Sustained first position (texts_after run first reports) (seen_after run 0 reports) (run_after run reports)
  run-sustains-any-texts reports = sustained first position _ _ _ (stands-with-any-texts reports)
