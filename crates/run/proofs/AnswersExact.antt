-- Each answer is given exactly when its condition holds. Forward, by cases on the chart's examination, the plate's form, the two
-- tests of positions, the first fault, the held value and the kind; backward, the condition settles each of these in turn.
use Rattle.std.specs.Prelude.{ℕ, ◌+◌, ◌<◌, ◌≡◌, ◌↔◌, Bool, List, ⊤, Result, Ok, Err}
use Rattle.verdict.specs.declared.FoundFault.{FoundFault}
use Rattle.verdict.specs.Verdict.{fault_of}
use Rattle.std.proofs.Math.Path.{refl, ap}
use Rattle.std.proofs.Common.{subst, ◌∙◌, arith}
use Rattle.std.proofs.Math.Logic.{inl, inr}
use Rattle.std.proofs.Math.Bool.{true, false, cond}
use Rattle.std.proofs.Math.Dec.{eqb, ltb}
use borrow.Author.Tests.{ltb-true, ltb-false, lt-ltb, le-ltb, eqb-true, eqb-false, eq-eqb, ne_eqb}
use Rattle.rows.specs.Numbers.{number_of}
use Rattle.game.specs.Arena.{size}
use Rattle.chart.specs.Meaning.{arena_of}
use Rattle.chart.specs.Examined.{examined}
use Rattle.chart.specs.Accepted.{accepted-few, accepted-size}
use Rattle.rows.specs.declared.Chart.{Chart}
use Rattle.refusal.specs.declared.Refusal.{Refusal}
use Rattle.refusal.specs.declared.Refusal.TheVariants.{Lanes, Chart as OfChart, NotSmall, Short, Plate, Choice, Position, Ever, Fault, Held, Move, Seen}
use Rattle.plate.specs.Exact.{bad-line-exact, form-exact}
use Rattle.plate.specs.Formed.{form_of}
use Rattle.plate.specs.Read.{value_in_plate, choice_in_plate}
use Rattle.checking.specs.Answers.{AcceptedIs, FaultIs}
use Rattle.checking.specs.Checking.{plate_verdict}
use Rattle.checking.specs.AnswersExact.{accepted-sound, faulty-at, verdict-means}
use Rattle.moves.specs.Moves.{move_kind}
use Rattle.run.specs.Running.{no_run, reported, reported_by, reported_form, reported_inside, reported_move, reported_accepted, reported_verdict, standing, started, started_by, started_form, started_inside, started_verdict, unmoved}
use Rattle.run.specs.Answers.{Holds, Moves, Readable, ReportIs, ReportRefused, Stands, StartIs, StartRefused}
use Rattle.moves.specs.declared.Kind.{Kind}
use Rattle.moves.specs.declared.Kind.TheVariants.{Meant, Disturbance, Neither}
use Rattle.run.specs.declared.Run.{Run}
use Rattle.run.specs.declared.Advice.{Advice}
use Rattle.refusal.specs.declared.Misdrawn.{Misdrawn}
use Rattle.run.specs.declared.Reported.{Reported}

module _ {text plate : List ℕ} where
  accepted-readable : AcceptedIs text plate → Readable text plate
  accepted-readable is = record { chart = is.chart; taken = is.taken; form = is.form }

  faulty-readable : {v c : ℕ} → FaultIs text plate v c → Readable text plate
  faulty-readable is = record { chart = is.chart; taken = is.taken; form = is.form }

module _ (run : Run) (text plate : List ℕ) (to : ℕ) where
  abbrev kind : Kind
  kind = move_kind (arena_of text) (choice_in_plate plate run.position) run.position to

  abbrev here : ℕ
  here = number_of (value_in_plate plate run.position)

  abbrev Is : Reported → Type 0
  Is r = ReportIs run text plate to r.run r.answer

  -- forward
  module _ (stands : Stands run text plate to) where
    of-kind : Holds run plate → (k : Kind) → kind ≡ k → Is (reported_move run plate to k)
    unfolding reported_move standing unmoved
    of-kind holds Meant e = (inl (record { stands = stands; holds = holds; kind = e }, refl), refl)
    of-kind holds Neither e = (record { stands = stands; holds = holds; kind = e }, refl)
    of-kind holds Disturbance e = go (ltb run.seen 99999) refl
      where
        go : (b : Bool) → ltb run.seen 99999 ≡ b → Is (cond b (standing run plate to (run.seen + 1)) (unmoved run Seen))
        go true h = (inr (record { stands = stands; holds = holds; kind = e }, ltb-true run.seen 99999 h, refl), refl)
        go false h = ((record { stands = stands; holds = holds; kind = e }, ltb-false run.seen 99999 h), refl)

    of-accepted : Is (reported_accepted run (arena_of text) plate to)
    unfolding reported_accepted unmoved
    of-accepted = go (eqb here run.value) refl
      where
        go : (b : Bool) → eqb here run.value ≡ b → Is (cond b (reported_move run plate to kind) (unmoved run Held))
        go true h = of-kind (eqb-true here run.value h) kind refl
        go false h = ((stands, eqb-false here run.value h), refl)

  module _ (readable : Readable text plate) where
    of-verdict : run.position < size (arena_of text) → to < size (arena_of text) → (r : Result ⊤ FoundFault) → plate_verdict (arena_of text) plate ≡ r
        → Is (reported_verdict run (arena_of text) plate to r)
    unfolding reported_verdict unmoved
    of-verdict own inside (Ok _) e =
        of-accepted (record { accepted = verdict-means text plate readable.chart readable.taken readable.form (Ok tt) e; own = own; inside = inside })
    of-verdict own inside (Err f) e = ((verdict-means text plate readable.chart readable.taken readable.form (Err f) e, own, inside), refl)

    of-form : Is (reported_inside run (arena_of text) plate to)
    unfolding reported_inside unmoved
    of-form = go (ltb run.position (size (arena_of text))) (ltb to (size (arena_of text))) refl refl
      where
        go : (p q : Bool) → ltb run.position (size (arena_of text)) ≡ p → ltb to (size (arena_of text)) ≡ q
            → Is (cond p (cond q (reported_verdict run (arena_of text) plate to (plate_verdict (arena_of text) plate)) (unmoved run Position)) (unmoved run Position))
        go true true h k = of-verdict (ltb-true _ _ h) (ltb-true _ _ k) (plate_verdict (arena_of text) plate) refl
        go true false h k = ((readable, inr (ltb-false _ _ k)), refl)
        go false q h k = ((readable, inl (ltb-false _ _ h)), refl)

  of-chart : (chart : Chart) → examined text ≡ Ok chart → (f : Result ⊤ ℕ) → form_of chart.positions plate ≡ f → Is (reported_form run (arena_of text) plate to f)
  unfolding reported_form unmoved
  of-chart chart e (Ok _) h = of-form (record { chart = chart; taken = e; form = (form-exact chart.positions plate).0 h })
  of-chart chart e (Err line) h = (record { chart = chart; taken = e; bad = (bad-line-exact chart.positions line plate).0 h }, refl)

  of-text : (x : Result Chart Misdrawn) → examined text ≡ x → Is (reported_by run text plate to x)
  unfolding reported_by unmoved
  of-text (Err r) e = (e, refl)
  of-text (Ok chart) e = of-chart chart e (form_of chart.positions plate) refl

  answered : Is (reported run text plate to)
  unfolding reported
  answered = of-text (examined text) refl

  -- backward
  readable-report : Readable text plate → reported run text plate to ≡ reported_inside run (arena_of text) plate to
  unfolding reported reported_by reported_form
  readable-report w = rw (w.taken, (form-exact w.chart.positions plate).1 w.form)

  inside-report : Readable text plate → run.position < size (arena_of text) → to < size (arena_of text) → (r : Result ⊤ FoundFault) → plate_verdict (arena_of text) plate ≡ r
      → reported run text plate to ≡ reported_verdict run (arena_of text) plate to r
  unfolding reported_inside
  inside-report w own inside r e =
      readable-report w
      ∙ rw (lt-ltb run.position (size (arena_of text)) own, lt-ltb to (size (arena_of text)) inside) (ap (reported_verdict run (arena_of text) plate to) e)

  accepted-report : Stands run text plate to → reported run text plate to ≡ reported_accepted run (arena_of text) plate to
  unfolding reported_verdict
  accepted-report w = inside-report (accepted-readable w.accepted) w.own w.inside (Ok tt) (accepted-sound text plate w.accepted)

  moved-report : (k : Kind) → Moves run text plate to k → reported run text plate to ≡ reported_move run plate to k
  unfolding reported_accepted
  moved-report k w = accepted-report w.stands ∙ rw (eq-eqb here run.value w.holds) (ap (reported_move run plate to) w.kind)

  refusal-from : (x : Refusal) → ReportRefused run text plate to x → reported run text plate to ≡ unmoved run x
  unfolding reported reported_by reported_form reported_inside reported_verdict reported_accepted reported_move
  refusal-from (OfChart r) h = rw h
  refusal-from (Plate line) w = rw (w.taken, (bad-line-exact w.chart.positions line plate).1 w.bad)
  refusal-from Position (w, inl l) = readable-report w ∙ rw (le-ltb run.position (size (arena_of text)) l)
  refusal-from Position (w, inr l) = readable-report w ∙ go (ltb run.position (size (arena_of text)))
    where
      go : (b : Bool)
          → cond b
          (cond (ltb to (size (arena_of text))) (reported_verdict run (arena_of text) plate to (plate_verdict (arena_of text) plate)) (unmoved run Position))
          (unmoved run Position)
          ≡ unmoved run Position
      go true = rw (le-ltb to (size (arena_of text)) l)
      go false = refl
  refusal-from (Fault v c) (w, own, inside) = inside-report (faulty-readable w) own inside (Err (fault_of v c)) (faulty-at text plate v c w)
  refusal-from Held (w, apart) = accepted-report w ∙ rw (ne_eqb here run.value apart)
  refusal-from Move w = moved-report Neither w
  refusal-from Seen (w, l) = moved-report Disturbance w ∙ rw (le-ltb run.seen 99999 l)
  refusal-from Lanes is = absurd is
  refusal-from NotSmall is = absurd is
  refusal-from Short is = absurd is
  refusal-from Choice is = absurd is
  refusal-from Ever is = absurd is

  from : (after : Run) (r : Result Advice Refusal) → ReportIs run text plate to after r → reported run text plate to ≡ record { run = after; answer = r }
  unfolding reported_move standing unmoved
  from after (Ok advice) (inl (w, e), z) = moved-report Meant w ∙ rw (e, z)
  from after (Ok advice) (inr (w, l, e), z) = moved-report Disturbance w ∙ rw (lt-ltb run.seen 99999 l, e, z)
  from after (Err x) (h, e) = refusal-from x h ∙ rw e

  pub report-exactly : (after : Run) (r : Result Advice Refusal) → (reported run text plate to ≡ record { run = after; answer = r }) ↔ ReportIs run text plate to after r
  report-exactly after r = (
    λ e. subst Is e answered,
    from after r,
  )

  -- of the answer alone
  pub report-refused-exactly : (x : Refusal) → ((reported run text plate to).answer ≡ Err x) ↔ ReportRefused run text plate to x
  unfolding unmoved
  report-refused-exactly x = (
    λ e. (subst (ReportIs run text plate to (reported run text plate to).run) e answered).0,
    λ h. ap (λ (r : Reported). r.answer) (refusal-from x h),
  )

-- "begins only by the start job": where none began, there is no run to report of. 13, whatever is reported
pub no-run-refused : (text plate : List ℕ) (to : ℕ) → Readable text plate → reported no_run text plate to ≡ unmoved no_run Position
no-run-refused text plate to w =
    refusal-from no_run text plate to Position (w, inl (omega (arith, accepted-few text w.chart w.taken, accepted-size text w.chart w.taken)))

-- A start
module _ (text plate : List ℕ) (position : ℕ) where
  abbrev n : ℕ
  n = size (arena_of text)

  abbrev verdict : Result ⊤ FoundFault
  verdict = plate_verdict (arena_of text) plate

  -- forward
  module _ (w : Readable text plate) where
    begun-or-faulty : position < n → (r : Result ⊤ FoundFault) → verdict ≡ r → StartIs text plate position (started_verdict plate position r)
    unfolding started_verdict
    begun-or-faulty l (Ok _) e = (verdict-means text plate w.chart w.taken w.form (Ok tt) e, l, refl, refl)
    begun-or-faulty l (Err f) e = (verdict-means text plate w.chart w.taken w.form (Err f) e, l)

    start-formed : StartIs text plate position (started_inside (arena_of text) plate position)
    unfolding started_inside
    start-formed = go (ltb position n) refl
      where
        go : (b : Bool) → ltb position n ≡ b → StartIs text plate position (cond b (started_verdict plate position verdict) (Err Position))
        go true h = begun-or-faulty (ltb-true position n h) verdict refl
        go false h = (w, ltb-false position n h)

  start-of-form : (chart : Chart) → examined text ≡ Ok chart → (f : Result ⊤ ℕ) → form_of chart.positions plate ≡ f
      → StartIs text plate position (started_form (arena_of text) plate position f)
  unfolding started_form
  start-of-form chart e (Ok _) h = start-formed (record { chart = chart; taken = e; form = (form-exact chart.positions plate).0 h })
  start-of-form chart e (Err line) h = record { chart = chart; taken = e; bad = (bad-line-exact chart.positions line plate).0 h }

  start-of-text : (x : Result Chart Misdrawn) → examined text ≡ x → StartIs text plate position (started_by text plate position x)
  unfolding started_by
  start-of-text (Err r) e = e
  start-of-text (Ok chart) e = start-of-form chart e (form_of chart.positions plate) refl

  start-answered : StartIs text plate position (started text plate position)
  unfolding started
  start-answered = start-of-text (examined text) refl

  -- backward
  readable-start : Readable text plate → started text plate position ≡ started_inside (arena_of text) plate position
  unfolding started started_by started_form
  readable-start w = rw (w.taken, (form-exact w.chart.positions plate).1 w.form)

  inside-start : Readable text plate → position < n → (r : Result ⊤ FoundFault) → verdict ≡ r → started text plate position ≡ started_verdict plate position r
  unfolding started_inside
  inside-start w l r e = readable-start w ∙ rw (lt-ltb position n l, e)

  start-refusal : (x : Refusal) → StartRefused text plate position x → started text plate position ≡ Err x
  unfolding started started_by started_form started_inside started_verdict
  start-refusal (OfChart r) h = rw h
  start-refusal (Plate line) w = rw (w.taken, (bad-line-exact w.chart.positions line plate).1 w.bad)
  start-refusal Position (w, l) = readable-start w ∙ rw (le-ltb position n l)
  start-refusal (Fault v c) (is, l) = inside-start (faulty-readable is) l (Err (fault_of v c)) (faulty-at text plate v c is)
  start-refusal Lanes is = absurd is
  start-refusal NotSmall is = absurd is
  start-refusal Short is = absurd is
  start-refusal Choice is = absurd is
  start-refusal Ever is = absurd is
  start-refusal Held is = absurd is
  start-refusal Move is = absurd is
  start-refusal Seen is = absurd is

  start-from : (r : Result (Run × Advice) Refusal) → StartIs text plate position r → started text plate position ≡ r
  unfolding started_verdict
  start-from (Ok (run, advice)) (is, l, e, z) =
      inside-start (accepted-readable is) l (Ok tt) (accepted-sound text plate is) ∙ rw (e, z)
  start-from (Err x) is = start-refusal x is

  pub start-exactly : (r : Result (Run × Advice) Refusal) → (started text plate position ≡ r) ↔ StartIs text plate position r
  start-exactly r = (
    λ e. subst (StartIs text plate position) e start-answered,
    start-from r,
  )
