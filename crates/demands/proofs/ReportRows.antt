-- The first demand's rows of Checking, of a report, and of a report at a lane of a house, which tests neither the chart nor the plate itself:
-- by RowLaws, a test for each row.
use Rattle.std.specs.Prelude.{ℕ, ◌+◌, ◌≤◌, ◌<◌, ◌≡◌, refl, ◌↔◌, ◌&&◌, List, [], ◌∷◌, ltb, eqb, Result, Ok, Err}
use Rattle.verdict.specs.Verdict.{fault_of}
use Rattle.std.proofs.Common.{arith, sym, ap, subst, ◌∙◌, inl, inr, ltb-true, ltb-false, eqb-true}
use Rattle.std.proofs.lemmas.Bool.{eqb-false}
use Rattle.rows.specs.Numbers.{number_of}
use Rattle.game.specs.Arena.{size}
use Rattle.refusal.specs.declared.Refusal.{Refusal}
use Rattle.refusal.specs.declared.Refusal.TheVariants.{Chart as OfChart, Plate, Position, Fault, Held, Move, Seen}
use Rattle.chart.specs.Meaning.{arena_of}
use Rattle.plate.specs.Exact.{form-exact, bad-line-exact}
use Rattle.plate.specs.Read.{value_in_plate, choice_in_plate}
use Rattle.checking.specs.Answers.{AcceptedIs}
use Rattle.checking.specs.Checking.{checked}
use Rattle.checking.specs.AnswersExact.{answer-exactly, verdict-means}
use Rattle.moves.specs.Moves.{move_kind}
use Rattle.moves.specs.MoveLaws.{kind-exactly}
use Rattle.moves.specs.declared.Kind.{Kind}
use Rattle.moves.specs.declared.Kind.TheVariants.{Meant, Disturbance, Neither}
use Rattle.run.specs.Running.{advice_at, moved, reported}
use Rattle.run.specs.Answers.{Readable, Stands, Moves, ReportIs, ReportRefused as ReportRefusedIs}
use Rattle.run.proofs.AnswersExact.{report-exactly, report-refused-exactly}
use Rattle.run.specs.declared.Run.{Run}
use Rattle.run.specs.declared.Advice.{Advice}
use Rattle.run.specs.declared.Reported.{Reported}
use Rattle.demands.proofs.RowLaws.{Settled, both-test, inside-test, same_test, both_true, row-holds, row-fails, no_rows, test-row, chart-row, form-row, fault-row}
use Rattle.demands.specs.Demand1.{Row, only, OffChart, MoveIs, move_rows, lane_rows, checking_rows, report_rows}

pub checking-settled : (text plate : List ℕ) → Settled (checked text plate) Err (checking_rows text plate)
checking-settled text plate =
    let answer = answer-exactly text plate in
    chart-row (λ x y e. cc) text (λ r e. (answer (Err (OfChart r))).1 e)
    (λ chart e.
    form-row (λ x y e. cc) text plate chart e (λ line f. (answer (Err (Plate line))).1 (record { chart = chart; taken = e; bad = (bad-line-exact chart.positions line plate).0 f }))
    (λ f.
    fault-row (λ x y e. cc) text plate
    (λ v c g. (answer (Err (Fault v c))).1 (verdict-means text plate chart e ((form-exact chart.positions plate).0 f) (Err (fault_of v c)) g))
    (λ g.
    let sound = (answer (Ok tt)).1 (verdict-means text plate chart e ((form-exact chart.positions plate).0 f) (Ok tt) g) in
    no_rows (λ x y e. cc) (λ x q. let z : ◌≡◌ {A = ℕ} 0 1 = cc in omega arith))))

module _ (run : Run) (text plate : List ℕ) (to : ℕ) where
  abbrev answer : Result Advice Refusal
  answer = (reported run text plate to).answer

  -- the answer, from the condition of a report's answers
  refused-by : (x : Refusal) → ReportRefusedIs run text plate to x → answer ≡ Err x
  refused-by x h = (report-refused-exactly run text plate to x).1 h

  taken-by : (after : Run) (advice : Advice) → ReportIs run text plate to after (Ok advice) → (x : Refusal) → answer ≡ Err x → ⊥
  taken-by after advice h x q =
      let e : answer ≡ Ok advice = ap (λ (r : Reported). r.answer) ((report-exactly run text plate to after (Ok advice)).1 h) in
      let z : ◌≡◌ {A = ℕ} 0 1 = cc in
      omega arith

  abbrev kind : Kind
  kind = move_kind (arena_of text) (choice_in_plate plate run.position) run.position to

  says : (k : Kind) → (kind ≡ k) ↔ MoveIs run text plate to k
  says k = kind-exactly (arena_of text) (choice_in_plate plate run.position) run.position to k

  -- 15 and 16, of a move on an accepted plate with the held value
  kind-rows : ((k : Kind) → kind ≡ k → Moves run text plate to k)
      → Settled answer Err (only Move (MoveIs run text plate to Neither) ∷ only Seen (MoveIs run text plate to Disturbance × (99999 ≤ run.seen)) ∷ [])
  kind-rows moves = go kind refl
    where
      apart : {j k : Kind} → kind ≡ j → kind ≡ k → (j ≡ k → ⊥) → ⊥
      apart p q differ = differ (sym p ∙ q)

      go : (k : Kind) → kind ≡ k → Settled answer Err (only Move (MoveIs run text plate to Neither) ∷ only Seen (MoveIs run text plate to Disturbance × (99999 ≤ run.seen)) ∷ [])
      go Neither e = row-holds (λ x y e. cc) (λ y h. refused-by Move (moves Neither e) ∙ ap Err (sym h.0)) Move (refl, (says Neither).0 e)
      go Disturbance e =
          row-fails (λ x y e. cc) (λ y h. apart e ((says Neither).1 h.1) (λ q. let z : ◌≡◌ {A = ℕ} 0 1 = cc in omega arith))
          (test-row (λ x y e. cc) (ltb run.seen 99999) (λ b h. omega (arith, ltb-true run.seen 99999 b, h.1), λ b. ((says Disturbance).0 e, ltb-false run.seen 99999 b))
          (λ b. refused-by Seen (moves Disturbance e, ltb-false run.seen 99999 b))
          (λ b. no_rows (λ x y e. cc) (taken-by (moved run to (run.seen + 1) (number_of (value_in_plate plate to))) (advice_at plate to) (inr (moves Disturbance e, ltb-true run.seen 99999 b, refl), refl))))
      go Meant e =
          row-fails (λ x y e. cc) (λ y h. apart e ((says Neither).1 h.1) (λ q. let z : ◌≡◌ {A = ℕ} 0 1 = cc in omega arith))
          (row-fails (λ x y e. cc) (λ y h. apart e ((says Disturbance).1 h.1.0) (λ q. let z : ◌≡◌ {A = ℕ} 0 1 = cc in omega arith))
          (no_rows (λ x y e. cc) (taken-by (moved run to run.seen (number_of (value_in_plate plate to))) (advice_at plate to) (inl (moves Meant e, refl), refl))))

  -- with 18 before them
  move-rows : Stands run text plate to → Settled answer Err (move_rows run text plate to)
  move-rows stands =
      let number = number_of (value_in_plate plate run.position) in
      test-row (λ x y e. cc) (eqb number run.value) (same_test number run.value) (λ c. refused-by Held (stands, eqb-false number run.value c))
      (λ c. kind-rows (λ k h. record { stands = stands; holds = eqb-true number run.value c; kind = h }))

  -- 13, and what is tested after it
  position-row : Readable text plate → {rest : List Row} → (run.position < size (arena_of text) → to < size (arena_of text) → Settled answer Err rest)
      → Settled answer Err (only Position (OffChart run text to) ∷ rest)
  position-row readable after =
      let n = size (arena_of text) in
      let test = both-test (ltb run.position n) (ltb to n) (inside-test run.position n) (inside-test to n) in
      test-row (λ x y e. cc) (ltb run.position n && ltb to n) test (λ b. refused-by Position (readable, test.1 b))
      (λ b.
      let both = both_true (ltb run.position n) (ltb to n) b in
      after (ltb-true run.position n both.0) (ltb-true to n both.1))

  pub report-settled : Settled answer Err (report_rows run text plate to)
  report-settled =
      chart-row (λ x y e. cc) text (λ r e. refused-by (OfChart r) e)
      (λ chart e.
      form-row (λ x y e. cc) text plate chart e (λ line f. refused-by (Plate line) (record { chart = chart; taken = e; bad = (bad-line-exact chart.positions line plate).0 f }))
      (λ f.
      let form = (form-exact chart.positions plate).0 f in
      position-row (record { chart = chart; taken = e; form = form })
      (λ own inside.
      fault-row (λ x y e. cc) text plate (λ v c g. refused-by (Fault v c) (verdict-means text plate chart e form (Err (fault_of v c)) g, own, inside))
      (λ g. move-rows (record { accepted = verdict-means text plate chart e form (Ok tt) g; own = own; inside = inside })))))

  -- of a lane, where the plate is accepted
  pub lane-settled : AcceptedIs text plate → Settled answer Err (lane_rows run text plate to)
  lane-settled is =
      position-row (record { chart = is.chart; taken = is.taken; form = is.form })
      (λ own inside. move-rows (record { accepted = is; own = own; inside = inside }))

  -- "the run comes back unchanged"
  pub report-unmoved : (x : Refusal) → answer ≡ Err x → (reported run text plate to).run ≡ run
  report-unmoved x q = (subst (ReportIs run text plate to (reported run text plate to).run) q ((report-exactly run text plate to (reported run text plate to).run answer).0 refl)).1
