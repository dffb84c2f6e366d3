-- The answers to a start and to a report, one law for each way out.
use Rattle.std.specs.Prelude.{ℕ, ◌≤◌, ◌<◌, ◌≡◌, List, ⊤, Result, Ok, Err}
use Rattle.verdict.specs.declared.FoundFault.{FoundFault}
use Rattle.std.proofs.Math.Path.{refl, ap}
use Rattle.std.proofs.Common.{sym, ◌∙◌}
use borrow.Author.Tests.{lt-ltb, le-ltb, eq-eqb, ne_eqb}
use Rattle.rows.specs.Rows.{RowsOf}
use Rattle.rows.specs.Numbers.{number_of}
use Rattle.game.specs.Arena.{Arena}
use Rattle.chart.specs.Meaning.{arena_of}
use Rattle.chart.specs.Examined.{examined}
use Rattle.rows.specs.declared.Chart.{Chart}
use Rattle.refusal.specs.declared.Misdrawn.{Misdrawn}
use Rattle.refusal.specs.declared.Refusal.{Refusal}
use Rattle.refusal.specs.declared.Refusal.TheVariants.{Chart as OfChart, Position, Held}
use Rattle.plate.specs.Formed.{form_of}
use Rattle.plate.specs.Read.{value_in_plate, choice_in_plate}
use Rattle.checking.specs.Checking.{PlateIs, answer_of, plate_checked, plate_verdict}
use Rattle.moves.specs.Moves.{KindIs}
use Rattle.run.specs.Running.{AcceptedReport, CheckedReport, RowsReport, RowsStart, advice_at, begun_at, off_chart, reported, reported_by, reported_form, reported_inside, reported_move, reported_accepted, reported_verdict, started, started_by, started_form, started_inside, started_verdict, unmoved}
use Rattle.moves.specs.declared.Kind.{Kind}
use Rattle.run.specs.declared.Run.{Run}
use Rattle.run.specs.declared.Advice.{Advice}
use Rattle.run.specs.declared.Reported.{Reported}

-- Start

-- by Checking's answer, where the position is on the chart
unfoldable pub started_checked : List ℕ → ℕ → Result ⊤ Refusal → Result (Run × Advice) Refusal
started_checked plate position (Ok _) = begun_at plate position
started_checked plate position (Err x) = Err x

module _ {n m : ℕ} {owners marks costs froms tos : List ℕ} (plate : List ℕ) (position : ℕ) where
  pub start_outside : n ≤ position → RowsStart n m owners marks costs froms tos plate position (Err (off_chart (form_of n plate)))
  unfolding started_form started_inside off_chart
  start_outside l = record { answer = λ a d. go a d (form_of n plate) }
    where
      go : (a : Arena) → RowsOf a n m owners marks costs froms tos → (f : Result ⊤ ℕ) → Err (off_chart f) ≡ started_form a plate position f
      go a d (Err line) = refl
      go a d (Ok _) = rw (d.positions, le-ltb position n l)

  pub start-inside : position < n → {c k : Result ⊤ Refusal} {s : Result (Run × Advice) Refusal} → PlateIs n m owners marks costs froms tos plate c → c ≡ k → s ≡ started_checked plate position k
      → RowsStart n m owners marks costs froms tos plate position s
  unfolding started_form started_inside started_checked started_verdict plate_checked
  start-inside l is e z =
      record { answer = λ a d. z ∙ ap (started_checked plate position) (sym e ∙ is.answer a d) ∙ go a d (form_of n plate) }
    where
      by : (r : Result ⊤ FoundFault) → started_checked plate position (answer_of r) ≡ started_verdict plate position r
      by (Ok _) = refl
      by (Err f) = refl

      go : (a : Arena) → RowsOf a n m owners marks costs froms tos → (f : Result ⊤ ℕ) → started_checked plate position (plate_checked a plate f) ≡ started_form a plate position f
      go a d (Err line) = refl
      go a d (Ok _) = rw (d.positions, lt-ltb position n l) (by (plate_verdict a plate))

pub start-refused : (text plate : List ℕ) (position : ℕ) (r : Misdrawn) → examined text ≡ Err r → Err (OfChart r) ≡ started text plate position
unfolding started started_by
start-refused text plate position r e = rw e

pub start-taken : (text plate : List ℕ) (position : ℕ) (chart : Chart) {r : Result (Run × Advice) Refusal} {owners marks costs froms tos : List ℕ} → examined text ≡ Ok chart
    → RowsOf (arena_of text) chart.positions chart.moves owners marks costs froms tos
    → RowsStart chart.positions chart.moves owners marks costs froms tos plate position r → r ≡ started text plate position
unfolding started started_by
start-taken text plate position chart e d h = h.answer (arena_of text) d ∙ rw e

-- Report

-- the advice's numbers are the plate's
pub choice-of : (plate : List ℕ) (v : ℕ) {advice : Advice} → advice ≡ advice_at plate v → advice.choice ≡ number_of (choice_in_plate plate v)
unfolding advice_at
choice-of plate v e = ap (λ (x : Advice). x.choice) e

pub value_of : (plate : List ℕ) (v : ℕ) {advice : Advice} → advice ≡ advice_at plate v → advice.value ≡ number_of (value_in_plate plate v)
unfolding advice_at
value_of plate v e = ap (λ (x : Advice). x.value) e

module _ {n m : ℕ} {owners costs froms tos : List ℕ} (run : Run) (plate : List ℕ) (to : ℕ) where
  pub not-held : {number : ℕ} → (number ≡ run.value → ⊥) → number ≡ number_of (value_in_plate plate run.position)
      → AcceptedReport n m owners costs froms tos run plate to (unmoved run Held)
  unfolding reported_accepted
  not-held apart e = record { answer = λ a marks d. rw (ne_eqb (number_of (value_in_plate plate run.position)) run.value (λ same. apart (e ∙ same))) }

  pub held-report : {number value : ℕ} {found k : Kind} {r : Reported} → value ≡ run.value → value ≡ number_of (value_in_plate plate run.position)
      → KindIs n m owners costs froms tos number run.position to found → number ≡ number_of (choice_in_plate plate run.position) → found ≡ k
      → r ≡ reported_move run plate to k → AcceptedReport n m owners costs froms tos run plate to r
  unfolding reported_accepted
  held-report held e kind z told is =
      record {
        answer = λ a marks d.
            is ∙ rw (eq-eqb (number_of (value_in_plate plate run.position)) run.value (sym e ∙ held))
            (ap (reported_move run plate to) (sym told ∙ kind.answer a marks d (choice_in_plate plate run.position) z));
      }

  -- on an accepted plate, where a position is not on the chart and where both are
  pub checked-own-outside : n ≤ run.position → CheckedReport n m owners costs froms tos run plate to (unmoved run Position)
  unfolding reported_inside
  checked-own-outside l = record { answer = λ a marks d sound. rw (d.positions, le-ltb run.position n l) }

  pub checked-outside : run.position < n → n ≤ to → CheckedReport n m owners costs froms tos run plate to (unmoved run Position)
  unfolding reported_inside
  checked-outside own l = record { answer = λ a marks d sound. rw (d.positions, lt-ltb run.position n own, le-ltb to n l) }

  pub checked-inside : run.position < n → to < n → {r : Reported} → AcceptedReport n m owners costs froms tos run plate to r → CheckedReport n m owners costs froms tos run plate to r
  unfolding reported_inside reported_verdict
  checked-inside own inside h =
      record { answer = λ a marks d sound. h.answer a marks d ∙ rw (d.positions, lt-ltb run.position n own, lt-ltb to n inside, sound) }

-- by Checking's answer, where both positions are on the chart
unfoldable reported_checked : Run → Arena → List ℕ → ℕ → Result ⊤ Refusal → Reported
reported_checked run a plate to (Ok _) = reported_accepted run a plate to
reported_checked run a plate to (Err x) = unmoved run x

module _ {n m : ℕ} {owners marks costs froms tos : List ℕ} (run : Run) (plate : List ℕ) (to : ℕ) where
  -- where a position is not on the chart, by the plate's form
  outside : ((a : Arena) → RowsOf a n m owners marks costs froms tos → unmoved run Position ≡ reported_inside run a plate to)
      → RowsReport n m owners marks costs froms tos run plate to (unmoved run (off_chart (form_of n plate)))
  unfolding reported_form off_chart
  outside is = record { answer = λ a d. go a d (form_of n plate) }
    where
      go : (a : Arena) → RowsOf a n m owners marks costs froms tos → (f : Result ⊤ ℕ) → unmoved run (off_chart f) ≡ reported_form run a plate to f
      go a d (Err line) = refl
      go a d (Ok _) = is a d

  pub own-outside : n ≤ run.position → RowsReport n m owners marks costs froms tos run plate to (unmoved run (off_chart (form_of n plate)))
  unfolding reported_inside
  own-outside l = outside (λ a d. rw (d.positions, le-ltb run.position n l))

  module _ (own : run.position < n) where
    pub to-outside : n ≤ to → RowsReport n m owners marks costs froms tos run plate to (unmoved run (off_chart (form_of n plate)))
    unfolding reported_inside
    to-outside l = outside (λ a d. rw (d.positions, lt-ltb run.position n own, le-ltb to n l))

    module _ (inside : to < n) {c : Result ⊤ Refusal} (is : PlateIs n m owners marks costs froms tos plate c) where
      by_answer : (k : Result ⊤ Refusal) → c ≡ k → (a : Arena) → RowsOf a n m owners marks costs froms tos → reported_checked run a plate to k ≡ reported_form run a plate to (form_of n plate)
      unfolding reported_form reported_inside reported_verdict reported_checked plate_checked
      by_answer k e a d = ap (reported_checked run a plate to) (sym e ∙ is.answer a d) ∙ go (form_of n plate)
        where
          by : (r : Result ⊤ FoundFault) → reported_checked run a plate to (answer_of r) ≡ reported_verdict run a plate to r
          by (Ok _) = refl
          by (Err f) = refl

          go : (f : Result ⊤ ℕ) → reported_checked run a plate to (plate_checked a plate f) ≡ reported_form run a plate to f
          go (Err line) = refl
          go (Ok _) = rw (d.positions, lt-ltb run.position n own, lt-ltb to n inside) (by (plate_verdict a plate))

      pub refused-report : (x : Refusal) → c ≡ Err x → RowsReport n m owners marks costs froms tos run plate to (unmoved run x)
      unfolding reported_checked
      refused-report x e = record { answer = by_answer (Err x) e }

      pub accepted-report : {s : Reported} → c ≡ Ok tt → AcceptedReport n m owners costs froms tos run plate to s → RowsReport n m owners marks costs froms tos run plate to s
      unfolding reported_checked
      accepted-report e h = record { answer = λ a d. h.answer a marks d ∙ by_answer (Ok tt) e a d }

pub report-refused : (run : Run) (text plate : List ℕ) (to : ℕ) (r : Misdrawn) → examined text ≡ Err r → unmoved run (OfChart r) ≡ reported run text plate to
unfolding reported reported_by
report-refused run text plate to r e = rw e

pub report-taken : (run : Run) (text plate : List ℕ) (to : ℕ) (chart : Chart) {r : Reported} {owners marks costs froms tos : List ℕ} → examined text ≡ Ok chart
    → RowsOf (arena_of text) chart.positions chart.moves owners marks costs froms tos
    → RowsReport chart.positions chart.moves owners marks costs froms tos run plate to r → r ≡ reported run text plate to
unfolding reported reported_by
report-taken run text plate to chart e d h = h.answer (arena_of text) d ∙ rw e
