-- Each answer is given exactly when its condition holds: by cases on the chart's examination, the plate's form and the first
-- fault, each of which is exact.
use Rattle.std.specs.Prelude.{ℕ, ◌≡◌, ◌↔◌, List, ⊤, Result, Ok, Err}
use Rattle.verdict.specs.declared.FoundFault.{FoundFault}
use Rattle.verdict.specs.Verdict.{fault_of}
use Rattle.std.proofs.Math.Path.{refl}
use Rattle.std.proofs.Common.{subst}
use Rattle.chart.specs.Meaning.{arena_of}
use Rattle.chart.specs.Examined.{examined}
use Rattle.rows.specs.declared.Chart.{Chart}
use Rattle.refusal.specs.declared.Misdrawn.{Misdrawn}
use Rattle.refusal.specs.declared.Refusal.{Refusal}
use Rattle.refusal.specs.declared.Refusal.TheVariants.{Lanes, Chart as OfChart, NotSmall, Short, Plate, Choice, Position, Ever, Fault, Held, Move, Seen}
use Rattle.plate.specs.Form.{OfForm}
use Rattle.plate.specs.Formed.{form_of}
use Rattle.plate.specs.Exact.{form-exact, bad-line-exact}
use Rattle.plate.specs.Read.{header_in, value_in_plate, choice_in_plate, step_in_plate}
use Rattle.verdict.specs.Exact.{sound-exactly, first-fault-exactly}
use Rattle.checking.specs.Checking.{answer_of, chart_checked, checked, plate_checked, plate_verdict}
use Rattle.checking.specs.Answers.{AcceptedIs, FormIs, FaultIs, RefusedIs, AnswerIs}

module _ (text plate : List ℕ) where
  abbrev verdict : Result ⊤ FoundFault
  verdict = plate_verdict (arena_of text) plate

  -- the first fault, from what it says
  pub accepted-sound : AcceptedIs text plate → verdict ≡ Ok tt
  accepted-sound is = (sound-exactly (arena_of text) (value_in_plate plate) (choice_in_plate plate) (step_in_plate plate) (header_in plate)).1 (is.certificate, is.header)

  pub faulty-at : (v c : ℕ) → FaultIs text plate v c → verdict ≡ Err (fault_of v c)
  faulty-at v c is = (first-fault-exactly (arena_of text) (value_in_plate plate) (choice_in_plate plate) (step_in_plate plate) (header_in plate) v c).1 is.first

  module _ (chart : Chart) (taken : examined text ≡ Ok chart) where
    -- what the first fault of a plate of the form says
    pub verdict-means : OfForm chart.positions plate → (r : Result ⊤ FoundFault) → verdict ≡ r → AnswerIs text plate (answer_of r)
    verdict-means form (Ok _) e =
        let is = (sound-exactly (arena_of text) (value_in_plate plate) (choice_in_plate plate) (step_in_plate plate) (header_in plate)).0 e in
        record { chart = chart; taken = taken; form = form; certificate = is.0; header = is.1 }
    verdict-means form (Err f) e =
        record { chart = chart; taken = taken; form = form; first = (first-fault-exactly (arena_of text) (value_in_plate plate) (choice_in_plate plate) (step_in_plate plate) (header_in plate) f.position f.condition).0 e }

    examined-plate : (f : Result ⊤ ℕ) → form_of chart.positions plate ≡ f → AnswerIs text plate (plate_checked (arena_of text) plate f)
    unfolding plate_checked
    examined-plate (Ok _) e = verdict-means ((form-exact chart.positions plate).0 e) verdict refl
    examined-plate (Err line) e = record { chart = chart; taken = taken; bad = (bad-line-exact chart.positions line plate).0 e }

    -- the answers to a chart that is taken
    pub accepted-of : OfForm chart.positions plate → (r : Result ⊤ FoundFault) → verdict ≡ r → checked text plate ≡ answer_of r
    unfolding checked chart_checked plate_checked
    accepted-of form r e = rw (taken, (form-exact chart.positions plate).1 form, e)

  examined-chart : (x : Result Chart Misdrawn) → examined text ≡ x → AnswerIs text plate (chart_checked text plate x)
  unfolding chart_checked
  examined-chart (Err r) e = e
  examined-chart (Ok chart) e = examined-plate chart e (form_of chart.positions plate) refl

  answered : AnswerIs text plate (checked text plate)
  unfolding checked
  answered = examined-chart (examined text) refl

  refused : (r : Misdrawn) → examined text ≡ Err r → checked text plate ≡ Err (OfChart r)
  unfolding checked chart_checked
  refused r e = rw e

  formed : (line : ℕ) → FormIs text plate line → checked text plate ≡ Err (Plate line)
  unfolding checked chart_checked plate_checked
  formed line is = rw (is.taken, (bad-line-exact is.chart.positions line plate).1 is.bad)

  pub answer-exactly : (r : Result ⊤ Refusal) → (checked text plate ≡ r) ↔ AnswerIs text plate r
  answer-exactly r = (λ e. subst (AnswerIs text plate) e answered, from r)
    where
      refusal : (x : Refusal) → RefusedIs text plate x → checked text plate ≡ Err x
      refusal (OfChart r) e = refused r e
      refusal (Plate line) is = formed line is
      refusal (Fault v c) is =
          accepted-of is.chart is.taken is.form (Err (fault_of v c)) (faulty-at v c is)
      refusal Lanes is = absurd is
      refusal NotSmall is = absurd is
      refusal Short is = absurd is
      refusal Choice is = absurd is
      refusal Position is = absurd is
      refusal Ever is = absurd is
      refusal Held is = absurd is
      refusal Move is = absurd is
      refusal Seen is = absurd is

      from : (r : Result ⊤ Refusal) → AnswerIs text plate r → checked text plate ≡ r
      from (Ok _) is =
          accepted-of is.chart is.taken is.form (Ok tt) (accepted-sound is)
      from (Err x) is = refusal x is
