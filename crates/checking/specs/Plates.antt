-- "An accepted plate has the right values and an optimal controller, whoever made it. With right values and
-- any optimal positional controller, the steps above make a plate that is accepted", its first line counted.
use Rattle.std.specs.Prelude.{ℕ, ◌≤◌, ◌<◌, ◌≡◌, refl, List, Ok}
use Rattle.std.proofs.Common.{arith, sym, ap, subst, ◌∙◌}
use Rattle.plate.specs.RangeLaws.{below-when, legal-below}
use Rattle.rows.specs.Numbers.{value_of}
use Rattle.rows.specs.NumberLaws.{Fits, value-of-number}
use Rattle.game.specs.Value.{Value, fin, ever}
use Rattle.game.specs.Arena.{Arena, WellFormed, owner_at, size}
use Rattle.game.specs.FirstLine.{highest}
use Rattle.game.proofs.FirstLineLaws.{pairs-within-size, evers-within-size}
use Rattle.game.specs.Table.{round_value, round_step}
use Rattle.game.proofs.RoundBounds.{round-value-within-size, round-step-within-size, highest-within-size}
use Rattle.game.specs.Best.{best_at}
use Rattle.game.proofs.BestLaws.{best-is-legal}
use Rattle.game.proofs.RoundValues.{round-choices-are-worth-the-values, rounds-give-the-values, the-value-is-the-rounds}
use Rattle.chart.specs.Meaning.{arena_of}
use Rattle.chart.specs.Examined.{examined}
use Rattle.chart.specs.Accepted.{accepted-chartable, accepted-size}
use Rattle.rows.specs.declared.Chart.{Chart}
use Rattle.rows.specs.FirstLine.{FirstLineIs}
use Rattle.rows.specs.FirstLineLaws.{first-line-same}
use Rattle.rows.specs.declared.FirstLine.{FirstLine}
use Rattle.plate.specs.Text.{plate_text}
use Rattle.plate.specs.Form.{OfForm}
use Rattle.plate.specs.Range.{Below, InRange}
use Rattle.plate.specs.Read.{header_in, value_in_plate, choice_in_plate, step_in_plate}
use Rattle.plate.specs.RoundTrip.{set-out-is-of-form, reading-undoes-writing}
use Rattle.verdict.specs.Verdict.{RightPlate, verdict_of}
use Rattle.verdict.specs.Accepted.{accepted-is-right, right-is-accepted}
use Rattle.verdict.specs.Exact.{sound-exactly}
use Rattle.verdict.specs.SameFault.{verdict-same}
use Rattle.checking.specs.Checking.{checked}
use Rattle.checking.specs.CheckingLaws.{target-inside}
use Rattle.checking.specs.AnswersExact.{accepted-of, answer-exactly}

pub accepted-plate-is-right : (text plate : List ℕ) → checked text plate ≡ Ok tt → RightPlate (arena_of text) (value_in_plate plate) (choice_in_plate plate)
accepted-plate-is-right text plate e =
    let is = (answer-exactly text plate (Ok tt)).0 e in
    accepted-is-right (arena_of text) (accepted-chartable text is.chart is.taken).well-formed (value_in_plate plate) (choice_in_plate plate) (step_in_plate plate) (header_in plate)
    ((sound-exactly (arena_of text) (value_in_plate plate) (choice_in_plate plate) (step_in_plate plate) (header_in plate)).1 (is.certificate, is.header))

-- a right plate's numbers are in the form's range
module _ (a : Arena) (well : WellFormed a) (few : size a ≤ 512) (value choice : ℕ → Value) (plate : RightPlate a value choice) (h : FirstLine)
    (header : FirstLineIs (size a) value (round_step a) h) where
  rounds-value : (v : ℕ) → v < size a → value v ≡ round_value a v
  rounds-value v l = the-value-is-the-rounds a well v (value v) l (plate.right v l)

  header-highest : Below 512 (value_of h.highest)
  header-highest =
      rw ((first-line-same {t = round_step a} rounds-value (λ v l. refl) header).highest-value, value-of-number (highest (round_value a) (size a)) (fits (highest (round_value a) (size a)) refl))
      (below-when 512 (highest (round_value a) (size a)) (λ k e. let l = highest-within-size a well k e in omega arith))
    where
      fits : (x : Value) → highest (round_value a) (size a) ≡ x → Fits x
      fits (fin k) e = let l = highest-within-size a well k e in omega arith
      fits ever e = tt

  choice-inside : (v : ℕ) → v < size a → Below (size a) (choice v)
  choice-inside v l = legal-below a well (owner_at a v) v (choice v) (plate.legal v l)

  right-in-range : InRange (size a) h value choice (round_step a)
  right-in-range =
      record {
        rounds = omega (arith, header.rounds, pairs-within-size value (round_step a) (size a));
        highest = header-highest;
        evers = omega (arith, header.evers, evers-within-size value (size a));
        value_in = λ v l. below-when 512 (value v) (λ k e. let i = round-value-within-size a well v k (sym (rounds-value v l) ∙ e) in omega arith);
        choice-in = choice-inside;
        step_in = λ v l. below-when 512 (round_step a v) (λ k e. let i = round-step-within-size a well v k e in omega arith);
      }

  -- what is read of it is sound
  right-plate-sound : verdict_of a (value_in_plate (plate_text (size a) h value choice (round_step a))) (choice_in_plate (plate_text (size a) h value choice (round_step a)))
      (step_in_plate (plate_text (size a) h value choice (round_step a))) (header_in (plate_text (size a) h value choice (round_step a))) ≡ Ok tt
  right-plate-sound =
      let back = reading-undoes-writing (size a) h value choice (round_step a) few right-in-range in
      ap (verdict_of a _ _ _) back.header
      ∙ verdict-same a well _ value _ choice _ (round_step a) back.value-at back.choice-at back.step-at
      (λ v l. rw (back.choice-at v l) (target-inside (size a) (choice v) (omega arith) (choice-inside v l))) h
      ∙ right-is-accepted a well value choice (round_step a) h plate header

pub right-plate-is-accepted : (text : List ℕ) (chart : Chart) → examined text ≡ Ok chart → (value choice : ℕ → Value) → RightPlate (arena_of text) value choice
    → (h : FirstLine) → FirstLineIs (size (arena_of text)) value (round_step (arena_of text)) h
    → checked text (plate_text (size (arena_of text)) h value choice (round_step (arena_of text))) ≡ Ok tt
right-plate-is-accepted text chart taken value choice right h header =
    let good = accepted-chartable text chart taken in
    let range = right-in-range (arena_of text) good.well-formed good.few-positions value choice right h header in
    let form = set-out-is-of-form (size (arena_of text)) h value choice (round_step (arena_of text)) good.few-positions range in
    let plate = plate_text (size (arena_of text)) h value choice (round_step (arena_of text)) in
    accepted-of text plate chart taken (subst (λ (n : ℕ). OfForm n plate) (accepted-size text chart taken) form) (Ok tt)
    (right-plate-sound (arena_of text) good.well-formed good.few-positions value choice right h header)

-- so the rounds' own plate is accepted
pub rounds-plate-is-right : (a : Arena) → WellFormed a → RightPlate a (round_value a) (best_at a (round_value a))
rounds-plate-is-right a well =
    record { right = rounds-give-the-values a well; legal = best-is-legal a (round_value a) well; optimal = round-choices-are-worth-the-values a well }

pub rounds-plate-is-accepted : (text : List ℕ) (chart : Chart) → examined text ≡ Ok chart → (h : FirstLine)
    → FirstLineIs (size (arena_of text)) (round_value (arena_of text)) (round_step (arena_of text)) h
    → checked text (plate_text (size (arena_of text)) h (round_value (arena_of text)) (best_at (arena_of text) (round_value (arena_of text))) (round_step (arena_of text))) ≡ Ok tt
rounds-plate-is-accepted text chart taken h header =
    right-plate-is-accepted text chart taken (round_value (arena_of text)) (best_at (arena_of text) (round_value (arena_of text)))
    (rounds-plate-is-right (arena_of text) (accepted-chartable text chart taken).well-formed) h header
