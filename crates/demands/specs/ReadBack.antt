-- A plate that Writing made, read: it is of the form and Reading takes it, and the first line's numbers and the rows are what Valuing
-- gives. So a plate, written and read back, is the same plate.
use Rattle.std.specs.Prelude.{ℕ, ◌≡◌, refl, true, ◌&&◌, List, length, take, leb, Result, Ok}
use Rattle.std.proofs.Common.{sym, ap, ◌∙◌, le-leb}
use Rattle.std.proofs.Math.Path.{subst}
use Rattle.rows.specs.Numbers.{number_of}
use Rattle.rows.specs.Filling.{filled-same}
use Rattle.game.specs.Arena.{size}
use Rattle.game.specs.Table.{round_value, round_step}
use Rattle.game.specs.Best.{best_at}
use Rattle.chart.specs.Meaning.{arena_of}
use Rattle.chart.specs.Examined.{examined}
use Rattle.chart.specs.Accepted.{accepted-size, accepted-chartable}
use Rattle.rows.specs.declared.Chart.{Chart}
use Rattle.valuing.specs.Valuing.{PlateRows}
use Rattle.rows.specs.declared.FirstLine.{FirstLine}
use Rattle.plate.specs.Form.{OfForm}
use Rattle.plate.specs.Formed.{form_of}
use Rattle.plate.specs.Exact.{form-exact}
use Rattle.plate.specs.RoundTrip.{ReadsAs, set-out-is-of-form, reading-undoes-writing}
use Rattle.reading.specs.Reading.{answer_to, read_by, reading, ReadingIs}
use Rattle.reading.specs.ReadingTrip.{reading-took, reading-set-out}
use Rattle.writing.specs.Writing.{rounds_first_line, plate_of, WrittenIs}
use Rattle.writing.specs.Ranges.{arena-in-range}
use Rattle.demands.specs.SanctionedLaws.{writing-took, written-plate}
use Rattle.refusal.specs.declared.Refusal.{Refusal}
use Rattle.demands.specs.Demand2.{SamePlate}

module _ (text : List ℕ) (chart : Chart) (accepted : examined text ≡ Ok chart) where
  -- the plate that Writing makes is of the form, and reads as the rounds and choices
  pub written-is-of-form : OfForm (size (arena_of text)) (plate_of (arena_of text))
  unfolding plate_of
  written-is-of-form =
      let small = (accepted-chartable text chart accepted).few-positions in
      set-out-is-of-form _ _ _ _ _ small (arena-in-range (arena_of text) (accepted-chartable text chart accepted).well-formed small)

  pub written-reads : ReadsAs (size (arena_of text)) (plate_of (arena_of text)) (rounds_first_line (arena_of text)) (round_value (arena_of text)) (best_at (arena_of text) (round_value (arena_of text))) (round_step (arena_of text))
  unfolding plate_of
  written-reads =
      let small = (accepted-chartable text chart accepted).few-positions in
      reading-undoes-writing _ _ _ _ _ small (arena-in-range (arena_of text) (accepted-chartable text chart accepted).well-formed small)

  -- Reading takes it, given room
  pub written-is-taken : (values choices steps : ℕ) → (leb chart.positions values && (leb chart.positions choices && leb chart.positions steps)) ≡ true →
      reading text (plate_of (arena_of text)) values choices steps ≡ Ok (rounds_first_line (arena_of text))
  unfolding reading read_by answer_to
  written-is-taken values choices steps room =
      let good : form_of chart.positions (plate_of (arena_of text)) ≡ (Ok tt) =
      subst (λ (n : ℕ). form_of n (plate_of (arena_of text)) ≡ Ok tt) (accepted-size text chart accepted) ((form-exact (size (arena_of text)) (plate_of (arena_of text))).1 written-is-of-form) in
      rw (accepted, room, good) (ap Ok written-reads.header)

-- "from a plate that Writing made, they are what Valuing gives"
pub reading-gives-valuing : (text values values' choices choices' steps steps' : List ℕ) (r : Result FirstLine Refusal) (h : FirstLine) →
    ReadingIs text (plate_of (arena_of text)) values values' choices choices' steps steps' r → r ≡ Ok h →
    (h ≡ rounds_first_line (arena_of text)) × PlateRows (arena_of text) (size (arena_of text)) values values' choices choices' steps steps'
reading-gives-valuing text values values' choices choices' steps steps' r h is taken =
    let w = reading-took text (plate_of (arena_of text)) (length values) (length choices) (length steps) h (sym is.answer ∙ taken) in
    let back = written-reads text w.chart w.accepted in
    let rows = is.taken h taken in (
      w.header ∙ back.header,
      record {
        value = filled-same _ _ _ _ _ _ refl (λ v l. ap number_of (back.value-at v l)) rows.value;
        choice = filled-same _ _ _ _ _ _ refl (λ v l. ap number_of (back.choice-at v l)) rows.choice;
        step = filled-same _ _ _ _ _ _ refl (λ v l. ap number_of (back.step-at v l)) rows.step;
      },
    )

-- "A plate, written and read back, is the same plate"
pub written-and-read-back : {text out out' : List ℕ} {k : ℕ} → WrittenIs text out out' (Ok k) → SamePlate text (take k out')
written-and-read-back {text} {out} {out'} {k} w =
    let t = writing-took text (length out) k w.answer in
    subst (SamePlate text) (sym (written-plate w)) (same t.chart t.taken)
  where
    same : (chart : Chart) → examined text ≡ Ok chart → SamePlate text (plate_of (arena_of text))
    same chart accepted =
        record {
          taken = λ {values} {values'} {choices} {choices'} {steps} is enough-values enough-choices enough-steps.
              let n = accepted-size text chart accepted in
              let room : (leb chart.positions (length values) && (leb chart.positions (length choices) && leb chart.positions (length steps))) ≡ true =
              rw (← n, le-leb (size (arena_of text)) (length values) enough-values, le-leb (size (arena_of text)) (length choices) enough-choices, le-leb (size (arena_of text)) (length steps) enough-steps) in
              (rounds_first_line (arena_of text), is.answer ∙ written-is-taken text chart accepted (length values) (length choices) (length steps) room);
          same_bytes = λ is. reading-set-out text (plate_of (arena_of text)) _ _ _ _ _ _ _ _ is refl;
          same_numbers = λ is. reading-gives-valuing text _ _ _ _ _ _ _ _ is refl;
        }
