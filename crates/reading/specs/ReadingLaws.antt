-- Reading's answers, one law for each way out.
use Rattle.std.specs.Prelude.{ℕ, refl, true, false, ◌&&◌, List, length, leb, Ok, Err}
use Rattle.std.proofs.Common.{arith, ap}
use Rattle.std.proofs.Math.Path.{◌≡◌}
use Rattle.chart.specs.Examined.{examined}
use Rattle.chart.specs.Accepted.{accepted-size}
use Rattle.rows.specs.declared.Chart.{Chart}
use Rattle.refusal.specs.declared.Misdrawn.{Misdrawn}
use Rattle.refusal.specs.declared.Refusal.{Refusal}
use Rattle.refusal.specs.declared.Refusal.TheVariants.{Chart as OfChart, Short, Plate}
use Rattle.rows.specs.declared.FirstLine.{FirstLine}
use Rattle.plate.specs.Formed.{form_of}
use Rattle.plate.specs.Read.{RowsRead}
use Rattle.reading.specs.Reading.{answer_to, read_by, reading, ReadingIs}

module _ {text plate values choices steps : List ℕ} where
  -- a refusal leaves the rows
  turned : (x : Refusal) → Err x ≡ reading text plate (length values) (length choices) (length steps) →
      ReadingIs text plate values values choices choices steps steps (Err x)
  turned x e = record { answer = e; taken = λ h q. let z : ◌≡◌ {A = ℕ} 0 1 = cc in absurd (omega arith); refused = λ y q. (refl, refl, refl) }

  pub reading-refused : {r : Misdrawn} → examined text ≡ Err r → ReadingIs text plate values values choices choices steps steps (Err (OfChart r))
  unfolding reading read_by
  reading-refused {r} e = turned (OfChart r) (rw e)

  module _ {chart : Chart} (accepted : examined text ≡ Ok chart) where
    pub reading-short : (leb chart.positions (length values) && (leb chart.positions (length choices) && leb chart.positions (length steps))) ≡ false →
        ReadingIs text plate values values choices choices steps steps (Err Short)
    unfolding reading read_by
    reading-short short = turned Short (rw (accepted, short))

    module _ (room : (leb chart.positions (length values) && (leb chart.positions (length choices) && leb chart.positions (length steps))) ≡ true) where
      pub reading-malformed : {line : ℕ} → form_of chart.positions plate ≡ Err line → ReadingIs text plate values values choices choices steps steps (Err (Plate line))
      unfolding reading read_by answer_to
      reading-malformed {line} e = turned (Plate line) (rw (accepted, room, e))

      pub reading-taken : {h : FirstLine} {values' choices' steps' : List ℕ} → form_of chart.positions plate ≡ Ok tt →
          RowsRead chart.positions plate h values values' choices choices' steps steps' → ReadingIs text plate values values' choices choices' steps steps' (Ok h)
      unfolding reading read_by answer_to
      reading-taken {h} e w =
          record {
            answer = rw (accepted, room, e) (ap Ok w.header);
            taken = λ k q. rw (accepted-size text chart accepted) w.rows;
            refused = λ x q. let z : ◌≡◌ {A = ℕ} 0 1 = cc in absurd (omega arith);
          }
