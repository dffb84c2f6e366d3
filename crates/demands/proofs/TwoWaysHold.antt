-- The two ways agree, by their contracts alone: the answer is computed from the chart and the rows' lengths, the rows' numbers are those of
-- the arena, and so are the bytes that Writing leaves.
use Rattle.std.specs.Prelude.{ℕ, ◌≡◌, refl, List, length, Ok}
use Rattle.std.proofs.Common.{sym, ◌∙◌}
use borrow.Author.Tests.{le-leb}
use Rattle.rows.specs.declared.Chart.{Chart}
use Rattle.game.specs.Arena.{size}
use Rattle.game.specs.Table.{round_value, round_step}
use Rattle.game.specs.FirstLine.{pair_count}
use Rattle.chart.specs.Text.{positions_of, moves_of}
use Rattle.chart.specs.Meaning.{arena_of}
use Rattle.chart.specs.Examined.{examined}
use Rattle.chart.specs.Exact.{accepted-exactly}
use Rattle.chart.specs.Accepted.{accepted-size, accepted-chartable}
use Rattle.valuing.specs.Valuing.{valued, valued_by}
use Rattle.valuing.specs.ValuedMeansHold.{Took, valuing-took}
use Rattle.writing.specs.Writing.{plate_of}
use Rattle.writing.specs.WritingLaws.{plate-of-rows}
use Rattle.demands.specs.SanctionedLaws.{written-plate}
use Rattle.demands.specs.TwoWays.{Call, Room, plate_of_rows, SameRowsAndPlate, TwoWays}

module _ {text : List ℕ} (call : Call text) where
  -- an accepted chart and rows with room: the rounds are answered
  answers-rounds : (chart : Chart) → examined text ≡ Ok chart → Room call
      → call.answer ≡ Ok (pair_count (round_value (arena_of text)) (round_step (arena_of text)) (size (arena_of text)))
  unfolding valued valued_by
  answers-rounds chart e room =
      call.ensured.answer
      ∙ rw (e, ← accepted-size text chart e, le-leb _ _ room.value, le-leb _ _ room.choice, le-leb _ _ room.step)

  module _ {k : ℕ} (answered : call.answer ≡ Ok k) where
    took : Took text k
    took = valuing-took text (length call.values) (length call.choices) (length call.steps) k (sym answered ∙ call.ensured.answer)

    arena-plate : plate_of_rows call ≡ plate_of (arena_of text)
    arena-plate =
        let fit = accepted-chartable text took.chart took.taken in
        plate-of-rows fit.well-formed fit.few-positions (call.ensured.taken k answered)

module _ {text : List ℕ} (filed plain : Call text) {j k : ℕ} (filed-answered : filed.answer ≡ Ok j) (plain-answered : plain.answer ≡ Ok k) where
  same-rows-and-plate : SameRowsAndPlate filed plain j k
  same-rows-and-plate =
      let p = filed.ensured.taken j filed-answered in
      let q = plain.ensured.taken k plain-answered in
      let plain-plate = arena-plate plain plain-answered in
      record {
        rounds = (took filed filed-answered).counted ∙ sym (took plain plain-answered).counted;
        value = λ v l. p.value.row v l ∙ sym (q.value.row v l);
        choice = λ v l. p.choice.row v l ∙ sym (q.choice.row v l);
        step = λ v l. p.step.row v l ∙ sym (q.step.row v l);
        plate = arena-plate filed filed-answered ∙ sym plain-plate;
        written = λ w. written-plate w ∙ sym plain-plate;
      }

pub two_ways : TwoWays
two_ways text filed plain =
    record {
      answer = λ long. cc;
      taken = λ none room other.
          let chart : Chart = record { positions = positions_of text; moves = moves_of text } in
          let e = (accepted-exactly text chart).1 (none, refl) in
          (_, answers-rounds filed chart e room, answers-rounds plain chart e other);
      same = same-rows-and-plate filed plain;
    }
