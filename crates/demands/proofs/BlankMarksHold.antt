-- Blank marks make no difference: texts that differ only in them have the same examination and the same arena (chart/specs/BlankLaws.antt),
-- and every job's answer is computed from these two. What a job leaves in a row is settled by its answer, so it is the same too.
use Rattle.std.specs.Prelude.{ℕ, ◌*◌, ◌≡◌, leb, ⊤, Result, Ok, Err}
use Rattle.std.proofs.Math.Path.{refl, sym, ap, ap₂, fun_ext}
use Rattle.std.proofs.Common.{◌∙◌, subst}
use Rattle.std.proofs.Math.Bool.{cond}
use mathlib.Core.List.{List, ◌++◌}
use Rattle.std.proofs.Math.ListN.{length, drop}
use Rattle.std.proofs.Math.Seq.{ext_get_or}
use Rattle.rows.specs.Filling.{filled-unique}
use Rattle.game.specs.Arena.{Arena, size}
use Rattle.chart.specs.Meaning.{arena_of}
use Rattle.chart.specs.Examined.{examined}
use Rattle.chart.specs.BlankLaws.{examined-same, arena-same}
use Rattle.refusal.specs.declared.Refusal.TheVariants.{Lanes, Short}
use Rattle.valuing.specs.Valuing.{PlateRows, valued_by, valued, ValuedIs}
use Rattle.writing.specs.Writing.{plate_of, written_by, written, WrittenIs}
use Rattle.reading.specs.Reading.{read_by, reading, ReadingIs}
use Rattle.plate.specs.Formed.{form_of}
use Rattle.plate.specs.Read.{ColumnsRead}
use Rattle.checking.specs.Checking.{plate_checked, chart_checked, checked}
use Rattle.weighing.specs.Weighing.{WorthRow, weighed_by, weighed, WeighedIs}
use Rattle.comparing.specs.Comparing.{compared_form, compared_by, compared}
use Rattle.indexing.specs.Indexing.{indexed_by, indexed}
use Rattle.listing.specs.Listing.{good_sheet, listed_by, listed, ListedIs}
use Rattle.run.specs.Running.{no_run, started_form, started_by, started, reported_form, reported_by, reported}
use Rattle.run.specs.declared.Run.{Run}
use Rattle.run.specs.declared.Reported.{Reported}
use Rattle.house.specs.Housing.{HouseIs, checked_answer, drivable, house_answer, lane_after, singly}
use Rattle.response.specs.Response.{response_by, response, Responded}
use Rattle.rows.specs.Numbers.{row_value}
use Rattle.game.specs.Play.{Trail}
use Rattle.way.proofs.OneWay.{way-by-choices}
use Rattle.ruin.specs.Sheet.{way_sheet}
use Rattle.ruin.specs.Ruin.{WayWritten, ruined_by, ruined, RuinedIs}
use Rattle.demands.proofs.WayToRuinHolds.{shortest-way}
use Rattle.rows.specs.declared.Chart.{Chart}
use Rattle.rows.specs.declared.FirstLine.{FirstLine}
use Rattle.refusal.specs.declared.Misdrawn.{Misdrawn}
use Rattle.refusal.specs.declared.Refusal.{Refusal}
use Rattle.demands.specs.BlankMarks.{SameChart, BlankMarks}

module _ (text other : List ℕ) (same : SameChart text other) where
  -- an answer that is computed from the examination and the arena
  both : {A : Type 0} (f : Result Chart Misdrawn → Arena → A) → f (examined text) (arena_of text) ≡ f (examined other) (arena_of other)
  both f = ap₂ f same.examination same.arena

  -- one that is computed from the examination, each way for its own text
  either : {A : Type 0} (f g : Result Chart Misdrawn → A) → ((e : Result Chart Misdrawn) → f e ≡ g e) → f (examined text) ≡ g (examined other)
  either f g h = h (examined text) ∙ ap g same.examination

  valuing-same : {values values₁ values₂ choices choices₁ choices₂ steps steps₁ steps₂ : List ℕ} {r s : Result ℕ Refusal} →
      ValuedIs text values values₁ choices choices₁ steps steps₁ r → ValuedIs other values values₂ choices choices₂ steps steps₂ s →
      (r ≡ s) × (values₁ ≡ values₂) × (choices₁ ≡ choices₂) × (steps₁ ≡ steps₂)
  unfolding valued
  valuing-same {values} {values₁} {values₂} {choices} {choices₁} {choices₂} {steps} {steps₁} {steps₂} {r} {s} a b = let w = go r refl in (answers, w.0, w.1, w.2)
    where
      answers : r ≡ s
      answers = a.answer ∙ both (λ e x. valued_by e x (length values) (length choices) (length steps)) ∙ sym b.answer

      go : (x : Result ℕ Refusal) → r ≡ x → (values₁ ≡ values₂) × (choices₁ ≡ choices₂) × (steps₁ ≡ steps₂)
      go (Ok k) e =
          let p = subst (λ (x : Arena). PlateRows x (size x) values values₁ choices choices₁ steps steps₁) same.arena (a.taken k e) in
          let q = b.taken k (sym answers ∙ e) in
          (filled-unique p.value q.value, filled-unique p.choice q.choice, filled-unique p.step q.step)
      go (Err x) e =
          let p = a.refused x e in
          let q = b.refused x (sym answers ∙ e) in
          (p.0 ∙ sym q.0, p.1 ∙ sym q.1, p.2 ∙ sym q.2)

  writing-same : {out out₁ out₂ : List ℕ} {r s : Result ℕ Refusal} → WrittenIs text out out₁ r → WrittenIs other out out₂ s → (r ≡ s) × (out₁ ≡ out₂)
  unfolding written
  writing-same {out} {out₁} {out₂} {r} {s} a b = (answers, go r refl)
    where
      answers : r ≡ s
      answers = a.answer ∙ ap (λ (e : Result Chart Misdrawn). written_by e (length out)) same.examination ∙ sym b.answer

      go : (x : Result ℕ Refusal) → r ≡ x → out₁ ≡ out₂
      go (Ok k) e = a.taken k e ∙ ap (λ (x : Arena). plate_of x ++ drop k out) same.arena ∙ sym (b.taken k (sym answers ∙ e))
      go (Err x) e = a.refused x e ∙ sym (b.refused x (sym answers ∙ e))

  reading-same : {plate values values₁ values₂ choices choices₁ choices₂ steps steps₁ steps₂ : List ℕ} {r s : Result FirstLine Refusal} →
      ReadingIs text plate values values₁ choices choices₁ steps steps₁ r → ReadingIs other plate values values₂ choices choices₂ steps steps₂ s →
      (r ≡ s) × (values₁ ≡ values₂) × (choices₁ ≡ choices₂) × (steps₁ ≡ steps₂)
  unfolding reading
  reading-same {plate} {values} {values₁} {values₂} {choices} {choices₁} {choices₂} {steps} {steps₁} {steps₂} {r} {s} a b = let w = go r refl in (answers, w.0, w.1, w.2)
    where
      answers : r ≡ s
      answers = a.answer ∙ ap (λ (e : Result Chart Misdrawn). read_by e plate (length values) (length choices) (length steps)) same.examination ∙ sym b.answer

      go : (x : Result FirstLine Refusal) → r ≡ x → (values₁ ≡ values₂) × (choices₁ ≡ choices₂) × (steps₁ ≡ steps₂)
      go (Ok h) e =
          let p = subst (λ (x : Arena). ColumnsRead (size x) plate values values₁ choices choices₁ steps steps₁) same.arena (a.taken h e) in
          let q = b.taken h (sym answers ∙ e) in
          (filled-unique p.value q.value, filled-unique p.choice q.choice, filled-unique p.step q.step)
      go (Err x) e =
          let p = a.refused x e in
          let q = b.refused x (sym answers ∙ e) in
          (p.0 ∙ sym q.0, p.1 ∙ sym q.1, p.2 ∙ sym q.2)

  weighing-same : {choices worths worths₁ worths₂ : List ℕ} {r s : Result ⊤ Refusal} → WeighedIs text choices worths worths₁ r → WeighedIs other choices worths worths₂ s →
      (r ≡ s) × (worths₁ ≡ worths₂)
  unfolding weighed
  weighing-same {choices} {worths} {worths₁} {worths₂} {r} {s} a b = (answers, go r refl)
    where
      answers : r ≡ s
      answers = a.answer ∙ both (λ e x. weighed_by e x choices (length worths)) ∙ sym b.answer

      go : (x : Result ⊤ Refusal) → r ≡ x → worths₁ ≡ worths₂
      go (Ok _) e =
          let p = subst (λ (x : Arena). WorthRow x (size x) choices worths worths₁) same.arena (a.taken e) in
          filled-unique p.row (b.taken (sym answers ∙ e)).row
      go (Err x) e = a.refused x e ∙ sym (b.refused x (sym answers ∙ e))

  checking-same : (plate : List ℕ) → checked text plate ≡ checked other plate
  unfolding checked chart_checked
  checking-same plate = either (chart_checked text plate) (chart_checked other plate) go
    where
      go : (e : Result Chart Misdrawn) → chart_checked text plate e ≡ chart_checked other plate e
      go (Err r) = refl
      go (Ok chart) = ap (λ (x : Arena). plate_checked x plate (form_of chart.positions plate)) same.arena

  comparing-same : (plate choices : List ℕ) → compared text plate choices ≡ compared other plate choices
  unfolding compared compared_by
  comparing-same plate choices = either (compared_by text plate choices) (compared_by other plate choices) go
    where
      go : (e : Result Chart Misdrawn) → compared_by text plate choices e ≡ compared_by other plate choices e
      go (Err r) = refl
      go (Ok chart) =
          ap (λ (x : Arena). cond (leb chart.positions (length choices)) (compared_form x plate choices (form_of chart.positions plate)) (Err Short)) same.arena

  listing-same : {out out₁ out₂ : List ℕ} {r s : Result ℕ Refusal} → ListedIs text out out₁ r → ListedIs other out out₂ s → (r ≡ s) × (out₁ ≡ out₂)
  unfolding listed
  listing-same {out} {out₁} {out₂} {r} {s} a b = (answers, go r refl)
    where
      answers : r ≡ s
      answers = a.answer ∙ both (λ e x. listed_by e x (length out)) ∙ sym b.answer

      go : (x : Result ℕ Refusal) → r ≡ x → out₁ ≡ out₂
      go (Ok k) e = a.taken k e ∙ ap (λ (x : Arena). good_sheet x ++ drop (k * 12) out) same.arena ∙ sym (b.taken k (sym answers ∙ e))
      go (Err x) e = a.refused x e ∙ sym (b.refused x (sym answers ∙ e))

  indexing-same : indexed text ≡ indexed other
  unfolding indexed
  indexing-same = both indexed_by

  ruin-same : {choices out out₁ out₂ : List ℕ} {position : ℕ} {r s : Result ℕ Refusal} → RuinedIs text choices position out out₁ r → RuinedIs other choices position out out₂ s
      → (r ≡ s) × (out₁ ≡ out₂)
  unfolding ruined
  ruin-same {choices} {out} {out₁} {out₂} {position} {r} {s} a b = (answers, go r refl)
    where
      answers : r ≡ s
      answers = a.answer ∙ both (λ e x. ruined_by e x choices position (length out)) ∙ sym b.answer

      -- there is one way, so its lines are the same
      go : (x : Result ℕ Refusal) → r ≡ x → out₁ ≡ out₂
      go (Ok k) e =
          let p = subst (λ (x : Arena). WayWritten x choices position k out out₁) same.arena (a.taken k e) in
          let q = b.taken k (sym answers ∙ e) in
          let w = shortest-way other choices position out out₂ k (subst (RuinedIs other choices position out out₂) (sym answers ∙ e) b) in
          let here = w.only p.trail (way-by-choices (arena_of other) (row_value choices) p.legal w.legal position p.trail p.way) in
          let there = w.only q.trail (way-by-choices (arena_of other) (row_value choices) q.legal w.legal position q.trail q.way) in
          p.bytes ∙ ap (λ (x : Trail). way_sheet position x ++ drop (k * 12) out) (here ∙ sym there) ∙ sym q.bytes
      go (Err x) e = a.refused x e ∙ sym (b.refused x (sym answers ∙ e))

  start-same : (plate : List ℕ) (position : ℕ) → started text plate position ≡ started other plate position
  unfolding started started_by
  start-same plate position = either (started_by text plate position) (started_by other plate position) go
    where
      go : (e : Result Chart Misdrawn) → started_by text plate position e ≡ started_by other plate position e
      go (Err r) = refl
      go (Ok chart) = ap (λ (x : Arena). started_form x plate position (form_of chart.positions plate)) same.arena

  report-same : (run : Run) (plate : List ℕ) (to : ℕ) → reported run text plate to ≡ reported run other plate to
  unfolding reported reported_by
  report-same run plate to = either (reported_by run text plate to) (reported_by run other plate to) go
    where
      go : (e : Result Chart Misdrawn) → reported_by run text plate to e ≡ reported_by run other plate to e
      go (Err r) = refl
      go (Ok chart) = ap (λ (x : Arena). reported_form run x plate to (form_of chart.positions plate)) same.arena

  house-same : {runs after₁ after₂ : List Run} {reports plate : List ℕ} {r s : Result ℕ (ℕ × Refusal)}
      → HouseIs runs reports text plate after₁ r → HouseIs runs reports other plate after₂ s → (r ≡ s) × (after₁ ≡ after₂)
  unfolding house_answer
  house-same {runs} {after₁} {after₂} {reports} {plate} {r} {s} a b =
      (answers, ext_get_or no_run after₁ after₂ (a.count ∙ sym b.count) (λ i l. a.records i ∙ lane-same i ∙ sym (b.records i)))
    where
      singly-same : singly text plate ≡ singly other plate
      singly-same = fun_ext (λ run. fun_ext (λ to. report-same run plate to))

      answer_by : (Run → ℕ → Reported) → Result ⊤ Refusal → Result ℕ (ℕ × Refusal)
      answer_by single c = cond (drivable (length runs) (length reports)) (checked_answer single runs reports (length runs) c) (Err (0, Lanes))

      answers : r ≡ s
      answers = a.answer ∙ ap₂ answer_by singly-same (checking-same plate) ∙ sym b.answer

      lane-same : (i : ℕ) → lane_after (singly text plate) runs reports r i ≡ lane_after (singly other plate) runs reports s i
      lane-same i = ap₂ (λ (single : Run → ℕ → Reported) (x : Result ℕ (ℕ × Refusal)). lane_after single runs reports x i) singly-same answers

  program-same : {out out₁ out₂ : List ℕ} {r s : ℕ} → Responded text out out₁ r → Responded other out out₂ s → (r ≡ s) × (out₁ ≡ out₂)
  unfolding response
  program-same {out} {r = r} {s = s} a b =
      let bytes = both response_by in
      let size_same : r ≡ s = a.size ∙ ap length bytes ∙ sym b.size in
      (size_same, a.bytes ∙ ap₂ (λ (l : List ℕ) (k : ℕ). l ++ drop k out) bytes size_same ∙ sym b.bytes)

pub blank-marks : BlankMarks
blank-marks text other d =
    let same : SameChart text other = record { examination = examined-same text other d; arena = arena-same text other d } in (
      same,
      record {
        valuing = valuing-same text other same;
        writing = writing-same text other same;
        reading = reading-same text other same;
        checking = checking-same text other same;
        weighing = weighing-same text other same;
        comparing = λ a b. a.answer ∙ comparing-same text other same _ _ ∙ sym b.answer;
        listing = listing-same text other same;
        indexing = indexing-same text other same;
        ruin = ruin-same text other same;
        start = start-same text other same;
        report = report-same text other same;
        house = house-same text other same;
        program = program-same text other same;
      },
    )
