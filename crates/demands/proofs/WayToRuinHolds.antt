-- The way to ruin's proof: the trail whose lines are written is the one way that there is (way/proofs/OneWay.antt).
use Rattle.std.specs.Prelude.{ℕ, ◌*◌, ◌<◌, ◌≡◌, refl, Bool, true, false, cond, List, length, take, drop, leb, ltb, Result, Ok, Err}
use Rattle.std.proofs.Common.{arith, sym, ap, ◌∙◌, take_at, drop_at, ltb-true}
use Rattle.rows.specs.Numbers.{row_value}
use Rattle.rows.specs.declared.Chart.{Chart}
use Rattle.game.specs.Arena.{size}
use Rattle.game.specs.Play.{cost}
use Rattle.game.specs.Restrict.{restricted}
use Rattle.game.specs.Table.{round_value}
use Rattle.way.specs.Way.{moves}
use Rattle.way.proofs.OneWay.{OneWay, one-way-to-ruin, way-costs-the-worth}
use Rattle.chart.specs.Meaning.{arena_of}
use Rattle.chart.specs.Examined.{examined}
use Rattle.chart.specs.Accepted.{accepted-chartable}
use Rattle.refusal.specs.declared.Refusal.TheVariants.{Short, Choice, Position}
use Rattle.weighing.specs.Weighing.{legal_row}
use Rattle.ruin.specs.Sheet.{way_sheet}
use Rattle.ruin.specs.Ruin.{way_count, way_by, ruined_rows, ruined_by, ruined}
use Rattle.ruin.specs.WayLines.{way-length}
use Rattle.refusal.specs.declared.Misdrawn.{Misdrawn}
use Rattle.refusal.specs.declared.Refusal.{Refusal}
use Rattle.demands.specs.WayToRuin.{TheShortestWayToRuin}

-- what an answer with lines says: the chart was accepted, and the position is on it
record Took (text : List ℕ) (v : ℕ) : Type 0 where
  chart : Chart
  taken : examined text ≡ Ok chart
  inside : v < size (arena_of text)

ruin-took : (text choices : List ℕ) (v room k : ℕ) → Ok k ≡ ruined text choices v room → Took text v
unfolding ruined ruined_by ruined_rows
ruin-took text choices v room k e = go (examined text) refl e
  where
    tests : (chart : Chart) → examined text ≡ Ok chart → (b c d : Bool) (answer : Result ℕ Refusal) → ltb v (size (arena_of text)) ≡ d
        → Ok k ≡ cond b (cond c (cond d answer (Err Position)) (Err Choice)) (Err Short) → Took text v
    tests chart t true true true answer s e = record { chart = chart; taken = t; inside = ltb-true v (size (arena_of text)) s }
    tests chart t true true false answer s e = let z : ◌≡◌ {A = ℕ} 0 1 = cc in absurd (omega arith)
    tests chart t true false d answer s e = let z : ◌≡◌ {A = ℕ} 0 1 = cc in absurd (omega arith)
    tests chart t false c d answer s e = let z : ◌≡◌ {A = ℕ} 0 1 = cc in absurd (omega arith)

    go : (x : Result Chart Misdrawn) → examined text ≡ x → Ok k ≡ ruined_by x (arena_of text) choices v room → Took text v
    go (Err r) t e = let z : ◌≡◌ {A = ℕ} 0 1 = cc in absurd (omega arith)
    go (Ok chart) t e = tests chart t (leb chart.positions (length choices)) (legal_row (arena_of text) (row_value choices) (size (arena_of text))) (ltb v (size (arena_of text)))
        (way_by (round_value (restricted (arena_of text) (row_value choices)) v) (way_count (restricted (arena_of text) (row_value choices)) v) room) refl e

pub shortest-way : TheShortestWayToRuin
shortest-way text choices v out sheet lines is =
    let a = arena_of text in
    let t = ruin-took text choices v (length out) lines is.answer in
    let w = is.taken lines refl in
    let worth = way-costs-the-worth a (row_value choices) w.legal v w.trail w.way in
    let one = one-way-to-ruin a (accepted-chartable text t.chart t.taken).well-formed (row_value choices) w.legal v (cost a v w.trail) t.inside worth in
    let same : w.trail ≡ one.trail = one.only w.trail w.way in
    let size_of : length (way_sheet v w.trail) ≡ lines * 12 = way-length v w.trail ∙ ap (λ (x : ℕ). x * 12) (sym w.counted) in
    record {
      legal = w.legal;
      trail = w.trail;
      is-way = w.way;
      only = λ u p. one.only u p ∙ sym same;
      worth = worth;
      counted = w.counted;
      few = omega (arith, w.counted, ap moves same, one.few-moves);
      not-twice = rw (sym same) at one.not-twice;
      ends-unsafe = rw (sym same) at one.ends-unsafe;
      safe-before = rw (sym same) at one.safe-before;
      sheet-is = ap (take (lines * 12)) w.bytes ∙ take_at (way_sheet v w.trail) (drop (lines * 12) out) (lines * 12) size_of;
      past = ap (drop (lines * 12)) w.bytes ∙ drop_at (way_sheet v w.trail) (drop (lines * 12) out) (lines * 12) size_of;
    }
