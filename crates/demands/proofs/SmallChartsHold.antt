-- Every small chart: the text of an index is that of its arena, which is accepted and means it (chart/specs/Faithful.antt), and each small arena has
-- one index (numbering/proofs/EverySmall.antt).
use Rattle.std.specs.Prelude.{ℕ, ◌≡◌, refl, List, length, take, drop, Ok}
use Rattle.std.proofs.Common.{sym, ap, ◌∙◌, subst, subst₂, take_at}
use Rattle.game.specs.Arena.{Arena, size}
use Rattle.chart.specs.Text.{positions_of, moves_of}
use Rattle.chart.specs.Meaning.{arena_of, chart_text}
use Rattle.chart.specs.Examined.{examined}
use Rattle.chart.specs.Exact.{accepted-exactly}
use Rattle.chart.specs.Blanks.{WithoutBlanks}
use Rattle.chart.specs.BlankLaws.{filling-without-blanks}
use Rattle.chart.specs.Faithful.{text-faithful, arena-faithful}
use Rattle.numbering.specs.Numbering.{index_of, Small}
use Rattle.numbering.specs.Squares.{small_arena}
use Rattle.numbering.proofs.EverySmall.{counts, chart-of-index, index-of-chart}
use Rattle.numbering.proofs.OrderLaws.{rises-in-order}
use Rattle.generating.specs.Generating.{small_text}
use Rattle.generating.specs.GeneratingLaws.{Taken, taken-length, length_taken}
use Rattle.indexing.specs.IndexingLaws.{small-indexed}
use Rattle.demands.specs.SmallCharts.{SmallChart, Call, written, IsChartOf, IsIndexOf, SmallCharts}

-- a call's index is one, and it wrote that index's text
call-taken : {n i : ℕ} (call : Call n i) → Taken n i call.bytes
call-taken {n} {i} call = length_taken n i (length call.out) call.ensured.answer

call-text : (n i : ℕ) (call : Call n i) → written call ≡ chart_text (small_arena n i)
unfolding small_text
call-text n i call =
    ap (take call.bytes) (call.ensured.taken call.bytes refl)
    ∙ take_at (small_text n i) (drop call.bytes call.out) call.bytes (sym (call-taken call).bytes-are)

-- the text of a small arena is such a chart, and has its index
module _ (a : Arena) (small : Small a) where
  faithful : (examined (chart_text a) ≡ Ok (record { positions = size a; moves = length a.moves })) × (arena_of (chart_text a) ≡ a)
  faithful = arena-faithful a small.chartable

  text_of : IsChartOf (size a) (index_of a) (chart_text a)
  text_of = record {
    chart = record { accepted = ((accepted-exactly (chart_text a) _).0 faithful.0).0; small = subst Small (sym faithful.1) small };
    without-blanks = subst WithoutBlanks (sym (text-faithful (chart_text a) _ faithful.0) ∙ ap chart_text faithful.1) (filling-without-blanks (chart_text a));
    positions = ap size faithful.1;
    index = ap index_of faithful.1;
    answered = small-indexed (chart_text a) faithful.0 (subst Small (sym faithful.1) small) ∙ ap (λ (x : Arena). Ok (index_of x)) faithful.1;
  }

-- what is written is such a chart
generates : (n i : ℕ) (call : Call n i) → IsChartOf n i (written call)
generates n i call =
    let t = call-taken call in
    let c = chart-of-index n i t.bounds.0 t.bounds.1 t.bounds.2 in
    subst (IsChartOf n i) (sym (call-text n i call))
    (subst₂ (λ (k j : ℕ). IsChartOf k j (chart_text (small_arena n i))) c.1.0 c.1.1 (text_of (small_arena n i) c.0))

-- and such a chart is written again
indexes : (text : List ℕ) → SmallChart text → (i : ℕ) × IsIndexOf text i
indexes text chart =
    let a = arena_of text in
    let taken : examined text ≡ Ok (record { positions = positions_of text; moves = moves_of text }) = (accepted-exactly text _).1 (chart.accepted, refl) in
    let index = index-of-chart a chart.small in (
      index_of a,
      record {
        answered = small-indexed text taken chart.small;
        index = refl;
        below = index.0;
        written-again = λ call. call-text (size a) (index_of a) call ∙ ap chart_text index.1 ∙ text-faithful text _ taken;
      },
    )

pub small-charts : SmallCharts
small-charts = record {
  counts = counts;
  taken = λ n i some few below. (length (small_text n i), λ out out' r is l. is.answer ∙ taken-length n i (length out) some few below l);
  generating = generates;
  indexing = indexes;
  one_index = λ a small.
      let index = index-of-chart a small in (
        index_of a,
        index.0,
        λ call. call-text (size a) (index_of a) call ∙ ap chart_text index.1,
        λ j call e. sym (generates (size a) j call).index ∙ ap (λ (t : List ℕ). index_of (arena_of t)) e ∙ ap index_of (faithful a small).1,
      );
  in_order = rises-in-order;
}
