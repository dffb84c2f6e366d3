-- `next_value` meets its contract: where its first round places nobody all rounds are done, else the others follow.
use native.Mathlib.Omega.{arith}
use Rattle.solver.specs.SolveLaws.{solving-next, solving-stops}
use Rattle.visits.specs.VisitLaws.{as-long-then, as-long-wide}
use Rattle.filed.specs.ValueLaws.{begun-long, due-gathered, value-noted, value-placing, value-empty, value-ready}
use Rattle.filed.proofs.next_value.Goals as goal

pub begin_value-tail-requires : goal.begin_value-tail-requires
begin_value-tail-requires c = ((_, due-gathered c.requires.0.1.0 c.requires.0.1.1), omega (arith, c.requires.1))

pub returns-then-tail-head : goal.returns-then-tail-head
returns-then-tail-head c =
    let begin = c.begin_value-tail in
    record {
      long = begun-long begin.ensures _ _;
      goes_on = λ n g ready marks values₀ steps₀ so_far other. absurd (other c.if-tail-head.true);
      stops = λ n g ready marks values₀ steps₀ so_far none.
          let begun = begin.ensures.goes_on n (due-gathered g ready) in
          solving-stops so_far (omega (arith, c.requires.1)) (value-noted g ready) (value-placing g ready begun begin.ensures.values-row begin.ensures.steps-row) (value-empty g ready begun none);
    }

pub settle-requires : goal.settle-requires
settle-requires c =
    let begin = c.begin_value-tail in
    let g = c.requires.0.1.0 in
    let ready = c.requires.0.1.1 in
    let begun = begin.ensures.goes_on _ (due-gathered g ready) in
    (_, (g, value-ready g ready begun c.requires.1 (as-long-wide ready.wide (begun-long begin.ensures _ _))))

pub returns : goal.returns
returns c =
    let begin = c.begin_value-tail in
    let settle = c.settle in
    record {
      long = as-long-then (begun-long begin.ensures _ _) settle.ensures.long;
      goes_on = λ n g ready marks values₀ steps₀ so_far some.
          let begun = begin.ensures.goes_on n (due-gathered g ready) in
          let done = settle.ensures.goes_on n g (value-ready g ready begun c.requires.1 (as-long-wide ready.wide (begun-long begin.ensures _ _))) in
          (solving-next so_far (omega (arith, c.requires.1)) (value-noted g ready) (value-placing g ready begun begin.ensures.values-row begin.ensures.steps-row) done.0, done.1);
      stops = λ n g ready marks values₀ steps₀ so_far none.
          let begun = begin.ensures.goes_on n (due-gathered g ready) in
          let done = settle.ensures.goes_on n g (value-ready g ready begun c.requires.1 (as-long-wide ready.wide (begun-long begin.ensures _ _))) in
          absurd (omega (arith, done.2, begun.grown.longer, c.if-tail-head.false, none));
    }
