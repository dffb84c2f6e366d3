-- `first_value` meets its contract: its first round has the positions with mark 1, over rows in which nobody is placed.
use native.Mathlib.Omega.{arith}
use Rattle.solver.specs.SolveLaws.{solving-first}
use Rattle.filed.specs.StartLaws.{marked-gathered, marks-placing, first-ready}
use Rattle.filed.proofs.first_value.Goals as goal

pub begin_value-tail-requires : goal.begin_value-tail-requires
begin_value-tail-requires c =
    let gathered = c.gather-late.ensures in
    let steps = c.clear-2.ensures in
    let values = c.clear.ensures in
    ((_, marked-gathered c.args.marks.now _ c.requires.n_in_bounds.0.0.few-positions values.row gathered _ _ (omega (arith, values.same_length, c.requires)) (omega (arith, steps.same_length, c.requires)) (omega (arith, c.requires)) (omega (arith, c.gather-late.auto, c.requires))), omega arith)

pub settle-requires : goal.settle-requires
settle-requires c =
    let begin = c.begin_value-tail in
    let gathered = c.gather-late.ensures in
    let due = c.clear-3.ensures in
    let steps = c.clear-2.ensures in
    let values = c.clear.ensures in
    let g = c.requires.n_in_bounds.0.0 in
    let begun = begin.ensures.goes_on _ (marked-gathered c.args.marks.now _ c.requires.n_in_bounds.0.0.few-positions values.row gathered _ _ (omega (arith, values.same_length, c.requires)) (omega (arith, steps.same_length, c.requires)) (omega (arith, c.requires)) (omega (arith, c.gather-late.auto, c.requires))) in
    (_, (g, first-ready c.args.marks.now _ g.few-positions values.row gathered begun g _ _ c.requires.n_in_bounds.0.1 due.row (record { needs-row = c.requires.n_in_bounds.1; values-row = omega (arith, begin.auto, values.same_length, c.requires); steps-row = omega (arith, begin.auto, steps.same_length, c.requires); order_row = omega (arith, begin.auto, c.requires); due-row = omega (arith, due.same_length, c.requires); later-row = omega (arith, c.gather-late.auto, c.requires) })))

pub returns : goal.returns
returns c =
    let begin = c.begin_value-tail in
    let gathered = c.gather-late.ensures in
    let due = c.clear-3.ensures in
    let steps = c.clear-2.ensures in
    let values = c.clear.ensures in
    let settle = c.settle in
    record {
      goes_on = λ g first.
          let begun = begin.ensures.goes_on _ (marked-gathered c.args.marks.now _ c.requires.n_in_bounds.0.0.few-positions values.row gathered _ _ (omega (arith, values.same_length, c.requires)) (omega (arith, steps.same_length, c.requires)) (omega (arith, c.requires)) (omega (arith, c.gather-late.auto, c.requires))) in
          let done = settle.ensures.goes_on _ g (first-ready c.args.marks.now _ g.few-positions values.row gathered begun g _ _ first due.row (record { needs-row = c.requires.n_in_bounds.1; values-row = omega (arith, begin.auto, values.same_length, c.requires); steps-row = omega (arith, begin.auto, steps.same_length, c.requires); order_row = omega (arith, begin.auto, c.requires); due-row = omega (arith, due.same_length, c.requires); later-row = omega (arith, c.gather-late.auto, c.requires) })) in
          (solving-first values steps (marks-placing c.args.marks.now _ g.few-positions values.row gathered begun begin.ensures.values-row begin.ensures.steps-row) done.0, done.1);
    }
