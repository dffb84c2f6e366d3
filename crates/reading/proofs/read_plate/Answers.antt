-- `read_plate` meets its contract: the chart's refusal is handed on, a short row is 10, a plate that is not of the
-- form is 11, and any other is read.
use Rattle.std.specs.Prelude.{true, leb, length}
use Rattle.std.proofs.Common.{arith, sym, ◌∙◌, ◌≡◌}
use borrow.Author.Tests.{le-leb}
use Rattle.search.proofs.Cases.{cases}
use Rattle.search.proofs.HandedOn.{handed-on, mapped-ok, mapped-err}
use Rattle.chart.specs.Accepted.{accepted-few}
use Rattle.refusal.specs.declared.Refusal.TheVariants.{Plate}
use Rattle.reading.specs.ReadingLaws.{reading-refused, reading-short, reading-malformed, reading-taken}
use Rattle.reading.proofs.read_plate.Goals as goal

pub returns-in_err-chart : goal.returns-in_err-chart
returns-in_err-chart c = rw (handed-on _ c.from_residual.ensures.1) (reading-refused (sym c.examine.ensures ∙ c.in_err-chart.was))

pub returns-then-values-n : goal.returns-then-values-n
returns-then-values-n c = reading-short (sym c.examine.ensures ∙ c.in_ok-chart.was) (search cases)

pub returns-then-choices-n : goal.returns-then-choices-n
returns-then-choices-n c = reading-short (sym c.examine.ensures ∙ c.in_ok-chart.was) (search cases)

pub returns-then-steps-n : goal.returns-then-steps-n
returns-then-steps-n c = reading-short (sym c.examine.ensures ∙ c.in_ok-chart.was) (search cases)

pub returns-in_err-map_err : goal.returns-in_err-map_err
returns-in_err-map_err c =
    let steps : leb c.in_ok-chart.chart.positions (length c.args.steps.now) ≡ true = le-leb _ _ (omega arith) in
    let bad = mapped-err Plate _ _ c.map_err.ensures.cases c.in_err-map_err.was in
    rw (handed-on _ c.from_residual-in_err-map_err.ensures.1, bad.2)
    (reading-malformed (sym c.examine.ensures ∙ c.in_ok-chart.was)
    (simp (le-leb _ _ c.if-values-n.false, le-leb _ _ c.if-choices-n.false, steps))
    (sym c.examine_plate.ensures ∙ bad.1))

pub read_rows-requires : goal.read_rows-requires
read_rows-requires c =
    let good = mapped-ok Plate _ _ c.map_err.ensures.cases c.in_ok-map_err.was in
    record { n_bound = (accepted-few _ _ (sym c.examine.ensures ∙ c.in_ok-chart.was), sym c.examine_plate.ensures ∙ good); n_in_bounds = (c.if-values-n.false, c.if-choices-n.false, c.if-steps-n.false) }

pub returns : goal.returns
returns c =
    let steps : leb c.in_ok-chart.chart.positions (length c.args.steps.now) ≡ true = le-leb _ _ (omega arith) in
    let good = mapped-ok Plate _ _ c.map_err.ensures.cases c.in_ok-map_err.was in
    reading-taken (sym c.examine.ensures ∙ c.in_ok-chart.was)
    (simp (le-leb _ _ c.if-values-n.false, le-leb _ _ c.if-choices-n.false, steps))
    (sym c.examine_plate.ensures ∙ good)
    c.read_rows.ensures
