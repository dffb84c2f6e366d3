-- `compare` meets its contract: each refusal under its condition, in the table's order, and else the loaded chart's rows are compared.
use mathlib.Core.Path.{sym, ◌∙◌}
use Rattle.search.proofs.HandedOn.{handed-on, mapped-ok, mapped-err}
use Rattle.refusal.specs.declared.Refusal.TheVariants.{Plate}
use Rattle.comparing.specs.ComparedMeans.{compared_is}
use Rattle.comparing.specs.Order.{first-the-chart, past-eleven, then-eleven, then-ten}
use Rattle.comparing.proofs.compare.Goals as goal

pub returns-in_err-rows : goal.returns-in_err-rows
returns-in_err-rows c =
    rw (handed-on _ c.from_residual.ensures.1) (compared_is _ _ _ (sym (first-the-chart _ _ _ _ (c.load.ensures.refused _ c.in_err-rows.was))))

pub returns-then-choices-n : goal.returns-then-choices-n
returns-then-choices-n c =
    compared_is _ _ _ (sym (then-ten _ _ _ _ (c.load.ensures.taken _ c.in_ok-rows.was).accepted c.if-choices-n.true))

pub returns-in_err-map_err : goal.returns-in_err-map_err
returns-in_err-map_err c =
    let bad = mapped-err Plate _ _ c.map_err.ensures.cases c.in_err-map_err.was in
    rw (handed-on _ c.from_residual-in_err-map_err.ensures.1, bad.2)
    (compared_is _ _ _
    (sym (then-eleven _ _ _ _ (c.load.ensures.taken _ c.in_ok-rows.was).accepted c.if-choices-n.false _ (sym c.examine_plate.ensures ∙ bad.1))))

pub compare_formed-requires : goal.compare_formed-requires
compare_formed-requires c =
    let taken = c.load.ensures.taken _ c.in_ok-rows.was in
    let good = mapped-ok Plate _ _ c.map_err.ensures.cases c.in_ok-map_err.was in
    (taken.ascending, sym c.examine_plate.ensures ∙ good, c.if-choices-n.false)

pub returns : goal.returns
returns c =
    let taken = c.load.ensures.taken _ c.in_ok-rows.was in
    let good = mapped-ok Plate _ _ c.map_err.ensures.cases c.in_ok-map_err.was in
    let answer = c.compare_formed.ensures.answer _ taken.holds in
    compared_is _ _ _ (answer ∙ sym (past-eleven _ _ _ _ taken.accepted c.if-choices-n.false (sym c.examine_plate.ensures ∙ good)))
