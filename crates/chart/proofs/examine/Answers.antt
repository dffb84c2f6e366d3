-- `chart::examine` meets its contract: the tests of the length, then what the header says, then the lines.
use Rattle.rows.specs.declared.Chart.{Chart}
use Rattle.chart.specs.Header.{header-accepts}
use Rattle.chart.specs.Text.{positions_of, moves_of}
use native.Mathlib.Omega.{arith}
use mathlib.Core.Path.{◌≡◌, sym, ap, ◌∙◌}
use Rattle.search.proofs.Cases.{cases}
use Rattle.chart.specs.Examined.{examined, lines_after}
use Rattle.search.proofs.HandedOn.{handed-on}
use Rattle.chart.proofs.examine.Goals as goal

pub returns-then-size-eq0 : goal.returns-then-size-eq0
unfolding examined lines_after
returns-then-size-eq0 c = search cases

pub returns-then-size-gt-BYTES : goal.returns-then-size-gt-BYTES
unfolding examined lines_after
returns-then-size-gt-BYTES c = search cases

pub returns-then-size-ne0 : goal.returns-then-size-ne0
unfolding examined lines_after
returns-then-size-ne0 c = search cases

pub after_header-requires : goal.after_header-requires
after_header-requires c =
    let text = c.args.text.now in
    let chart = c.in_ok-chart.chart in
    let w = header-accepts text chart (sym c.header.ensures ∙ c.in_ok-chart.was) in
    let limits = w.0 in
    let n : chart.positions ≡ positions_of text = ap (λ (k : Chart). k.positions) w.1 in
    let m : chart.moves ≡ moves_of text = ap (λ (k : Chart). k.moves) w.1 in
    record { moves_in_bounds = omega arith; positions_bound = (omega arith, omega arith) }

pub returns-in_err-chart : goal.returns-in_err-chart
unfolding examined lines_after
returns-in_err-chart c = simp (handed-on _ c.from_residual.ensures.1, ← c.header.ensures, c.in_err-chart.was) (search cases)

pub returns : goal.returns
unfolding examined lines_after
returns c = simp (← c.header.ensures, c.in_ok-chart.was, ← c.after_header.ensures) (search cases)
