-- `Room::load` meets its contract: what `load` fills holds the text's arena, whose moves lie by their positions.
use mathlib.Core.Path.{sym, ◌∙◌}
use Rattle.rows.specs.RowsLaws.{rows-within}
use Rattle.search.proofs.HandedOn.{handed-on}
use Rattle.decode.specs.LoadedLaws.{decoded-ascending, rows-taken, rows-refused}
use Rattle.decode.proofs.Room.load.Goals as goal

pub invariant_of-result : goal.invariant_of-result
invariant_of-result c =
    let rows = (c.load.ensures.taken _ c.in_ok-chart.was).rows in
    record {
      chart = ∣ (_, rows) ∣₁;
      few = (rows.few-positions, rows.few-moves);
      within = rows-within rows;
      room = (rows.owners-row, rows.marks-row);
    }

pub returns-in_err-chart : goal.returns-in_err-chart
returns-in_err-chart c = rw (handed-on _ c.from_residual.ensures.1) (rows-refused (sym c.load.ensures.answer ∙ c.in_err-chart.was))

pub returns : goal.returns
returns c =
    let e = sym c.load.ensures.answer ∙ c.in_ok-chart.was in
    let rows = (c.load.ensures.taken _ c.in_ok-chart.was).rows in
    rows-taken (record { accepted = e; holds = rows; ascending = decoded-ascending _ _ e rows })
