-- `off_chart` meets its contract: by the plate's form.
use mathlib.Core.Path.{ap, sym, ◌∙◌}
use Rattle.run.specs.Running.{off_chart}
use Rattle.run.proofs.off_chart.Goals as goal

pub returns-in-Err : goal.returns-in-Err
unfolding off_chart
returns-in-Err c = ap off_chart (sym c.in-Err.is ∙ c.examine_plate.ensures)

pub returns-in-Ok : goal.returns-in-Ok
unfolding off_chart
returns-in-Ok c = ap off_chart (sym c.in-Ok.is ∙ c.examine_plate.ensures)
