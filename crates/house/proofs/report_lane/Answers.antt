-- `report_lane` meets its contract: the rows are those of a chart.
use Rattle.rows.specs.Holding.{holds-some}
use Rattle.house.proofs.report_lane.Goals as goal

pub report_checked-requires : goal.report_checked-requires
report_checked-requires c = ((_, holds-some c.args.rows.now), c.requires.0, c.requires.1)
