-- `lanes_of` meets its contract: each test that fails is one of `drivable`, and without lanes there are none to drive.
use Rattle.house.proofs.HousingLaws.{driven-all, driven-many, driven-unequal}
use Rattle.house.proofs.lanes_of.Goals as goal

pub returns-then-lanes-reports : goal.returns-then-lanes-reports
returns-then-lanes-reports c = driven-unequal _ _ c.if-lanes-reports.true

pub returns-then-lanes-gt-LANES : goal.returns-then-lanes-gt-LANES
returns-then-lanes-gt-LANES c = driven-many _ _ c.if-lanes-gt-LANES.true

pub returns : goal.returns
returns c = driven-all _ _ c.if-lanes-reports.false c.if-lanes-gt-LANES.false
