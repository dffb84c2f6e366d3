-- `report_checked` meets its contract: a position outside is 13, and else the report goes on after the plate's test.
use Rattle.run.proofs.RunningLaws.{checked-inside, checked-outside, checked-own-outside}
use Rattle.run.proofs.Run.report_checked.Goals as goal

pub returns-then-n-self : goal.returns-then-n-self
returns-then-n-self c = rw c.unmoved.ensures (checked-own-outside _ _ _ c.if-n-self.true)

pub returns-then-n-to : goal.returns-then-n-to
returns-then-n-to c = rw c.unmoved-then-n-to.ensures (checked-outside _ _ _ c.if-n-self.false c.if-n-to.true)

pub returns : goal.returns
returns c = checked-inside _ _ _ c.if-n-self.false c.if-n-to.false c.report_accepted.ensures
