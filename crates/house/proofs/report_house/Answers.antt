-- `report_house` meets its contract: the house that is driven has the lent row's first records, and as many as it then has to be put back go
-- back, so this is a report of the lent house.
use Rattle.house.proofs.Lent.{count_fits, lent-house, written-fits}
use Rattle.house.proofs.report_house.Goals as goal

pub take_out-held-requires : goal.take_out-held-requires
take_out-held-requires c = rw c.lanes_of-count.ensures (count_fits c.args.runs.now c.args.reports.now)

pub put_back-requires : goal.put_back-requires
put_back-requires c =
    let is = rw (c.take_out-held.ensures.0, c.lanes_of-count.ensures) at c.drive-house.ensures in
    rw c.take_out-held.ensures.1 (written-fits c.args.runs.now c.args.reports.now _ _ _ is)

pub returns : goal.returns
returns c =
    let is = rw (c.take_out-held.ensures.0, c.lanes_of-count.ensures) at c.drive-house.ensures in
    rw (c.put_back.ensures, c.take_out-held.ensures.1) (lent-house c.args.runs.now c.args.reports.now _ _ _ is)
