-- `list_good_moves` meets its contract: the chart's refusal is handed on, and loaded rows are listed.
use Rattle.listing.specs.ListingLaws.{listed-refused, listed-rows}
use Rattle.search.proofs.HandedOn.{handed-on}
use Rattle.listing.proofs.list_good_moves.Goals as goal

pub returns-in_err-rows : goal.returns-in_err-rows
returns-in_err-rows c = rw (handed-on _ c.from_residual.ensures.1) (listed-refused (c.load.ensures.refused _ c.in_err-rows.was))

pub returns : goal.returns
returns c = let taken = c.load.ensures.taken _ c.in_ok-rows.was in listed-rows taken.accepted taken.holds c.list_rows.ensures
