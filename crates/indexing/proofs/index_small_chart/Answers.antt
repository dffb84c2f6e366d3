-- `index_small_chart` meets its contract: the chart's refusal is handed on, and loaded rows are indexed.
use Rattle.indexing.specs.IndexingLaws.{indexed-refused, indexed-rows}
use Rattle.search.proofs.HandedOn.{handed-on}
use Rattle.indexing.proofs.index_small_chart.Goals as goal

pub returns-in_err-rows : goal.returns-in_err-rows
returns-in_err-rows c = rw (handed-on _ c.from_residual.ensures.1) (indexed-refused _ (c.load.ensures.refused _ c.in_err-rows.was))

pub returns : goal.returns
returns c = let taken = c.load.ensures.taken _ c.in_ok-rows.was in indexed-rows _ taken.accepted taken.holds c.index_rows.ensures
