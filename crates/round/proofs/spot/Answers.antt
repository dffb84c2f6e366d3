-- `spot` meets its contract: each answer by the test that led to it.
use Rattle.rows.specs.Notes.{spot_if}
use Rattle.round.proofs.spot.Goals as goal

pub returns-then-cost-meant : goal.returns-then-cost-meant
unfolding spot_if
returns-then-cost-meant c = simp c.if-cost-meant.true

pub returns-else-cost-meant : goal.returns-else-cost-meant
unfolding spot_if
returns-else-cost-meant c = simp c.if-cost-meant.false
