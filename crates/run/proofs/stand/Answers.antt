-- `stand` meets its contract: the value that the run holds is the advice's, which is the plate's.
use Rattle.run.specs.Running.{advice_at, standing}
use Rattle.run.proofs.stand.Goals as goal

pub returns : goal.returns
unfolding standing advice_at
returns c = rw (c.moved.ensures, c.advice_at-advice.ensures)
