-- `begin` meets its contract: the run's starting value is the advice's, which is the plate's.
use Rattle.run.specs.Running.{advice_at, run_at}
use Rattle.run.proofs.begin.Goals as goal

pub returns : goal.returns
unfolding run_at advice_at
returns c = rw c.advice_at-advice.ensures
