-- `Run::moved` meets its contract: the fields are those of the definition.
use mathlib.Core.Path.{refl}
use Rattle.run.specs.Running.{moved}
use Rattle.run.proofs.Run.moved.Goals as goal

pub returns : goal.returns
unfolding moved
returns c = refl
