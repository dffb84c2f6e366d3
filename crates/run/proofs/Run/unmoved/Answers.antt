-- `Run::unmoved` meets its contract: the fields are those of the definition.
use mathlib.Core.Path.{refl}
use Rattle.run.specs.Running.{unmoved}
use Rattle.run.proofs.Run.unmoved.Goals as goal

pub returns : goal.returns
unfolding unmoved
returns c = refl
