-- `refused_step` meets its contract: the refusal's numbers are those of the call.
use Rattle.answers.proofs.refused_step.Goals as goal

pub returns : goal.returns
returns c = rw c.from.ensures
