-- `refused` meets its contract: the fields are those of the definition.
use Rattle.std.proofs.Common.{refl}
use Rattle.house.specs.Driving.{refused_house}
use Rattle.house.proofs.refused.Goals as goal

pub returns : goal.returns
unfolding refused_house
returns c = refl
