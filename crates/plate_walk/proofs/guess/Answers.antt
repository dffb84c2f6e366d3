-- `guess` meets its contract, by its definition.
use mathlib.Core.Path.{refl}
use Rattle.plate_walk.specs.Walk.{guess}
use Rattle.plate_walk.proofs.guess.Goals as goal

pub returns : goal.returns
unfolding guess
returns c = refl
