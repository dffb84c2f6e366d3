-- `row_of` meets its contract: the three targets one by one.
use mathlib.Core.Path.{refl}
use mathlib.Core.Bool.{false}
use Rattle.numbering.specs.Squares.{in_set}
use Rattle.squares.specs.SquaresLaws.{three-are}
use Rattle.squares.proofs.row_of.Goals as goal

pub returns : goal.returns
unfolding in_set
returns c = three-are false (in_set c.args.set) refl refl refl
