-- `index_of` meets its contract. The invariant: the index so far is the number of the first v digits. A turn adds a digit (`held_next`), and
-- the number stays small (`held-bound`).
use mathlib.Core.Path.{◌≡◌}
use Rattle.squares.specs.SquaresLaws.{held_below}
use Rattle.squares.proofs.index_of.Given as goal

abbrev pub invariant-loop-v : goal.invariant-loop-v
invariant-loop-v l = l.index ≡ held_below l.n l.owners l.marks l.meant l.disturbances l.v
