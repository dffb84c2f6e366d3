-- `all_legal` meets its contract: the invariant says that the choices below v are legal.
use mathlib.Core.Path.{◌≡◌}
use mathlib.Core.Bool.{not, false}
use Rattle.search.specs.Below.{some_below}
use Rattle.restriction.specs.Restriction.{is_legal}
use Rattle.restriction.proofs.all_legal.Given as goal

abbrev pub invariant-loop-v : goal.invariant-loop-v
invariant-loop-v l = some_below (λ u. not (is_legal l.owners l.choices l.flags u)) l.v ≡ false
