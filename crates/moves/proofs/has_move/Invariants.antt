-- `has_move` meets its contract: the invariant says that none of the moves before the i-th is of the kind sought and leads from v to w.
use mathlib.Core.Path.{◌≡◌}
use mathlib.Core.Bool.{false}
use Rattle.rows.specs.Numbers.{number_at}
use Rattle.rows.specs.Notes.{found}
use Rattle.moves.specs.Moves.{leads_to}
use Rattle.moves.proofs.has_move.Given as goal

abbrev pub invariant-loop-i : goal.invariant-loop-i
invariant-loop-i l = found (number_at l.froms) (leads_to l.meant l.w l.costs l.tos) l.i l.v ≡ false
