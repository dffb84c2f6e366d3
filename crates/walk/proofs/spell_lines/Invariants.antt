-- `walk::spell_lines` meets its contract. The invariant: the rows have the words of the first v positions.
use Prim.Native.Nat.{◌≤◌, ◌-◌}
use Rattle.walk.specs.Walked.{LinesSpelt}
use Rattle.walk.proofs.spell_lines.Given as goal

abbrev pub invariant-loop-v : goal.invariant-loop-v
invariant-loop-v l = (l.v ≤ l.n) × LinesSpelt l.v l.initial.openings l.openings l.initial.middles l.middles l.initial.closings l.closings
