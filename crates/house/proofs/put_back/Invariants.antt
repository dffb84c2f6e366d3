-- `put_back` meets its contract. The loop's invariant: the records below the present lane are put back.
use Rattle.std.proofs.Common.{◌≡◌, ◌≤◌}
use Rattle.house.specs.Copies.{copied}
use Rattle.house.proofs.put_back.Given as goal

abbrev pub invariant-loop-lane : goal.invariant-loop-lane
invariant-loop-lane l = (l.lane ≤ l.count) × (l.runs ≡ copied l.held l.fn.runs l.lane)
