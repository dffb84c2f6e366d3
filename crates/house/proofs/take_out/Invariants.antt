-- `take_out` meets its contract. The loop's invariant: the records below the present lane are copied into a row that began with no run in it.
use Rattle.std.proofs.Common.{◌≡◌, ◌≤◌}
use Rattle.house.specs.Copies.{copied, no_runs}
use Rattle.house.proofs.take_out.Given as goal

abbrev pub invariant-loop-lane : goal.invariant-loop-lane
invariant-loop-lane l = (l.lane ≤ l.count) × (l.held ≡ copied l.runs no_runs l.lane)
