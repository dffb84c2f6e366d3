-- `damage_test::compare::fill` is safe: it has counted no more marks than it has seen.
use Rattle.std.proofs.Common.{◌≤◌}
use Rattle.damage_test.proofs.compare.fill.Given as goal

abbrev pub invariant-loop-v : goal.invariant-loop-v
invariant-loop-v l = l.count ≤ l.v
