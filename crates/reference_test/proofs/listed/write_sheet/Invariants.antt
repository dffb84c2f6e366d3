-- `reference_test::listed::write_sheet` is safe: it has written no more lines than it has seen.
use Rattle.std.proofs.Common.{◌≤◌}
use Rattle.reference_test.proofs.listed.write_sheet.Given as goal

abbrev pub invariant-loop-i : goal.invariant-loop-i
invariant-loop-i l = l.count ≤ l.i
