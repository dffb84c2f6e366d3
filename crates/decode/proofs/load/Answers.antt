-- `decode::load` meets its contract: a walk that passes is an accepted text with its lines in the rows, and where it stops the exact way
-- answers: what the walk wrote lies before the counts of the same header.
use native.Mathlib.Omega.{arith}
use mathlib.Core.Path.{sym, ◌∙◌}
use Rattle.decode.specs.LoadedLaws.{accepted-loads, load_after}
use borrow.Author.Rules.{rules}
use Rattle.decode.proofs.load.Goals as goal

pub walk-requires : goal.walk-requires
walk-requires c =
    let room = c.requires.in_bounds.0 in
    let more = c.requires.in_bounds.1 in
    record { text_value = sym c.header.ensures ∙ c.in-Ok.is; in_bounds = (omega arith, omega arith); in_bounds_2 = c.requires.in_bounds_2 }

pub returns-then-walk : goal.returns-then-walk
returns-then-walk c =
    let passed = c.walk.ensures.told c.if-walk.true in
    accepted-loads _ _ _ _ _ _ _ _ _ _ _ _ passed.accepted (search rules, search rules) (search rules, search rules, search rules) passed.positions passed.moves

pub load_exactly-requires-in-Ok : goal.load_exactly-requires-in-Ok
load_exactly-requires-in-Ok c =
    let rows = c.walk.ensures in
    let one = rows.owners-kept.same_length in
    let two = rows.marks-kept.same_length in
    let three = rows.costs-kept.same_length in
    let four = rows.froms-kept.same_length in
    let five = rows.tos-kept.same_length in
    record { in_bounds = (omega (arith, c.requires.in_bounds.0), omega (arith, c.requires.in_bounds.1)); in_bounds_2 = (omega (arith, c.requires.in_bounds_2.0), omega (arith, c.requires.in_bounds_2.1), omega (arith, c.requires.in_bounds_2.2)) }

pub returns-else-walk : goal.returns-else-walk
returns-else-walk c =
    let rows = c.walk.ensures in
    load_after _ _ _ _ _ _ _ _ _ _ _ _ _ _ _ _ _ _ (sym c.header.ensures ∙ c.in-Ok.is)
    rows.owners-kept rows.marks-kept rows.costs-kept rows.froms-kept rows.tos-kept c.load_exactly-in-Ok.ensures
