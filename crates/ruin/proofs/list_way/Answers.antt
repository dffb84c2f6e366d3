-- `list_way` meets its contract: the lines found are those of every arena that the rows hold, and there are at most as many as positions.
use Rattle.std.specs.Prelude.{ℕ, ◌≡◌, refl, Option, Some, None}
use native.Mathlib.Omega.{arith}
use borrow.Author.Tests.{le-leb, lt-leb}
use Rattle.rows.specs.Holding.{arena, holds}
use Rattle.ruin.specs.RuinLaws.{few-lines, way-ever, way-short, way-listed}
use Rattle.ruin.proofs.list_way.Goals as goal

no-way : (r : Option ℕ) → ((k : ℕ) → r ≡ Some k → ⊥) → r ≡ None
no-way None none = refl
no-way (Some k) none = absurd (none k refl)

pub returns-in_default : goal.returns-in_default
returns-in_default c = way-ever (rw (no-way _ c.in_default.not-Some) at c.find_way.ensures)

pub overflow_mul-lines : goal.overflow_mul-lines
overflow_mul-lines c =
    let r = c.args.rows.now in
    omega (arith, few-lines c.find_way.ensures c.in-Some.is (arena r) (holds r) c.requires.legal c.requires.in_bounds.1, r.few.0)

pub returns-then-sheet-lines : goal.returns-then-sheet-lines
returns-then-sheet-lines c =
    way-short c.find_way.ensures c.in-Some.is (lt-leb _ _ c.if-sheet-lines.true)

pub write_lines-requires : goal.write_lines-requires
write_lines-requires c =
    let r = c.args.rows.now in
    let most = few-lines c.find_way.ensures c.in-Some.is (arena r) (holds r) c.requires.legal c.requires.in_bounds.1 in
    let few = r.few.0 in
    let kept = c.find_way.auto in
    (omega (arith, most, few, kept), omega (arith, most, few, kept), c.if-sheet-lines.false)

pub returns : goal.returns
returns c =
    way-listed c.find_way.ensures c.in-Some.is c.requires.in_bounds.1 (le-leb _ _ c.if-sheet-lines.false) c.write_lines.ensures
