-- `move_kind` meets its contract: each answer by the tests that led to it, which are those of the definition.
use borrow.Author.Tests.{eq-eqb, ne_eqb}
use Rattle.rows.specs.RowsLaws.{rows-within}
use Rattle.moves.specs.MoveLaws.{kind-is}
use Rattle.moves.proofs.move_kind.Goals as goal

pub has_move-meant-requires : goal.has_move-meant-requires
has_move-meant-requires c = (rows-within c.requires.0.1.1, c.requires.1, c.first_from-first.ensures)

pub returns-then-meant : goal.returns-then-meant
returns-then-meant c =
    kind-is _ _ _ c.requires.2 c.requires.3 (rw (eq-eqb _ _ c.if-owner-eq1.true, ← c.has_move-meant.ensures, c.if-meant.true))

pub returns-then-owner-eq1 : goal.returns-then-owner-eq1
returns-then-owner-eq1 c =
    kind-is _ _ _ c.requires.2 c.requires.3 (rw (eq-eqb _ _ c.if-owner-eq1.true, ← c.has_move-meant.ensures, c.if-meant.false))

pub returns-then-owner-choice : goal.returns-then-owner-choice
returns-then-owner-choice c =
    kind-is _ _ _ c.requires.2 c.requires.3 (rw (ne_eqb _ _ c.if-owner-eq1.false, ← c.has_move-meant.ensures, c.if-owner-choice.true))

pub has_move-requires : goal.has_move-requires
has_move-requires c =
    (rows-within c.requires.0.1.1, c.requires.1, c.first_from-first.ensures)

pub returns-then-has_move : goal.returns-then-has_move
returns-then-has_move c =
    kind-is _ _ _ c.requires.2 c.requires.3
    (rw (ne_eqb _ _ c.if-owner-eq1.false, ← c.has_move-meant.ensures, c.if-owner-choice.false, ← c.has_move.ensures, c.if-has_move.true))

pub returns : goal.returns
returns c =
    kind-is _ _ _ c.requires.2 c.requires.3
    (rw (ne_eqb _ _ c.if-owner-eq1.false, ← c.has_move-meant.ensures, c.if-owner-choice.false, ← c.has_move.ensures, c.if-has_move.false))
