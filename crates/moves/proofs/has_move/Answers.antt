-- `has_move` meets its contract: the invariant says that none of the moves before the i-th is of the kind sought and leads from v to w.
use Prim.Native.Nat.{◌+◌}
use native.Mathlib.Omega.{arith}
use mathlib.Core.Path.{sym, ◌∙◌}
use Rattle.rows.specs.Notes.{found-more, found-next}
use Rattle.moves.specs.Search.{none_after, none_before}
use Rattle.moves.proofs.has_move.Goals as goal

pub loop-i-init : goal.loop-i-init
loop-i-init c = let pre = c.requires in none_before _ pre.2

pub returns-then-froms-i : goal.returns-then-froms-i
returns-then-froms-i c =
    sym (sym (none_after _ c.requires.2 c.loop-i.i c.loop-i.auto.i c.loop-i-test.true c.requires.1 c.if-froms-i.true) ∙ c.loop-i.invariant)

pub returns-then-leads : goal.returns-then-leads
returns-then-leads c =
    sym
    (found-more _ _ _ (c.loop-i.i + 1) _ (omega arith)
    (found-next _ _ _ c.loop-i.i c.if-froms-i.false ∙ rw c.loop-i.invariant (sym c.leads.ensures ∙ c.if-leads.true)))

pub loop-i-preserved : goal.loop-i-preserved
loop-i-preserved c =
    found-next _ _ _ c.loop-i.i c.if-froms-i.false ∙ rw c.loop-i.invariant (sym c.leads.ensures ∙ c.if-leads.false)
