-- `passes` meets its contract: where a test fails nothing was touched, and otherwise the walk's answer is that of the whole plate.
use mathlib.Core.Path.{sym, ◌∙◌}
use borrow.Author.Tests.{not-false}
use Rattle.plate_walk.specs.WalkLaws.{untouched, fails, passes-as}
use Rattle.std.proofs.lemmas.Bool.{not_from_true}
use Rattle.plate_walk.proofs.passes.Goals as goal

pub returns-then-plate-n : goal.returns-then-plate-n
returns-then-plate-n c = fails (untouched _ _ _ _)

pub returns-then-not-header_good : goal.returns-then-not-header_good
returns-then-not-header_good c = fails (untouched _ _ _ _)

pub returns : goal.returns
returns c =
    passes-as c.if-plate-n.false (sym c.header_good.ensures ∙ not-false _ (not_from_true _ c.if-not-header_good.false)) c.walk.ensures
