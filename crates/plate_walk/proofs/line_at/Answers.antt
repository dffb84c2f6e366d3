-- `line_at` meets its contract: its tests are those of a line whose entries were taken.
use native.Mathlib.Omega.{arith}
use Rattle.plate_walk.specs.WalkLaws.{line_taken, not-taken}
use Rattle.plate_walk.proofs.line_at.Goals as goal

pub entry-step-requires : goal.entry-step-requires
entry-step-requires c =
    let pre = c.requires in
    (pre.0, pre.2, omega arith, pre.4)

pub returns-then-framed-numbered : goal.returns-then-framed-numbered
returns-then-framed-numbered c =
    let pre = c.requires in
    line_taken _ _ _ _ _ _ _ _ pre.0 pre.1 c.framed.ensures c.entry-position.ensures c.entry-value.ensures c.entry-choice.ensures c.entry-step.ensures c.if-framed-numbered.true

pub returns-else-framed-numbered : goal.returns-else-framed-numbered
returns-else-framed-numbered c = not-taken _ _ _
