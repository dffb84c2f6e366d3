-- `report_accepted` meets its contract: another value than the held one is 18, and then each kind of move has its answer.
use borrow.Author.Tests.{lt-ltb, le-ltb}
use Rattle.run.specs.Running.{reported_move}
use Rattle.run.proofs.RunningLaws.{choice-of, held-report, not-held, value_of}
use Rattle.run.proofs.report_accepted.Goals as goal

pub returns-then-here-run : goal.returns-then-here-run
returns-then-here-run c = rw c.unmoved.ensures (not-held _ _ _ c.if-here-run.true (value_of _ _ c.advice_at-here.ensures))

pub returns-then-seen-ge-COUNTED : goal.returns-then-seen-ge-COUNTED
unfolding reported_move
returns-then-seen-ge-COUNTED c =
    held-report _ _ _ c.if-here-run.false (value_of _ _ c.advice_at-here.ensures) c.move_kind.ensures (choice-of _ _ c.advice_at-here.ensures)
    c.in-Disturbance.is (rw (le-ltb _ _ c.if-seen-ge-COUNTED.true) c.unmoved-then-seen-ge-COUNTED.ensures)

pub returns-in-Neither : goal.returns-in-Neither
unfolding reported_move
returns-in-Neither c =
    held-report _ _ _ c.if-here-run.false (value_of _ _ c.advice_at-here.ensures) c.move_kind.ensures (choice-of _ _ c.advice_at-here.ensures)
    c.in-Neither.is c.unmoved-in-Neither.ensures

pub returns-in-Meant : goal.returns-in-Meant
unfolding reported_move
returns-in-Meant c =
    held-report _ _ _ c.if-here-run.false (value_of _ _ c.advice_at-here.ensures) c.move_kind.ensures (choice-of _ _ c.advice_at-here.ensures)
    c.in-Meant.is c.stand.ensures

pub returns-else-seen-ge-COUNTED : goal.returns-else-seen-ge-COUNTED
unfolding reported_move
returns-else-seen-ge-COUNTED c =
    held-report _ _ _ c.if-here-run.false (value_of _ _ c.advice_at-here.ensures) c.move_kind.ensures (choice-of _ _ c.advice_at-here.ensures)
    c.in-Disturbance.is (rw (lt-ltb _ _ c.if-seen-ge-COUNTED.false) c.stand-in-Disturbance.ensures)
