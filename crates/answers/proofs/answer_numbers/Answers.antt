-- `answer_numbers` meets its contract: by the answer's case.
use mathlib.Core.Path.{◌∙◌}
use Rattle.answers.proofs.answer_numbers.Goals as goal

pub returns-in-Ok : goal.returns-in-Ok
returns-in-Ok c = rw (c.in-Ok.is, c.none.ensures)

pub returns-in-Err : goal.returns-in-Err
returns-in-Err c = c.refused_step.ensures ∙ rw c.in-Err.is
