-- `refusal_numbers` meets its contract: by the answer's case.
use Rattle.answers.proofs.refusal_numbers.Goals as goal

pub returns-in-Err : goal.returns-in-Err
returns-in-Err c = rw (c.in-Err.is, c.from.ensures)
