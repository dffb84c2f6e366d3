-- `respond` meets its contract: a plate, or the refusal's line; the buffer has room for every plate.
use Rattle.response.specs.ResponseLaws.{responded-plate, responded-line}
use Rattle.response.proofs.respond.Goals as goal

pub returns-in-Ok : goal.returns-in-Ok
returns-in-Ok c =
    responded-plate _ _ c.requires _ _ (rw c.in-Ok.is at c.write_plate.ensures)

pub returns-in-Err : goal.returns-in-Err
returns-in-Err c =
    responded-line _ _ c.requires _ _ _ (rw c.in-Err.is at c.write_plate.ensures) (rw c.from-numbers.ensures at c.write_line.ensures)
