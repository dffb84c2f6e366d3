-- `write_valued` meets its contract: the rows are the arena's, and so is their plate.
use Rattle.writing.specs.WritingLaws.{plate-written}
use Rattle.writing.proofs.write_valued.Goals as goal

pub returns : goal.returns
returns c = plate-written c.value_rows-s.ensures c.write_rows.ensures
