-- `dushemqa_start` meets its contract: the job's answer, in numbers.
use Rattle.std.proofs.Common.{◌∙◌, ap}
use Rattle.answers.specs.Numbers.{started_numbers}
use Rattle.dushemqa.proofs.dushemqa_start.Goals as goal

pub returns : goal.returns
returns c = c.started_numbers.ensures ∙ ap started_numbers c.start.ensures
