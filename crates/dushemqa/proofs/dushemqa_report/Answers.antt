-- `dushemqa_report` meets its contract: the job's answer, in numbers.
use Rattle.std.proofs.Common.{◌∙◌, ap}
use Rattle.answers.specs.Numbers.{reported_numbers}
use Rattle.dushemqa.proofs.dushemqa_report.Goals as goal

pub returns : goal.returns
returns c = c.reported_numbers.ensures ∙ ap reported_numbers c.report.ensures
