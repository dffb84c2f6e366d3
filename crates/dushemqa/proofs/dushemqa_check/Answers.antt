-- `dushemqa_check` meets its contract: the job's answer, in numbers.
use Rattle.std.proofs.Common.{◌∙◌, ap}
use Rattle.answers.specs.Numbers.{refusal_numbers}
use Rattle.dushemqa.proofs.dushemqa_check.Goals as goal

pub returns : goal.returns
returns c = c.refusal_numbers.ensures ∙ ap refusal_numbers c.check.ensures
