-- `dushemqa_small_index` meets its contract: the job's answer, in numbers.
use Rattle.std.proofs.Common.{◌∙◌, ap}
use Rattle.answers.specs.Numbers.{count_numbers}
use Rattle.dushemqa.proofs.dushemqa_small_index.Goals as goal

pub returns : goal.returns
returns c = c.count_numbers.ensures ∙ ap count_numbers c.index_small_chart.ensures
