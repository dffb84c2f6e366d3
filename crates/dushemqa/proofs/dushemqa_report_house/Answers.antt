-- `dushemqa_report_house` meets its contract: all that the job promises, and the job's answer in numbers.
use Rattle.dushemqa.proofs.dushemqa_report_house.Goals as goal

pub returns : goal.returns
returns c = record { answer = c.report_house.result; job = c.report_house.ensures; numbers = c.housed_numbers.ensures }
