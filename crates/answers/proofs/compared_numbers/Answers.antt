-- `compared_numbers` meets its contract: by the answer's case.
use Rattle.answers.proofs.compared_numbers.Goals as goal
