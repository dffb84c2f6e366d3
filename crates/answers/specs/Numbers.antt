-- The jobs' answers in numbers, as C has them: the refusal as document 01's table has it, all 0 where nothing is refused, and the
-- answer's own numbers, which are 0 on a refusal.
use Rattle.std.specs.Prelude.{true, false, ℕ, ⊤, Option, Some, None, Result, Ok, Err}
use Rattle.comparing.specs.declared.Difference.{Difference}
use Rattle.refusal.specs.Numbers.{no_numbers, numbers_of}
use Rattle.refusal.specs.declared.Numbers.{Numbers}
use Rattle.refusal.specs.declared.Refusal.{Refusal}
use Rattle.run.specs.Running.{no_run}
use Rattle.run.specs.declared.Run.{Run}
use Rattle.run.specs.declared.Reported.{Reported}
use Rattle.answers.specs.declared.ValuedNumbers.{ValuedNumbers}
use Rattle.answers.specs.declared.CountNumbers.{CountNumbers}
use Rattle.answers.specs.declared.ReadingNumbers.{ReadingNumbers}
use Rattle.answers.specs.declared.ComparedNumbers.{ComparedNumbers}
use Rattle.answers.specs.declared.Step.{Step}
use Rattle.run.specs.declared.Advice.{Advice}
use Rattle.rows.specs.declared.FirstLine.{FirstLine}
use Rattle.answers.specs.declared.HouseNumbers.{HouseNumbers}

abbrev pub valued_numbers : Result ℕ Refusal → ValuedNumbers
valued_numbers (Ok rounds) = record { refusal = no_numbers; rounds = rounds }
valued_numbers (Err x) = record { refusal = numbers_of x; rounds = 0 }

-- of the jobs that answer one number: a length, a count of lines, an index
abbrev pub count_numbers : Result ℕ Refusal → CountNumbers
count_numbers (Ok count) = record { refusal = no_numbers; count = count }
count_numbers (Err x) = record { refusal = numbers_of x; count = 0 }

abbrev pub reading_numbers : Result FirstLine Refusal → ReadingNumbers
reading_numbers (Ok first) = record { refusal = no_numbers; first = first }
reading_numbers (Err x) = record { refusal = numbers_of x; first = record { rounds = 0; highest = 0; evers = 0 } }

-- of those that answer only whether they refuse
abbrev pub refusal_numbers : Result ⊤ Refusal → Numbers
refusal_numbers (Ok _) = no_numbers
refusal_numbers (Err x) = numbers_of x

abbrev pub compared_numbers : Result (Option Difference) Refusal → ComparedNumbers
compared_numbers (Ok None) = record { refusal = no_numbers; agree = true; position = 0; value = 0; worth = 0 }
compared_numbers (Ok (Some d)) = record { refusal = no_numbers; agree = false; position = d.position; value = d.value; worth = d.worth }
compared_numbers (Err x) = record { refusal = numbers_of x; agree = false; position = 0; value = 0; worth = 0 }

-- a refusal, with the run that comes back
abbrev pub refused_step : Refusal → Run → Step
refused_step x run = record { refusal = numbers_of x; run = run; advice = record { choice = 0; value = 0 } }

-- a refused start begins no run
abbrev pub started_numbers : Result (Run × Advice) Refusal → Step
started_numbers (Ok (run, advice)) = record { refusal = no_numbers; run = run; advice = advice }
started_numbers (Err x) = refused_step x no_run

abbrev pub answer_numbers : Run → Result Advice Refusal → Step
answer_numbers run (Ok advice) = record { refusal = no_numbers; run = run; advice = advice }
answer_numbers run (Err x) = refused_step x run

abbrev pub reported_numbers : Reported → Step
reported_numbers r = answer_numbers r.run r.answer

abbrev pub housed_numbers : Result ℕ (ℕ × Refusal) → HouseNumbers
housed_numbers (Ok moved) = record { refusal = no_numbers; lane = 0; moved = moved }
housed_numbers (Err (lane, r)) = record { refusal = numbers_of r; lane = lane; moved = 0 }
