-- What each refusal gives, as document 01's table has it: "A refusal gives a number and a line, counted from 0 in the chart (1 to 9) or
-- plate (11), else 0; 14 gives the fault's position and condition besides", and document 02, order 4: "17 (with its line)", in the chart too;
-- order 5's 18, order 6's 19, order 7's 20 and order 9's 21 give none. The one definition of the table's numbers.
use Rattle.std.specs.Prelude.{ℕ}
use Rattle.refusal.specs.declared.Misdrawn.{Misdrawn}
use Rattle.refusal.specs.declared.Misdrawn.TheVariants.{Length, Form, Limits, Count, Sequence, Endpoint, Disturbed, Resting, Order, NoMeant}
use Rattle.refusal.specs.declared.Refusal.{Refusal}
use Rattle.refusal.specs.declared.Refusal.TheVariants.{Lanes, Chart, NotSmall, Short, Plate, Choice, Position, Ever, Fault, Held, Move, Seen}
use Rattle.refusal.specs.declared.Numbers.{Numbers}

-- the table's column "No."
abbrev pub misdrawn_number : Misdrawn → ℕ
misdrawn_number Length = 1
misdrawn_number (Form line) = 2
misdrawn_number Limits = 3
misdrawn_number Count = 4
misdrawn_number (Sequence line) = 5
misdrawn_number (Endpoint line) = 6
misdrawn_number (Disturbed line) = 7
misdrawn_number (Resting line) = 17
misdrawn_number (Order line) = 8
misdrawn_number (NoMeant line) = 9

-- the line in the chart
abbrev pub misdrawn_line : Misdrawn → ℕ
misdrawn_line Length = 0
misdrawn_line (Form line) = line
misdrawn_line Limits = 0
misdrawn_line Count = 0
misdrawn_line (Sequence line) = line
misdrawn_line (Endpoint line) = line
misdrawn_line (Disturbed line) = line
misdrawn_line (Resting line) = line
misdrawn_line (Order line) = line
misdrawn_line (NoMeant line) = line

abbrev pub refusal_number : Refusal → ℕ
refusal_number Lanes = 20
refusal_number (Chart m) = misdrawn_number m
refusal_number NotSmall = 21
refusal_number Short = 10
refusal_number (Plate line) = 11
refusal_number Choice = 12
refusal_number Position = 13
refusal_number Ever = 19
refusal_number (Fault position condition) = 14
refusal_number Held = 18
refusal_number Move = 15
refusal_number Seen = 16

-- "a line, counted from 0 in the chart (1 to 9) or plate (11), else 0"; 17 has its line in the chart
abbrev pub refusal_line : Refusal → ℕ
refusal_line Lanes = 0
refusal_line (Chart m) = misdrawn_line m
refusal_line NotSmall = 0
refusal_line Short = 0
refusal_line (Plate line) = line
refusal_line Choice = 0
refusal_line Position = 0
refusal_line Ever = 0
refusal_line (Fault position condition) = 0
refusal_line Held = 0
refusal_line Move = 0
refusal_line Seen = 0

-- "14 gives the fault's position and condition besides"
abbrev pub refusal_position : Refusal → ℕ
refusal_position Lanes = 0
refusal_position (Chart m) = 0
refusal_position NotSmall = 0
refusal_position Short = 0
refusal_position (Plate line) = 0
refusal_position Choice = 0
refusal_position Position = 0
refusal_position Ever = 0
refusal_position (Fault position condition) = position
refusal_position Held = 0
refusal_position Move = 0
refusal_position Seen = 0

abbrev pub refusal_condition : Refusal → ℕ
refusal_condition Lanes = 0
refusal_condition (Chart m) = 0
refusal_condition NotSmall = 0
refusal_condition Short = 0
refusal_condition (Plate line) = 0
refusal_condition Choice = 0
refusal_condition Position = 0
refusal_condition Ever = 0
refusal_condition (Fault position condition) = condition
refusal_condition Held = 0
refusal_condition Move = 0
refusal_condition Seen = 0

abbrev pub numbers_of : Refusal → Numbers
numbers_of r = record { number = refusal_number r; line = refusal_line r; position = refusal_position r; condition = refusal_condition r }

-- nothing is refused
abbrev pub no_numbers : Numbers
no_numbers = record { number = 0; line = 0; position = 0; condition = 0 }
