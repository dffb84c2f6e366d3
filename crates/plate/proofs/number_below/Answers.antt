-- `plate::number_below` meets its contract, by the cases of the entry.
use Rattle.plate.specs.Formed.{number_below}
use Rattle.search.proofs.Cases.{cases}
use Rattle.plate.proofs.number_below.Goals as goal

pub returns-in-Number : goal.returns-in-Number
unfolding number_below
returns-in-Number c = simp (← c.read_entry.ensures, c.in-Number.is) (search cases)

pub returns-in-Dash : goal.returns-in-Dash
unfolding number_below
returns-in-Dash c = simp (← c.read_entry.ensures, c.in-Dash.is)

pub returns-in-Ever : goal.returns-in-Ever
unfolding number_below
returns-in-Ever c = simp (← c.read_entry.ensures, c.in-Ever.is)

pub returns-in-Bad : goal.returns-in-Bad
unfolding number_below
returns-in-Bad c = simp (← c.read_entry.ensures, c.in-Bad.is)
