-- `plate::number_at` meets its contract, by the cases of the entry.
use Rattle.rows.specs.Numbers.{number_of}
use Rattle.plate.specs.Read.{entry_number}
use mathlib.Core.Path.{sym, ap, ◌∙◌}
use Rattle.plate.specs.Read.{entry_value}
use native.Mathlib.Omega.{arith}
use Rattle.plate.proofs.number_at.Goals as goal

pub overflow_cast-result : goal.overflow_cast-result
unfolding entry_value number_of
overflow_cast-result c =
    let small = c.requires.1 in
    omega (arith, ap entry_number (sym c.read_entry.ensures ∙ c.in-Number.is))

pub returns-in-Number : goal.returns-in-Number
unfolding entry_value number_of
returns-in-Number c = simp (← c.read_entry.ensures, c.in-Number.is)

pub returns-in-Dash : goal.returns-in-Dash
unfolding entry_value number_of
returns-in-Dash c = simp (← c.read_entry.ensures, c.in-Dash.is)

pub returns-in-Ever : goal.returns-in-Ever
unfolding entry_value number_of
returns-in-Ever c = simp (← c.read_entry.ensures, c.in-Ever.is)

pub returns-in-Bad : goal.returns-in-Bad
unfolding entry_value number_of
returns-in-Bad c = simp (← c.read_entry.ensures, c.in-Bad.is)
