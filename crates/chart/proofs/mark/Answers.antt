-- `chart::mark` meets its contract: by the cases of the field.
use Rattle.search.proofs.Cases.{cases}
use Rattle.chart.specs.Text.{mark_of}
use Rattle.chart.proofs.mark.Goals as goal

pub returns-in-Number : goal.returns-in-Number
unfolding mark_of
returns-in-Number c = simp c.in-Number.is

pub returns-in-Blank : goal.returns-in-Blank
unfolding mark_of
returns-in-Blank c = search cases

pub returns-in-Bad : goal.returns-in-Bad
unfolding mark_of
returns-in-Bad c = search cases
