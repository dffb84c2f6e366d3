-- `chart::number` meets its contract: by the cases of the field.
use Rattle.search.proofs.Cases.{cases}
use Rattle.chart.specs.Text.{field_number}
use Rattle.chart.proofs.number.Goals as goal

pub returns-in-Number : goal.returns-in-Number
unfolding field_number
returns-in-Number c = search cases

pub returns-in-Blank : goal.returns-in-Blank
unfolding field_number
returns-in-Blank c = search cases

pub returns-in-Bad : goal.returns-in-Bad
unfolding field_number
returns-in-Bad c = search cases
