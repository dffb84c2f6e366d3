-- `chart::numbered` meets its contract: by the cases of the two fields.
use Rattle.search.proofs.Cases.{cases}
use Rattle.chart.specs.Text.{is_number}
use Rattle.chart.specs.Examined.{numbered}
use Rattle.chart.proofs.numbered.Goals as goal

pub returns-in-Number-second : goal.returns-in-Number-second
unfolding numbered is_number
returns-in-Number-second c = simp (c.in-Number.is, c.in-Number-second.is)

pub returns-in-Blank-second : goal.returns-in-Blank-second
unfolding numbered is_number
returns-in-Blank-second c = search cases

pub returns-in-Bad-second : goal.returns-in-Bad-second
unfolding numbered is_number
returns-in-Bad-second c = search cases

pub returns-in-Blank : goal.returns-in-Blank
unfolding numbered is_number
returns-in-Blank c = search cases

pub returns-in-Bad : goal.returns-in-Bad
unfolding numbered is_number
returns-in-Bad c = search cases
