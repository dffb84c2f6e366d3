-- `length` meets its contract: by the field's case.
use Rattle.cases.proofs.length.Goals as goal

pub returns-in-Number : goal.returns-in-Number
returns-in-Number c = cc

pub returns-in-Blank : goal.returns-in-Blank
returns-in-Blank c = cc

pub returns-in-Bad : goal.returns-in-Bad
returns-in-Bad c = cc
