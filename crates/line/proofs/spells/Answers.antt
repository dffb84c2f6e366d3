-- `line::spells` meets its contract: the first byte that differs, or none, says what `same_text` gives.
use Rattle.line.specs.Text.{same_text}
use Rattle.field.specs.Text.{five}
use Rattle.search.proofs.Cases.{cases}
use Rattle.line.proofs.spells.Goals as goal

pub returns-then-text-at-ne32 : goal.returns-then-text-at-ne32
unfolding five same_text
returns-then-text-at-ne32 c = search cases

pub returns-then-text-at : goal.returns-then-text-at
unfolding five same_text
returns-then-text-at c = search cases

pub returns-then-text-at-2 : goal.returns-then-text-at-2
unfolding five same_text
returns-then-text-at-2 c = search cases

pub returns-then-text-at-3 : goal.returns-then-text-at-3
unfolding five same_text
returns-then-text-at-3 c = search cases

pub returns-then-text-at-4 : goal.returns-then-text-at-4
unfolding five same_text
returns-then-text-at-4 c = search cases

pub returns : goal.returns
unfolding five same_text
returns c = search cases
