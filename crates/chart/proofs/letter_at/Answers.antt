-- `chart::letter_at` meets its contract: past the end `get_or` gives 0.
use Rattle.chart.specs.Text.{letter_at}
use mathlib.Core.Path.{refl, sym}
use lib.ListN.{get_or-eq_default}
use Rattle.chart.proofs.letter_at.Goals as goal

pub returns-then-at-text : goal.returns-then-at-text
unfolding letter_at
returns-then-at-text c = refl

pub returns-else-at-text : goal.returns-else-at-text
unfolding letter_at
returns-else-at-text c = sym (get_or-eq_default c.args.text.now 0 c.if-at-text.false)
