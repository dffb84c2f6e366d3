-- `line::read_entry` meets its contract, by the cases of `or_word` and `word_of`.
use Rattle.line.specs.Text.{entry_at, entry_of, or_word, word_of, dash_text, ever_text}
use Rattle.field.specs.Text.{field_at}
use Rattle.line.proofs.read_entry.Goals as goal

pub returns-then-spells : goal.returns-then-spells
unfolding entry_at entry_of or_word word_of dash_text field_at
returns-then-spells c = simp (← c.in-Bad.ensures, ← c.spells.ensures, c.if-spells.true)

pub returns-then-spells-2 : goal.returns-then-spells-2
unfolding entry_at entry_of or_word word_of dash_text ever_text field_at
returns-then-spells-2 c = simp (← c.in-Bad.ensures, ← c.spells.ensures, c.if-spells.false, ← c.spells-in-Bad.ensures, c.if-spells-2.true)

pub returns-in-Number : goal.returns-in-Number
unfolding entry_at entry_of or_word field_at
returns-in-Number c = simp (← c.in-Number.ensures)

pub returns-in-Blank : goal.returns-in-Blank
unfolding entry_at entry_of or_word field_at
returns-in-Blank c = simp (← c.in-Blank.ensures)

pub returns-else-spells-2 : goal.returns-else-spells-2
unfolding entry_at entry_of or_word word_of dash_text ever_text field_at
returns-else-spells-2 c = simp (← c.in-Bad.ensures, ← c.spells.ensures, c.if-spells.false, ← c.spells-in-Bad.ensures, c.if-spells-2.false)
