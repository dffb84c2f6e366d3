-- `walk::mark_word` meets its contract: by the test of the last byte.
use Prim.Native.Nat.{◌%◌}
use native.Mathlib.Omega.{arith}
use mathlib.Core.Path.{ap}
use borrow.Author.Tests.{ne_eqb}
use Rattle.search.proofs.Cases.{cases}
use Rattle.spelling.specs.WordLaws.{spelt-small}
use Rattle.walk.specs.Walked.{closing_of, mark_word}
use Rattle.walk.proofs.mark_word.Goals as goal

pub returns-then-last-eq32 : goal.returns-then-last-eq32
unfolding mark_word
returns-then-last-eq32 c = search cases

pub overflow_add-result : goal.overflow_add-result
overflow_add-result c = omega (arith, c.spell.ensures, spelt-small (c.args.last % 2))

pub returns : goal.returns
unfolding mark_word
returns c = rw (ne_eqb c.args.last 32 c.if-last-eq32.false) (ap closing_of c.spell.ensures)
