-- `entry` meets its contract: each answer by the tests that led to it, where the table has the word of the number guessed.
use native.Mathlib.Omega.{arith}
use Rattle.search.proofs.Cases.{cases}
use Rattle.plate_walk.specs.Walk.{taken}
use Rattle.plate_walk.specs.WalkLaws.{spelt-small}
use Rattle.plate_walk.proofs.entry.Goals as goal

pub returns-then-plate-at-ne32 : goal.returns-then-plate-at-ne32
unfolding taken
returns-then-plate-at-ne32 c = record { bytes = c.word-bytes.result; word = c.word-bytes.ensures; is = search cases }

pub returns-then-bytes-other : goal.returns-then-bytes-other
unfolding taken
returns-then-bytes-other c = record { bytes = c.word-bytes.result; word = c.word-bytes.ensures; is = search cases }

pub returns-then-n-x : goal.returns-then-n-x
unfolding taken
returns-then-n-x c = record { bytes = c.word-bytes.result; word = c.word-bytes.ensures; is = rw (← c.guess-x.ensures) (search cases) }

pub overflow_mul-words : goal.overflow_mul-words
overflow_mul-words c =
    let x = c.guess-x.result in
    let Spelt-is = c.requires.3 x (omega arith) in
    omega (arith, Spelt-is, spelt-small x)

pub overflow_add-words : goal.overflow_add-words
overflow_add-words c =
    let x = c.guess-x.result in
    let Spelt-is = c.requires.3 x (omega arith) in
    omega (arith, Spelt-is, spelt-small x)

pub returns-then-bytes-words : goal.returns-then-bytes-words
unfolding taken
returns-then-bytes-words c =
    let x = c.guess-x.result in
    let Spelt-is = c.requires.3 x (omega arith) in
    record { bytes = c.word-bytes.result; word = c.word-bytes.ensures; is = rw (← c.guess-x.ensures, ← Spelt-is) (search cases) }

pub returns-else-bytes-words : goal.returns-else-bytes-words
unfolding taken
returns-else-bytes-words c =
    let x = c.guess-x.result in
    let Spelt-is = c.requires.3 x (omega arith) in
    record { bytes = c.word-bytes.result; word = c.word-bytes.ensures; is = rw (← c.guess-x.ensures, ← Spelt-is) (search cases) }
