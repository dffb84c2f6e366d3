-- `spelling::spell_all` meets its contract: the invariant says that the row is filled up to v and has kept its length.
use Rattle.rows.specs.Rows.{Filled}
use Rattle.spelling.specs.Words.{spelt}
use Rattle.spelling.proofs.spell_all.Given as goal

abbrev pub invariant-loop-v : goal.invariant-loop-v
invariant-loop-v l = Filled l.initial.words l.words l.v spelt
