-- `spelling::spell` meets its contract: its sum is that of `spelt-sum`.
use native.Mathlib.Omega.{arith}
use Rattle.spelling.specs.WordLaws.{spelt-sum, zeros-small}
use Rattle.spelling.proofs.spell.Goals as goal

pub overflow_add-result : goal.overflow_add-result
overflow_add-result c = omega (arith, c.zeros.ensures, zeros-small c.args.x)

pub returns : goal.returns
returns c = omega (arith, c.zeros.ensures, spelt-sum c.args.x (omega (arith, c)))
