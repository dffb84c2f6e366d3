-- `set_of` meets its contract: the sum is the number of the set.
use Rattle.std.proofs.Common.{arith}
use Rattle.rows.specs.NumberLaws.{from-bool}
use Rattle.numbering.specs.Numbering.{set_number}
use Rattle.squares.proofs.set_of.Goals as goal

pub returns : goal.returns
unfolding set_number
returns c = simp (c.from.ensures, c.from-2.ensures, c.from-3.ensures, from-bool) (omega arith)
