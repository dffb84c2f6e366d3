-- `field::decimal` meets its contract: the sum is the definition, unfolded.
use Rattle.field.specs.Text.{five, decimal, decimal_at}
use borrow.Author.Rules.{rules}
use Rattle.field.proofs.decimal.Goals as goal

pub returns : goal.returns
unfolding decimal_at decimal five
returns c = search rules
