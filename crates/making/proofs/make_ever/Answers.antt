-- `making::make_ever` meets its contract: the word's bytes are those of the field.
use native.Mathlib.Omega.{arith}
use Rattle.line.specs.Text.{entry_text, ever_text}
use Rattle.line.specs.MadeLaws.{field-made}
use Rattle.line.specs.declared.Entry.TheVariants.{Ever}
use Rattle.making.specs.Words.{ever-word}
use Rattle.making.proofs.make_ever.Goals as goal

pub returns : goal.returns
unfolding entry_text ever_text
returns c =
    field-made c.args.part.now c.args.at Ever (omega (arith, c)) _ _ ever-word c.put_word.ensures
