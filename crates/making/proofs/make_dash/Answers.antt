-- `making::make_dash` meets its contract: the word's bytes are those of the field.
use native.Mathlib.Omega.{arith}
use Rattle.line.specs.Text.{entry_text, dash_text}
use Rattle.line.specs.MadeLaws.{field-made}
use Rattle.line.specs.declared.Entry.TheVariants.{Dash}
use Rattle.making.specs.Words.{dash-word}
use Rattle.making.proofs.make_dash.Goals as goal

pub returns : goal.returns
unfolding entry_text dash_text
returns c =
    field-made c.args.part.now c.args.at Dash (omega (arith, c)) _ _ dash-word c.put_word.ensures
