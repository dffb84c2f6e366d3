-- `making::make_number` meets its contract: below 1,000 the bytes of the word are those of the field (`spelt-text`), and from there on
-- the field is stored byte by byte.
use Prim.Native.Nat.{ℕ, ◌+◌, ◌*◌}
use native.Mathlib.Omega.{arith}
use mathlib.Core.Path.{refl, ap, ◌∙◌}
use Rattle.field.specs.Text.{with_number}
use Rattle.line.specs.Text.{entry_text}
use Rattle.line.specs.MadeLaws.{field-made}
use Rattle.line.specs.declared.Entry.TheVariants.{Number}
use Rattle.spelling.specs.WordLaws.{spelt-small}
use Rattle.making.specs.Words.{word_text, spelt-text}
use Rattle.making.proofs.make_number.Goals as goal

pub overflow_mul-spell : goal.overflow_mul-spell
overflow_mul-spell c = omega (arith, c.spell.ensures, spelt-small c.args.x)

pub overflow_add-spell : goal.overflow_add-spell
overflow_add-spell c = omega (arith, c.spell.ensures, spelt-small c.args.x)

pub returns-then-x-lt1000 : goal.returns-then-x-lt1000
unfolding entry_text
returns-then-x-lt1000 c =
    let x = c.args.x in
    field-made c.args.part.now c.args.at (Number x) (omega (arith, c)) _ _ (ap (λ (w : ℕ). word_text (32 + w * 256)) c.spell.ensures ∙ spelt-text x (omega arith)) c.put_word.ensures

pub returns-else-x-lt1000 : goal.returns-else-x-lt1000
unfolding entry_text with_number
returns-else-x-lt1000 c =
    field-made c.args.part.now c.args.at (Number c.args.x) (omega (arith, c)) _ _ refl c.write.ensures
