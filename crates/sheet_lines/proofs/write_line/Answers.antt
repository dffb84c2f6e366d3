-- `write_line` meets its contract: a letter, two fields and a line feed make a line (`line-of-fields`). A call keeps the length.
use native.Mathlib.Omega.{arith}
use mathlib.Core.Path.{refl}
use mathlib.Core.List.{[], ◌∷◌}
use Rattle.line.specs.MadeLaws.{FieldsMade, line-of-fields}
use Rattle.line.specs.declared.Entry.TheVariants.{Number}
use Rattle.sheet_lines.proofs.write_line.Goals as goal

pub returns : goal.returns
unfolding FieldsMade
returns c =
    let a = c.args in
    line-of-fields a.letter (Number a.first ∷ Number a.second ∷ []) a.part.now _ (omega (arith, c))
    (_, c.make_number.ensures, (_, c.make_number-2.ensures, refl))
