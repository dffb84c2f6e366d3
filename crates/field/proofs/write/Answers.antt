-- `field::write` meets its contract: its five stores are those of `with_number`. A store keeps the length.
use native.Mathlib.Numerals.{towards_suc}
use Rattle.field.specs.Text.{with_number, number_text}
use Rattle.field.proofs.write.Goals as goal

pub returns : goal.returns
unfolding with_number number_text
returns c = simp (towards_suc, c.place-4.ensures, c.place-3.ensures, c.place-2.ensures, c.place.ensures)
