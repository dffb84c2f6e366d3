-- `advice_at` meets its contract: the line is within a plate of the form, and its entries fit 16 bits.
use native.Mathlib.Omega.{arith}
use Rattle.plate.specs.Form.{column_at}
use Rattle.plate.specs.Read.{value_in_plate, choice_in_plate}
use Rattle.plate.specs.ReadLaws.{position-fits}
use Rattle.run.specs.Running.{advice_at}
use Rattle.run.proofs.advice_at.Goals as goal

pub number_at-choice-requires : goal.number_at-choice-requires
unfolding column_at
number_at-choice-requires c =
    let pre = c.requires in
    let fits = position-fits _ _ pre.0 pre.1 _ pre.2 in
    (omega (arith, fits.inside), fits.third)

pub number_at-value-requires : goal.number_at-value-requires
unfolding column_at
number_at-value-requires c =
    let pre = c.requires in
    let fits = position-fits _ _ pre.0 pre.1 _ pre.2 in
    (omega (arith, fits.inside), fits.second)

pub returns : goal.returns
unfolding advice_at choice_in_plate value_in_plate column_at
returns c = rw (c.number_at-choice.ensures, c.number_at-value.ensures)
