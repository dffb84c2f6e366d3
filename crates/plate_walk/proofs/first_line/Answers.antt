-- `first_line` meets its contract: the first line of a plate of the form fits 16 bits.
use native.Mathlib.Omega.{arith}
use Rattle.plate.specs.Form.{column_at}
use Rattle.plate.specs.Read.{header_in}
use Rattle.plate.specs.ReadLaws.{LineFits, header-fits}
use Rattle.plate_walk.proofs.first_line.Goals as goal

pub number_at-requires : goal.number_at-requires
unfolding column_at
number_at-requires c = let fits : LineFits c.args.plate.now 0 = header-fits c.args.n c.args.plate.now c.requires.0 c.requires.1 in
    let first = fits in (omega arith, first.second)

pub number_at-requires-2 : goal.number_at-requires-2
unfolding column_at
number_at-requires-2 c = let fits : LineFits c.args.plate.now 0 = header-fits c.args.n c.args.plate.now c.requires.0 c.requires.1 in
    let first = fits in (omega arith, first.third)

pub number_at-requires-3 : goal.number_at-requires-3
unfolding column_at
number_at-requires-3 c = let fits : LineFits c.args.plate.now 0 = header-fits c.args.n c.args.plate.now c.requires.0 c.requires.1 in
    let first = fits in (omega arith, first.fourth)

pub returns : goal.returns
unfolding header_in column_at
returns c =
    let rounds = c.number_at.ensures in
    let highest = c.number_at-2.ensures in
    let evers = c.number_at-3.ensures in
    simp (rounds, highest, evers)
