-- `load_plate` meets its contract: what passes is of the form and its rows are filled; anything else is examined exactly, and what the
-- walk had touched is filled anew.
use native.Mathlib.Omega.{arith}
use mathlib.Core.Path.{sym, ◌∙◌}
use Rattle.plate_walk.specs.Walk.{PlateLoadedAs}
use Rattle.rows.specs.Filling.{filled-after}
use Rattle.plate_walk.specs.WalkLaws.{read-after}
use Rattle.plate_walk.proofs.load_plate.Goals as goal

pub first_line-requires : goal.first_line-requires
first_line-requires c = (c.requires.0, c.passes.ensures.form c.if-passes.true)

pub returns-then-passes : goal.returns-then-passes
unfolding PlateLoadedAs
returns-then-passes c =
    let passed = c.passes.ensures in
    let taken = c.if-passes.true in
    record { loaded = (passed.form taken, record { header = c.first_line.ensures; rows = passed.rows taken }) }

pub read_rows-requires : goal.read_rows-requires
read_rows-requires c =
    let touched = c.passes.ensures.touched in record { n_bound = (c.requires.0, sym c.examine_plate.ensures ∙ c.in-Ok.is); n_in_bounds = (omega (arith, touched.value.same_length), omega (arith, touched.choice.same_length), omega (arith, touched.step.same_length)) }

pub returns-in-Ok : goal.returns-in-Ok
unfolding PlateLoadedAs
returns-in-Ok c =
    record { loaded = (sym c.examine_plate.ensures ∙ c.in-Ok.is, read-after c.passes.ensures.touched c.read_rows.ensures) }

pub returns-in-Err : goal.returns-in-Err
unfolding PlateLoadedAs
returns-in-Err c =
    let touched = c.passes.ensures.touched in
    record { loaded = (sym c.examine_plate.ensures ∙ c.in-Err.is, filled-after touched.value c.clear.ensures, filled-after touched.choice c.clear-in-Err.ensures, filled-after touched.step c.clear-in-Err-2.ensures) }
