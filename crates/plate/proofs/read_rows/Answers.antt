-- `plate::read_rows` meets its contract. The invariant: the rows hold the columns of the positions so far. A turn reads one line of
-- three entries, each of which fits 16 bits by the form.
use mathlib.Core.Path.{◌≡◌, subst}
use Rattle.rows.specs.Filling.{filled_none, filled_more}
use Rattle.plate.specs.ReadLaws.{LineFits, header-fits, position-fits}
use Rattle.plate.specs.Read.{value_in_plate, choice_in_plate, step_in_plate, header_in, ColumnsRead}
use Rattle.plate.specs.Form.{column_at}
use Prim.Native.Nat.{ℕ, ◌+◌, ◌-◌}
use native.Mathlib.Omega.{arith}
use Rattle.plate.proofs.read_rows.Goals as goal

pub loop-v-init : goal.loop-v-init
loop-v-init c = (omega arith, record { value = filled_none _ _; choice = filled_none _ _; step = filled_none _ _ })

pub number_at-requires : goal.number_at-requires
unfolding column_at
number_at-requires c = let turn : LineFits c.args.plate.now (c.loop-v.v + 1) = position-fits c.args.n c.args.plate.now c.requires.n_bound.0 c.requires.n_bound.1 c.loop-v.v c.loop-v-test.true in
    (omega (arith, (turn).inside), (turn).second)

pub number_at-requires-in-loop-v : goal.number_at-requires-in-loop-v
unfolding column_at
number_at-requires-in-loop-v c = let turn : LineFits c.args.plate.now (c.loop-v.v + 1) = position-fits c.args.n c.args.plate.now c.requires.n_bound.0 c.requires.n_bound.1 c.loop-v.v c.loop-v-test.true in
    (omega (arith, (turn).inside), (turn).third)

pub number_at-requires-in-loop-v-2 : goal.number_at-requires-in-loop-v-2
unfolding column_at
number_at-requires-in-loop-v-2 c = let turn : LineFits c.args.plate.now (c.loop-v.v + 1) = position-fits c.args.n c.args.plate.now c.requires.n_bound.0 c.requires.n_bound.1 c.loop-v.v c.loop-v-test.true in
    (omega (arith, (turn).inside), (turn).fourth)

pub loop-v-preserved : goal.loop-v-preserved
unfolding value_in_plate choice_in_plate step_in_plate column_at
loop-v-preserved c =
    let rows = c.loop-v.invariant.1 in (
      omega arith,
      record {
        value = filled_more _ _ _ _ _ rows.value (omega arith) c.number_at.ensures;
        choice = filled_more _ _ _ _ _ rows.choice (omega arith) c.number_at-in-loop-v.ensures;
        step = filled_more _ _ _ _ _ rows.step (omega arith) c.number_at-in-loop-v-2.ensures;
      },
    )

pub number_at-requires-2 : goal.number_at-requires-2
unfolding column_at
number_at-requires-2 c = let first : LineFits c.args.plate.now 0 = header-fits c.args.n c.args.plate.now c.requires.n_bound.0 c.requires.n_bound.1 in
    (omega (arith, (first).inside), (first).second)

pub number_at-requires-3 : goal.number_at-requires-3
unfolding column_at
number_at-requires-3 c = let first : LineFits c.args.plate.now 0 = header-fits c.args.n c.args.plate.now c.requires.n_bound.0 c.requires.n_bound.1 in
    (omega (arith, (first).inside), (first).third)

pub number_at-requires-4 : goal.number_at-requires-4
unfolding column_at
number_at-requires-4 c = let first : LineFits c.args.plate.now 0 = header-fits c.args.n c.args.plate.now c.requires.n_bound.0 c.requires.n_bound.1 in
    (omega (arith, (first).inside), (first).fourth)

pub returns : goal.returns
unfolding header_in column_at
returns c =
    let a = c.args in
    let done : c.loop-v.v ≡ a.n = omega arith in
    let rounds = c.number_at-2.ensures in
    let highest = c.number_at-3.ensures in
    let evers = c.number_at-4.ensures in
    record {
      header = simp (rounds, highest, evers);
      rows =
          subst
          (λ (k : ℕ). ColumnsRead k a.plate.now a.values.now c.loop-v.values a.choices.now c.loop-v.choices a.steps.now c.loop-v.steps)
          done
          c.loop-v.invariant.1;
    }
