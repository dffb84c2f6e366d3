-- `decode::decode_positions` meets its contract. The invariant: the rows so far are those of the first v positions. That the text
-- has the lines, that its bytes spell its marks and that these fit a byte is what accepting it says.
use Prim.Native.Nat.{ℕ, ◌-◌}
use native.Mathlib.Omega.{arith}
use mathlib.Core.Path.{◌≡◌, ◌∙◌, subst}
use Rattle.rows.specs.Filling.{filled_none, filled_more}
use Rattle.chart.specs.Text.{letter_at}
use Rattle.walk.specs.Decoded.{PositionRows}
use Rattle.decode.specs.LoadedLaws.{positions-fit}
use Rattle.decode.proofs.decode_positions.Goals as goal

pub loop-v-init : goal.loop-v-init
loop-v-init c =
    (omega arith, omega arith, omega arith, positions-fit c.args.text.now c.args.chart c.requires.text_value, record { owner = filled_none _ _; mark = filled_none _ _ })

pub overflow_cast-marks : goal.overflow_cast-marks
overflow_cast-marks c =
    let fit = c.loop-v.invariant.3 in
    omega (arith, c.decimal.ensures, fit.mark-spelt c.loop-v.v (omega arith), fit.small c.loop-v.v (omega arith))

pub loop-v-preserved : goal.loop-v-preserved
unfolding letter_at
loop-v-preserved c =
    let inv = c.loop-v.invariant in (
      omega arith,
      inv.1,
      inv.2,
      inv.3,
      record {
        owner = filled_more _ _ c.loop-v.v _ _ inv.4.owner (omega arith) c.owner.ensures;
        mark = filled_more _ _ c.loop-v.v _ _ inv.4.mark (omega arith) (c.decimal.ensures ∙ inv.3.mark-spelt c.loop-v.v (omega arith));
      },
    )

pub shape_of-owners : goal.shape_of-owners
shape_of-owners c = c.loop-v.invariant.4.owner.same_length

pub shape_of-marks : goal.shape_of-marks
shape_of-marks c = c.loop-v.invariant.4.mark.same_length

pub returns : goal.returns
returns c =
    let a = c.args in
    let e : c.loop-v.v ≡ a.chart.positions = omega arith in
    subst (λ (k : ℕ). PositionRows a.text.now k a.owners.now c.loop-v.owners a.marks.now c.loop-v.marks) e c.loop-v.invariant.4
