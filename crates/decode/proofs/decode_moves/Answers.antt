-- `decode::decode_moves` meets its contract. The invariant: the rows so far are those of the first i moves. That the text has the
-- lines, that their bytes spell their numbers and that these fit 16 bits is what accepting it says.
use Prim.Native.Nat.{ℕ, ◌+◌, ◌-◌}
use native.Mathlib.Omega.{arith}
use mathlib.Core.Path.{◌≡◌, ◌∙◌, subst}
use Rattle.rows.specs.Filling.{filled_none, filled_more}
use Rattle.chart.specs.Text.{letter_at}
use Rattle.walk.specs.Decoded.{MoveRows}
use Rattle.decode.specs.LoadedLaws.{moves-fit}
use Rattle.decode.proofs.decode_moves.Goals as goal

pub overflow_add-first : goal.overflow_add-first
overflow_add-first c =
    omega (arith, (moves-fit c.args.text.now c.args.chart c.requires.text_value).few.0)

pub loop-i-init : goal.loop-i-init
loop-i-init c = (
  omega arith,
  omega arith,
  omega arith,
  omega arith,
  moves-fit c.args.text.now c.args.chart c.requires.text_value,
  record { cost = filled_none _ _; from = filled_none _ _; to = filled_none _ _ },
)

pub overflow_cast-froms : goal.overflow_cast-froms
overflow_cast-froms c =
    let fit = c.loop-i.invariant.4 in
    omega (arith, c.decimal.ensures, fit.from-spelt c.loop-i.i (omega arith), fit.from-small c.loop-i.i (omega arith))

pub overflow_cast-tos : goal.overflow_cast-tos
overflow_cast-tos c =
    let fit = c.loop-i.invariant.4 in
    omega (arith, c.decimal-in-loop-i.ensures, fit.to-spelt c.loop-i.i (omega arith), fit.to-small c.loop-i.i (omega arith))

pub loop-i-preserved : goal.loop-i-preserved
unfolding letter_at
loop-i-preserved c =
    let inv = c.loop-i.invariant in (
      omega arith,
      inv.1,
      inv.2,
      inv.3,
      inv.4,
      record {
        cost = filled_more _ _ c.loop-i.i _ _ inv.5.cost (omega arith) c.cost.ensures;
        from = filled_more _ _ c.loop-i.i _ _ inv.5.from (omega arith) (c.decimal.ensures ∙ inv.4.from-spelt c.loop-i.i (omega arith));
        to = filled_more _ _ c.loop-i.i _ _ inv.5.to (omega arith) (c.decimal-in-loop-i.ensures ∙ inv.4.to-spelt c.loop-i.i (omega arith));
      },
    )

pub shape_of-costs : goal.shape_of-costs
shape_of-costs c = c.loop-i.invariant.5.cost.same_length

pub shape_of-froms : goal.shape_of-froms
shape_of-froms c = c.loop-i.invariant.5.from.same_length

pub shape_of-tos : goal.shape_of-tos
shape_of-tos c = c.loop-i.invariant.5.to.same_length

pub returns : goal.returns
returns c =
    let a = c.args in
    let e : c.loop-i.i ≡ a.chart.moves = omega arith in
    subst
    (λ (k : ℕ). MoveRows a.text.now (a.chart.positions + 1) k a.costs.now c.loop-i.costs a.froms.now c.loop-i.froms a.tos.now c.loop-i.tos)
    e c.loop-i.invariant.5
