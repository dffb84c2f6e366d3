-- `walk::spell_lines` meets its contract. The invariant: the rows have the words of the first v positions.
use Prim.Native.Nat.{ℕ, ◌-◌}
use native.Mathlib.Omega.{arith}
use mathlib.Core.Path.{◌≡◌, subst}
use Rattle.rows.specs.Filling.{filled_none}
use lib.ListN.{length-set}
use Rattle.spelling.specs.WordLaws.{spelt-small}
use Rattle.walk.specs.Walked.{LinesSpelt}
use Rattle.walk.specs.WalkLaws.{lines_more}
use Rattle.walk.proofs.spell_lines.Goals as goal

pub loop-v-init : goal.loop-v-init
loop-v-init c = (omega arith, record { opening = filled_none _ _; middle = filled_none _ _; closing = filled_none _ _ })

pub bounds-openings-v-in-loop-v : goal.bounds-openings-v-in-loop-v
bounds-openings-v-in-loop-v c = simp length-set (omega arith)

pub overflow_add-closings : goal.overflow_add-closings
overflow_add-closings c = omega (arith, c.spell-spelling.ensures, spelt-small c.loop-v.v)

pub loop-v-preserved : goal.loop-v-preserved
loop-v-preserved c =
    (omega arith, lines_more c.loop-v.v c.spell-spelling.result c.loop-v.invariant.1 c.spell-spelling.ensures (omega arith) (omega arith) (omega arith))

pub returns : goal.returns
returns c =
    let a = c.args in
    let all : c.loop-v.v ≡ a.n = omega arith in
    subst (λ (k : ℕ). LinesSpelt k a.openings.now c.loop-v.openings a.middles.now c.loop-v.middles a.closings.now c.loop-v.closings) all c.loop-v.invariant.1
