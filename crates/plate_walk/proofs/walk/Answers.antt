-- `walk` meets its contract: the invariant says that the lines below v are good and the rows hold their columns.
use Prim.Native.Nat.{ℕ, ◌-◌, ◌<◌}
use native.Mathlib.Omega.{arith}
use mathlib.Core.Path.{◌≡◌, subst}
use mathlib.Core.Bool.{true}
use borrow.Author.Count.{below_more}
use Rattle.plate.specs.Formed.{position_good}
use Rattle.plate.specs.Read.{ColumnsRead}
use Rattle.plate_walk.specs.WalkLaws.{columns-none, columns-next, columns-touched, walk-stops, walk_ends}
use Rattle.plate_walk.proofs.walk.Goals as goal

pub loop-v-init : goal.loop-v-init
loop-v-init c = (omega arith, λ u l. absurd (omega arith), columns-none _ _ _ _)

pub line_at-requires : goal.line_at-requires
line_at-requires c =
    let pre = c.requires in
    (pre.0, c.loop-v-test.true, pre.4, pre.5, pre.6)

pub returns-in_default : goal.returns-in_default
returns-in_default c = walk-stops (columns-touched c.loop-v.invariant.0 c.loop-v.invariant.2)

pub bounds-values-v : goal.bounds-values-v
bounds-values-v c = omega (arith, c.loop-v.invariant.2.value.same_length)

pub bounds-choices-v : goal.bounds-choices-v
bounds-choices-v c = omega (arith, c.loop-v.invariant.2.choice.same_length)

pub bounds-steps-v : goal.bounds-steps-v
bounds-steps-v c = omega (arith, c.loop-v.invariant.2.step.same_length)

pub loop-v-preserved : goal.loop-v-preserved
loop-v-preserved c =
    let turn = c.loop-v in
    let line = c.line_at.ensures in
    let good = c.in-Some.is in
    (omega arith, below_more _ _ turn.invariant.1 (line.form _ good), columns-next (omega arith) (omega arith) (omega arith) line good turn.invariant.2)

pub shape_of-values : goal.shape_of-values
shape_of-values c = c.loop-v.invariant.2.value.same_length

pub shape_of-choices : goal.shape_of-choices
shape_of-choices c = c.loop-v.invariant.2.choice.same_length

pub shape_of-steps : goal.shape_of-steps
shape_of-steps c = c.loop-v.invariant.2.step.same_length

pub returns : goal.returns
returns c =
    let turn = c.loop-v in
    let done : turn.v ≡ c.args.n = omega arith in
    walk_ends (subst (λ (k : ℕ). (u : ℕ) → u < k → position_good c.args.n c.args.plate.now u ≡ true) done turn.invariant.1) (subst (λ (k : ℕ). ColumnsRead k c.args.plate.now c.args.values.now turn.values c.args.choices.now turn.choices c.args.steps.now turn.steps) done turn.invariant.2)
