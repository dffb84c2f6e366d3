-- `walk::walk_positions` meets its contract. The invariant: the first v lines are good, and the rows are filled up to v.
use Prim.Native.Nat.{ℕ, ◌+◌, ◌*◌, ◌-◌}
use native.Mathlib.Omega.{arith}
use mathlib.Core.Path.{◌≡◌, sym, subst}
use borrow.Author.Count.{below_more}
use Rattle.rows.specs.Filling.{filled_none, filled_more, filled-kept}
use Rattle.chart.specs.Text.{letter_at}
use Rattle.chart.specs.Good.{GoodPosition}
use Rattle.walk.specs.Walked.{PositionsPassed}
use Rattle.walk.specs.WalkLaws.{stopped, went_on, letter-fits, letter-out, letter-in, letter-room, position-stands}
use Rattle.std.proofs.lemmas.Bool.{not_from_true}
use Rattle.walk.proofs.walk_positions.Goals as goal

pub loop-v-init : goal.loop-v-init
loop-v-init c = (omega arith, record { good = λ v h. absurd (omega arith); rows = record { owner = filled_none _ _; mark = filled_none _ _ } })

pub overflow_sub-opening : goal.overflow_sub-opening
overflow_sub-opening c =
    letter-out _ c.loop-v.v (c.requires.row_is.0 (2 * c.loop-v.v) (omega arith))

pub overflow_add-opening : goal.overflow_add-opening
overflow_add-opening c =
    omega (arith, letter-room _ c.loop-v.v (c.requires.row_is.0 (2 * c.loop-v.v) (omega arith)) _ (letter-fits _ _ c.letter_of.ensures))

pub returns-then-not-line_is : goal.returns-then-not-line_is
returns-then-not-line_is c =
    let inv = c.loop-v.invariant in
    record { told = stopped; owners-kept = filled-kept inv.0 inv.1.rows.owner; marks-kept = filled-kept inv.0 inv.1.rows.mark }

pub loop-v-preserved : goal.loop-v-preserved
unfolding letter_at
loop-v-preserved c =
    let inv = c.loop-v.invariant in
    let v = c.loop-v.v in
    let more = c.loop-v-test.true in
    let rows = c.requires.n_in_bounds in
    let opening = letter-in _ v (c.requires.row_is.0 (2 * v) (omega arith)) c.letter_of.result in
    let words = rw (opening, c.requires.row_is_2.0 v (omega arith), c.letter_of.ensures, c.mark_word.ensures) at (c.line_is.ensures (went_on _ (not_from_true _ c.if-not-line_is.false))) in
    let stands = position-stands c.args.text.now v _ _ (omega arith) words in (
      omega arith,
      record {
        good = below_more (λ (k : ℕ). GoodPosition c.args.text.now (k + 1)) v inv.1.good stands.good;
        rows = record {
          owner = filled_more _ _ v _ _ inv.1.rows.owner (omega (arith, rows.0)) c.owner-owner.ensures;
          mark = filled_more _ _ v _ _ inv.1.rows.mark (omega (arith, rows.1)) (sym stands.mark-is);
        };
      },
    )

pub returns : goal.returns
returns c =
    let inv = c.loop-v.invariant in
    let a = c.args in
    let e : c.loop-v.v ≡ a.n = omega arith in
    record {
      told = λ _. subst (λ (k : ℕ). PositionsPassed a.text.now k a.owners.now c.loop-v.owners a.marks.now c.loop-v.marks) e inv.1;
      owners-kept = filled-kept inv.0 inv.1.rows.owner;
      marks-kept = filled-kept inv.0 inv.1.rows.mark;
    }
