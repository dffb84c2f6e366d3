-- `first_fault` meets its contract. Between positions, those below v have no fault and the first i moves are theirs; between
-- moves of v, its moves among the first i were seen. Each way out has a law: a test before the moves fails, a breach of 4 at
-- L, a test after the moves fails, or no position is left.
use Prim.Native.Nat.{◌≤◌}
use lib.ListN.{get_or}
use native.Mathlib.Omega.{arith}
use mathlib.Core.Path.{◌≡◌, refl, sym, ap, ◌∙◌}
use mathlib.Core.Logic.{◌⊎◌, inl, inr}
use mathlib.Core.Bool.{Bool, true, false, not, ◌&&◌, true≢false}
use Rattle.conditions.specs.Position.{after_moves, before_moves, is_controller}
use Rattle.verdict.specs.Ranks.{ranked-target}
use Rattle.conditions.specs.declared.Line.{Line}
use Rattle.verdict.specs.VerdictLaws.{first-fault, no-fault}
use Rattle.verdict.specs.Walk.{walk_begins, position-begins, early-fault, move_seen, low-fault, moves-seen, position-walked}
use Rattle.conditions.specs.Failing.{failing-none, failing-some}
use Rattle.verdict.proofs.first_fault.Goals as goal
use Rattle.verdict.proofs.first_fault.Goals.{else-loop-i-test, then-loop-i-test+then-rows-i}

-- the breach that is answered at once, taken apart
environment-low : (o low : Bool) → (not o && low) ≡ true → (o ≡ false) × (low ≡ true)
environment-low true low e = absurd (true≢false (sym e))
environment-low false low e = (refl, e)

pub positions-init : goal.positions-init
positions-init c = (omega arith, omega arith, walk_begins _ _)

pub loop-i-init : goal.loop-i-init
loop-i-init c =
    let at = c.positions.invariant in
    let line = c.line_at-line.ensures in
    (at.1, line, rw c.none-seen.ensures (position-begins at.2 (ap before_moves (sym line) ∙ failing-none _ (λ k e. c.in_default.not-Some k (c.before_moves.ensures ∙ e)))))

pub overflow_add-i : goal.overflow_add-i
overflow_add-i c = omega (arith, c)

pub loop-i-preserved : goal.loop-i-preserved
loop-i-preserved c =
    let at = c.loop-i.invariant in
    let more = c.loop-i-test.true in
    (omega (arith, more), at.1, move_seen at.2 c.requires.0 more c.if-rows-i.false c.see-seen.ensures at.1 (c.target_at.ensures ∙ ranked-target c.args.rows.now.costs.now c.args.rows.now.tos.now c.loop-i.i c.requires.2 (c.args.rows.now.within.to_inside _ more)))

pub positions-preserved : goal.positions-preserved
positions-preserved c =
    let at = c.loop-i.invariant in
    let over : (c.args.rows.now.moves ≤ c.loop-i.i) ⊎ ((get_or c.args.rows.now.froms.now c.loop-i.i 0 ≡ c.positions.v) → ⊥) = (elim c.loop-i-test.branch [ else-loop-i-test w ↦ inl w.loop-i-test.false | then-loop-i-test+then-rows-i w ↦ inr w.if-rows-i.true ]) in
    let late = ap (λ (l : Line). after_moves l c.loop-i.seen) (sym at.1) in
    (omega (arith, c.if-n-v.false), at.0, position-walked at.2 c.requires.0 at.0 over (late ∙ failing-none _ (λ k e. c.in_default-after_moves.not-Some k (c.after_moves.ensures ∙ e))))

pub returns-then-n-v : goal.returns-then-n-v
returns-then-n-v c = sym (no-fault _ _ _ (λ u l. c.positions.invariant.2.clean u (omega (arith, c.if-n-v.true))))

pub returns-in-Some : goal.returns-in-Some
returns-in-Some c =
    let at = c.positions.invariant.2 in
    let fails = failing-some _ (sym c.before_moves.ensures ∙ c.in-Some.is) in
    let early = ap before_moves (sym c.line_at-line.ensures) ∙ fails.0 in
    sym (first-fault _ _ _ _ _ c.if-n-v.false at.clean (early-fault at (λ z. fails.1 (sym early ∙ z)) ∙ early) fails.1)

pub returns-then-line-seen : goal.returns-then-line-seen
returns-then-line-seen c =
    let at = c.loop-i.invariant in
    let more = c.loop-i-test.true in
    let breach = environment-low (is_controller c.line_at-line.result) _ c.if-line-seen.true in
    let seen = move_seen at.2 c.requires.0 more c.if-rows-i.false c.see-seen.ensures at.1 (c.target_at.ensures ∙ ranked-target c.args.rows.now.costs.now c.args.rows.now.tos.now c.loop-i.i c.requires.2 (c.args.rows.now.within.to_inside _ more)) in
    let low = low-fault seen (omega (arith, more)) (sym (ap is_controller at.1) ∙ breach.0) breach.1 in
    sym (first-fault _ _ _ _ _ c.if-n-v.false at.2.clean low (λ z. omega arith))

pub returns-in-Some-after_moves : goal.returns-in-Some-after_moves
returns-in-Some-after_moves c =
    let at = c.loop-i.invariant in
    let over : (c.args.rows.now.moves ≤ c.loop-i.i) ⊎ ((get_or c.args.rows.now.froms.now c.loop-i.i 0 ≡ c.positions.v) → ⊥) = (elim c.loop-i-test.branch [ else-loop-i-test w ↦ inl w.loop-i-test.false | then-loop-i-test+then-rows-i w ↦ inr w.if-rows-i.true ]) in
    let fails = failing-some _ (sym c.after_moves.ensures ∙ c.in-Some-after_moves.is) in
    let late = ap (λ (l : Line). after_moves l c.loop-i.seen) (sym at.1) ∙ fails.0 in
    sym (first-fault _ _ _ _ _ c.if-n-v.false at.2.clean (moves-seen at.2 c.requires.0 at.0 over ∙ late) fails.1)
