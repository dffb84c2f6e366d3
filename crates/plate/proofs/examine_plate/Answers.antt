-- `plate::examine_plate` meets its contract: the three tests of the length are one, and then the lines' tests say which case of
-- `form_of` holds.
use Rattle.plate.specs.Formed.{form_of}
use borrow.Author.Tests.{eq-eqb, ne_eqb, not-true, not-false}
use mathlib.Core.Path.{sym, ◌∙◌}
use Prim.Native.Nat.{◌*◌}
use Prim.Native.Nat.{◌+◌}
use native.Mathlib.Omega.{arith}
use lib.ListN.{length}
use Rattle.std.proofs.lemmas.Bool.{not_from_false, not_from_true}
use Rattle.plate.proofs.examine_plate.Goals as goal

pub returns-then-plate-ne0 : goal.returns-then-plate-ne0
unfolding form_of
returns-then-plate-ne0 c = let a = c.args in simp (ne_eqb (length a.plate.now) ((a.n + 1) * 22) (λ e. omega arith))

pub returns-then-lines-eq0 : goal.returns-then-lines-eq0
unfolding form_of
returns-then-lines-eq0 c = let a = c.args in simp (ne_eqb (length a.plate.now) ((a.n + 1) * 22) (λ e. omega arith))

pub returns-then-lines-n : goal.returns-then-lines-n
unfolding form_of
returns-then-lines-n c = let a = c.args in simp (ne_eqb (length a.plate.now) ((a.n + 1) * 22) (λ e. omega arith))

pub returns-then-not-header_good : goal.returns-then-not-header_good
unfolding form_of
returns-then-not-header_good c =
    let a = c.args in
    simp (eq-eqb (length a.plate.now) ((a.n + 1) * 22) (omega arith), sym c.header_good.ensures ∙ not-true c.header_good.result (not_from_false _ c.if-not-header_good.true))

pub returns : goal.returns
unfolding form_of
returns c =
    let a = c.args in
    simp (eq-eqb (length a.plate.now) ((a.n + 1) * 22) (omega arith), sym c.header_good.ensures ∙ not-false c.header_good.result (not_from_true _ c.if-not-header_good.false)) c.positions_form.ensures
