-- `chart::first_fault` meets its contract. The invariant: the columns of the line before are at hand, and the first fault of what is
-- left is the first fault of all. A clean line leaves that as it is, a fault ends it, and with nothing left there is none: the
-- three laws of `first_from`.
use Rattle.std.specs.Prelude.{Ok}
use Prim.Native.Nat.{ℕ, ◌+◌, ◌-◌, ◌<◌}
use mathlib.Core.Path.{◌≡◌, refl, sym, ap, ◌∙◌, subst}
use native.Mathlib.Omega.{arith}
use Rattle.chart.specs.Examined.{is_clean, first_fault, line_finding, meant_in, meant_line}
use Rattle.search.proofs.FirstLaws.{first_next, first-stop, first_done}
use Rattle.chart.specs.Columns.{row_at, meant_row}
use mathlib.Core.Bool.{false, cond}
use lib.ListN.{get_or}
use lib.Dec.{ltb}
use Rattle.chart.specs.Text.{from_at}
use Rattle.chart.specs.Flags.{flag-next}
use Rattle.chart.specs.declared.Row.{Row}
use Rattle.chart.specs.Good.{faulty}
use Rattle.search.proofs.HandedOn.{handed-on}
use Rattle.chart.proofs.first_fault.Goals as goal

pub loop-line-init : goal.loop-line-init
unfolding meant_in
loop-line-init c =
    let a = c.args in
    let e : a.last + 1 - 1 ≡ a.last = omega arith in
    let z : 0 - a.n ≡ 0 = omega arith in (
      omega arith,
      omega arith,
      c.row_at-before.ensures,
      ap (λ (k : ℕ). first_fault (line_finding a.text.now a.n) k 1) e,
      refl,
      λ v h. rw z refl,
    )

pub line_fault-requires : goal.line_fault-requires
line_fault-requires c = record { le_line = (omega arith, omega arith); row_value = (c.row_at-row.ensures, c.loop-line.invariant.2) }

pub returns-in_err-line_fault : goal.returns-in_err-line_fault
returns-in_err-line_fault c =
    let a = c.args in
    let found = sym c.line_fault.ensures ∙ c.in_err-line_fault.was in (
      handed-on _ c.from_residual.ensures.1 ∙ sym found ∙ sym (first-stop _ (line_finding a.text.now a.n) (Ok tt) (a.last + 1) c.loop-line.line (omega arith) (ap is_clean found)) ∙ c.loop-line.invariant.3,
      λ e. faulty _ (sym (handed-on _ c.from_residual.ensures.1) ∙ e),
    )

pub loop-line-preserved : goal.loop-line-preserved
unfolding meant_row row_at meant_line from_at
loop-line-preserved c =
    let a = c.args in
    let e : c.loop-line.line + 1 - 1 ≡ c.loop-line.line = omega arith in
    let old : ℕ → ℕ = λ v. cond (meant_in a.text.now a.n (c.loop-line.line - 1 - a.n) v) 1 (get_or a.flags.now v 0) in (
      omega arith,
      omega arith,
      rw e c.row_at-row.ensures,
      first_next _ (line_finding a.text.now a.n) (Ok tt) (a.last + 1) c.loop-line.line (omega arith) (ap is_clean (sym c.line_fault.ensures ∙ c.in_ok-line_fault.was))
          ∙ c.loop-line.invariant.3,
      c.flag_row.auto.flags ∙ c.loop-line.invariant.4,
      λ v h.
          c.flag_row.ensures v (subst (λ (l : ℕ). v < l) (sym c.loop-line.invariant.4) h)
          ∙ ap (λ (w : ℕ). cond (cond (ltb a.n c.loop-line.line) (meant_row c.row_at-row.result v) false) 1 w) (c.loop-line.invariant.5 v h)
          ∙ ap (λ (r : Row). cond (cond (ltb a.n c.loop-line.line) (meant_row r v) false) 1 (old v)) c.row_at-row.ensures
          ∙ flag-next a.text.now a.n c.loop-line.line v (get_or a.flags.now v 0) (omega arith),
    )

pub shape_of-flags : goal.shape_of-flags
shape_of-flags c = c.loop-line.invariant.4

pub returns : goal.returns
returns c =
    let a = c.args in
    let e : c.loop-line.line - 1 - a.n ≡ a.last - a.n = omega arith in (
      sym (first_done _ (line_finding a.text.now a.n) (Ok tt) (a.last + 1) c.loop-line.line (omega arith)) ∙ c.loop-line.invariant.3,
      λ clean v h. subst (λ (k : ℕ). get_or c.loop-line.flags v 0 ≡ cond (meant_in a.text.now a.n k v) 1 (get_or a.flags.now v 0)) e (c.loop-line.invariant.5 v h),
    )
