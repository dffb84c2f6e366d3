-- `chart::after_header` meets its contract: by what the lines give, and where they are clean by their flags, which start at 0, so that the
-- unflagged positions are those without a meant move.
use Rattle.std.specs.Prelude.{Ok}
use Prim.Native.Nat.{ℕ, ◌+◌, ◌-◌}
use mathlib.Core.Path.{◌≡◌, ap, ◌∙◌}
use mathlib.Core.Bool.{cond}
use native.Mathlib.Omega.{arith}
use lib.ListN.{get_or, replicate}
use Rattle.chart.specs.Examined.{after_header, answer, or_else, first_fault, missing_at, meant_in}
use Rattle.chart.specs.Flags.{flags-first, zeros}
use Rattle.search.proofs.HandedOn.{handed-on}
use Rattle.chart.proofs.after_header.Goals as goal

pub returns-in_err-first_fault : goal.returns-in_err-first_fault
unfolding after_header answer or_else
returns-in_err-first_fault c = simp (handed-on _ c.from_residual.ensures.1, ← c.first_fault.ensures.0, c.in_err-first_fault.was)

pub returns-in_err-unflagged : goal.returns-in_err-unflagged
unfolding after_header answer or_else
returns-in_err-unflagged c =
    let a = c.args in
    let clean : c.first_fault.result ≡ (Ok tt) = c.in_ok-first_fault.was in
    let row = c.first_fault.new.flags in
    let e : a.chart.positions + a.chart.moves - a.chart.positions ≡ a.chart.moves = omega arith in
    let found : c.unflagged.result ≡ first_fault (missing_at a.text.now a.chart.positions a.chart.moves) a.chart.positions 0 =
    c.unflagged.ensures
    ∙ flags-first a.text.now row a.chart.positions a.chart.moves
    (λ v h. c.first_fault.ensures.1 clean v (omega arith)
    ∙ ap (λ (k : ℕ). cond (meant_in a.text.now a.chart.positions k v) 1 (get_or (replicate 512 0) v 0)) e
    ∙ ap (λ (old : ℕ). cond (meant_in a.text.now a.chart.positions a.chart.moves v) 1 old) (zeros 512 v)) in
    simp (← c.first_fault.ensures.0, clean, ← found, c.in_err-unflagged.was, handed-on _ c.from_residual-in_err-unflagged.ensures.1)

pub returns : goal.returns
unfolding after_header answer or_else
returns c =
    let a = c.args in
    let clean : c.first_fault.result ≡ (Ok tt) = c.in_ok-first_fault.was in
    let row = c.first_fault.new.flags in
    let e : a.chart.positions + a.chart.moves - a.chart.positions ≡ a.chart.moves = omega arith in
    let found : c.unflagged.result ≡ first_fault (missing_at a.text.now a.chart.positions a.chart.moves) a.chart.positions 0 =
    c.unflagged.ensures
    ∙ flags-first a.text.now row a.chart.positions a.chart.moves
    (λ v h. c.first_fault.ensures.1 clean v (omega arith)
    ∙ ap (λ (k : ℕ). cond (meant_in a.text.now a.chart.positions k v) 1 (get_or (replicate 512 0) v 0)) e
    ∙ ap (λ (old : ℕ). cond (meant_in a.text.now a.chart.positions a.chart.moves v) 1 old) (zeros 512 v)) in
    simp (← c.first_fault.ensures.0, clean, ← found, c.in_ok-unflagged.was)
