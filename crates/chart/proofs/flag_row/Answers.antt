-- `chart::flag_row` meets its contract: a meant move sets the flag of its from, if there is one, and nothing else is stored.
use mathlib.Core.Path.{◌≡◌}
use native.Mathlib.Omega.{arith}
use borrow.Author.Tests.{eq-eqb, ne_eqb}
use Rattle.chart.specs.Columns.{meant_row}
use Rattle.chart.specs.Flags.{flag-set}
use Rattle.chart.proofs.flag_row.Goals as goal

pub returns-then-from-flags : goal.returns-then-from-flags
unfolding meant_row
returns-then-from-flags c = λ v h.
    let a = c.args in
    simp (c.if-moves.true, eq-eqb _ _ c.if-row-eq77.true, ← c.number-from.ensures) (flag-set a.flags.now c.number-from.result v c.if-from-flags.true)

pub returns-else-from-flags : goal.returns-else-from-flags
unfolding meant_row
returns-else-from-flags c = λ v h.
    let other : c.number-from.result ≡ v → ⊥ = λ p. omega (arith, c.if-from-flags.false) in
    simp (c.if-moves.true, eq-eqb _ _ c.if-row-eq77.true, ← c.number-from.ensures, ne_eqb _ v other)

pub returns-else-row-eq77 : goal.returns-else-row-eq77
unfolding meant_row
returns-else-row-eq77 c = λ v h. simp (c.if-moves.true, ne_eqb _ _ c.if-row-eq77.false)

pub returns-else-moves : goal.returns-else-moves
returns-else-moves c = λ v h. simp c.if-moves.false
