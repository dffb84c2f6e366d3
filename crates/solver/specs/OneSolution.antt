-- The rounds have one result: rows that hold a chart, solved twice, by whatever program and into whatever rows, have the same values and
-- steps at every position. Both times they hold the table of the one arena.
use Rattle.std.specs.Prelude.{ℕ, List}
use Rattle.std.proofs.Common.{sym, ◌∙◌}
use Rattle.rows.specs.Rows.{RowIs, ChartRows}
use Rattle.rows.specs.Numbers.{number_at}
use Rattle.solver.specs.Solving.{Solved}

pub one_solution : {n m : ℕ} {owners marks costs froms tos values₁ values₁' steps₁ steps₁' values₂ values₂' steps₂ steps₂' : List ℕ}
    → ChartRows n m owners marks costs froms tos
    → Solved n m owners marks costs froms tos values₁ steps₁ values₁' steps₁' → Solved n m owners marks costs froms tos values₂ steps₂ values₂' steps₂'
    → RowIs values₁' n (number_at values₂') × RowIs steps₁' n (number_at steps₂')
one_solution (a, d) first second =
    let p = first.rows a d in
    let q = second.rows a d in
    ((λ v l. p.value v l ∙ sym (q.value v l)), (λ v l. p.step v l ∙ sym (q.step v l)))
