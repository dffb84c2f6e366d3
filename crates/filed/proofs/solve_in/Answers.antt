-- `solve_in` meets its contract: coding, filing and counting leave a setting of the chart's rows, from which the rounds go on.
use native.Mathlib.Omega.{arith}
use mathlib.Core.Path.{refl}
use Rattle.rows.specs.RowsLaws.{rows-within}
use Rattle.rows.specs.Holding.{holds}
use Rattle.filed.specs.StartLaws.{code-small, setting-of}
use Rattle.filed.proofs.solve_in.Goals as goal

pub code_moves-requires : goal.code_moves-requires
code_moves-requires c = let d = holds c.args.rows.now in (d.costs-row, d.froms-row, c.requires.moves_fit.0, λ i l. omega (arith, (rows-within d).from-inside i l, d.few-positions))

pub file-requires : goal.file-requires
file-requires c =
    let d = holds c.args.rows.now in
    (d.few-positions, d.few-moves, d.tos-row, omega (arith, c.code_moves.auto, c.requires.moves_fit), omega (arith, d.few-positions), c.requires.moves_fit.1, (rows-within d).to_inside)

pub count_needs-requires : goal.count_needs-requires
count_needs-requires c =
    let d = holds c.args.rows.now in
    let coded = c.code_moves in
    (d.few-positions, d.few-moves, d.owners-row, omega (arith, coded.auto, c.requires.moves_fit), omega (arith, d.few-positions), λ i l. code-small d i l (coded.ensures.row i l))

pub solve_rounds-requires : goal.solve_rounds-requires
unfolding setting-of
solve_rounds-requires c =
    let d = holds c.args.rows.now in
    let coded = c.code_moves in
    let filed = c.file in
    let needed = c.count_needs in
    record { n_in_bounds = (((setting-of d _ coded.ensures.row filed.ensures (omega (arith, filed.auto, d.few-positions)) (omega (arith, filed.auto, c.requires.moves_fit)) needed.ensures.0), λ e l. refl), omega (arith, needed.auto, d.few-positions), d.marks-row, c.requires.positions_fit.0, c.requires.positions_fit.1); n_in_bounds_2 = (omega (arith, d.few-positions), omega (arith, d.few-positions), omega (arith, d.few-positions)) }

pub returns : goal.returns
unfolding setting-of
returns c =
    let d = holds c.args.rows.now in
    let coded = c.code_moves in
    let filed = c.file in
    let needed = c.count_needs in
    c.solve_rounds.ensures.goes_on (setting-of d _ coded.ensures.row filed.ensures (omega (arith, filed.auto, d.few-positions)) (omega (arith, filed.auto, c.requires.moves_fit)) needed.ensures.0) (λ e l. refl)
