-- `value_rows` meets its contract: the rows hold some arena, so its finite pairs are below 512, and for each arena that they
-- hold the rows and the first line's numbers are that arena's.
use native.Mathlib.Omega.{arith}
use borrow.Author.Rules.{rules}
use Rattle.rows.specs.Holding.{holds-some}
use Rattle.valuing.specs.ValuingLaws.{pairs-fit, rows-valued}
use Rattle.valuing.proofs.value_rows.Goals as goal

pub choose-requires : goal.choose-requires
choose-requires c = ((_, holds-some c.args.rows.now), search rules, search rules)

pub count_first_line-requires : goal.count_first_line-requires
count_first_line-requires c =
    let pre = c.requires in
    let solved = c.solve_by in
    let kept = solved.auto in
    let held = holds-some c.args.rows.now in
    (held.1.few-positions, omega (arith, pre.0, kept.values), omega (arith, pre.2, kept.steps), pairs-fit solved.ensures kept.values kept.steps held.0 held.1)

pub returns : goal.returns
returns c =
    let solved = c.solve_by in
    let chosen = c.choose in
    let kept = solved.auto in
    rows-valued solved.ensures kept.values kept.steps chosen.ensures chosen.auto.choices c.count_first_line.ensures
