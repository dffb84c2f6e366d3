-- `check_rows` meets its contract: a fault of conditions 1 to 5 is the answer; where there is none, condition 2 holds
-- everywhere, so the pairs can be counted, and the header's test is the answer.
use Prim.Native.Nat.{ℕ}
use native.Mathlib.Omega.{arith}
use mathlib.Core.Path.{sym, ◌∙◌}
use lib.ListN.{length-replicate}
use Rattle.verdict.specs.Ranks.{ranked-row}
use Rattle.verdict.specs.RowsCheckedLaws.{fault-checked, header-checked, sound-fits}
use Rattle.search.proofs.HandedOn.{handed-on}
use Rattle.verdict.proofs.check_rows.Goals as goal

pub first_fault-requires : goal.first_fault-requires
first_fault-requires c =
    let pre = c.requires in
    let rows = c.args.rows.now in
    (pre.0, record { owners-row = rows.room.0; marks-row = rows.room.1; values-row = pre.2; choices-row = pre.3; steps-row = pre.4 }, ranked-row (omega (arith, rows.few.0, length-replicate {A = ℕ} 512 0)) c.rank_rows.ensures)

pub header_fault-requires : goal.header_fault-requires
header_fault-requires c =
    let pre = c.requires in
    (c.args.rows.now.few.0, pre.2, pre.4, sound-fits _ _ _ pre.1 (sym c.in_ok-first_fault.was ∙ c.first_fault.ensures))

pub returns-in_err-first_fault : goal.returns-in_err-first_fault
returns-in_err-first_fault c =
    let pre = c.requires in
    rw (handed-on _ c.from_residual.ensures.1) (fault-checked _ _ _ pre.1 _ _ _ (sym c.in_err-first_fault.was ∙ c.first_fault.ensures))

pub returns : goal.returns
returns c =
    let pre = c.requires in
    header-checked _ _ _ pre.1 _ _ (sym c.in_ok-first_fault.was ∙ c.first_fault.ensures) c.header_fault.ensures
