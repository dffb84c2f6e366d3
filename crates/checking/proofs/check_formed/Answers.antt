-- `check_formed` meets its contract: the rows that were read are those of a plate of the form, and their first fault is the
-- answer.
use native.Mathlib.Omega.{arith}
use Rattle.checking.specs.CheckingLaws.{formed-verdict, rows-formed}
use Rattle.checking.proofs.check_formed.Goals as goal

pub check_rows-requires : goal.check_rows-requires
check_rows-requires c =
    let pre = c.requires in
    let read = c.read_rows-header in
    let few = c.args.rows.now.few.0 in
    (pre.0, rows-formed _ _ few pre.1 read.ensures, omega (arith, read.auto, few), omega (arith, read.auto, few), omega (arith, read.auto, few))

pub returns : goal.returns
returns c = formed-verdict _ _ c.args.rows.now.few.0 c.requires.1 c.read_rows-header.ensures c.check_rows.ensures
