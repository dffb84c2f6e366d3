-- `decode::clear_rows` meets its contract: each row is filled over its whole length.
use Rattle.decode.specs.LoadedLaws.{filled-all}
use Rattle.decode.proofs.clear_rows.Goals as goal

pub returns : goal.returns
returns c =
    record {
      owners-clear = filled-all c.clear_flags.ensures;
      marks-clear = filled-all c.clear_flags-2.ensures;
      costs-clear = filled-all c.clear_flags-3.ensures;
      froms-clear = filled-all c.clear.ensures;
      tos-clear = filled-all c.clear-2.ensures;
    }
