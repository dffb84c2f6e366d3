-- `first_from` meets its contract: the moves lie in the order of the positions that they leave, so that the test parts them.
use Rattle.std.proofs.Common.{arith, rules, ltb}
use Rattle.std.proofs.lemmas.List.Sorted.{IsPartitionPoint-from_clause}
use Rattle.moves.specs.Search.{parted, parted-first}
use Rattle.moves.proofs.first_from.Goals as goal

pub returns : goal.returns
returns c =
    let found = c.partition_point.ensures in
    let point = IsPartitionPoint-from_clause (λ y. ltb y c.args.v) _ _ found.partitioned (parted _ _ _ _ (grind arith) c.requires.1 c.requires.2) (λ a r f called. search rules) in
    parted-first _ _ _ _ (grind arith) c.requires.1 found.bound point
