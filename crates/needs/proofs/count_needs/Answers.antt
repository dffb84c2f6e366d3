-- `count_needs` meets its contract: from 4,096 the tally counts each code, and the needs are set from the counts.
use Rattle.needs.specs.NeedLaws.{needs-set, needs_stay}
use Rattle.needs.proofs.count_needs.Goals as goal

pub returns : goal.returns
returns c =
    let filled = c.fill.ensures in
    let tallied = c.tally.ensures in
    let set = c.set_needs.ensures in
    (needs-set c.args.n filled c.requires.4 tallied set, needs_stay c.args.n filled c.requires.4 tallied c.requires.5 set)
