-- `place_one` meets its contract: what it stores is the round's number where the round takes the position, and else what was there.
use Rattle.std.proofs.Common.{rules}
use Rattle.round.specs.Round.{taken}
use Rattle.round.specs.PlaceLaws.{set-taken}
use Rattle.round.proofs.place_one.Goals as goal

pub returns : goal.returns
unfolding taken
returns c =
    let a = c.args in
    let b = taken a.flags.now a.values.now a.v in
    record {
      value = rw c.pick.ensures (set-taken b a.v a.k a.values.now);
      step = rw c.pick-2.ensures (set-taken b a.v a.s a.steps.now);
      counted = search rules;
    }
