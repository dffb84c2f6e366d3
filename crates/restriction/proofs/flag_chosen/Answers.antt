-- `flag_chosen` meets its contract: the invariant says that the first i moves have flagged the positions whose choice they lead to.
use native.Mathlib.Omega.{arith}
use Rattle.rows.specs.Notes.{noted-none, noted-next}
use Rattle.restriction.proofs.flag_chosen.Goals as goal

pub loop-i-init : goal.loop-i-init
loop-i-init c = noted-none c.clear_flags.ensures.row

pub loop-i-preserved : goal.loop-i-preserved
loop-i-preserved c =
    let w = c.requires.0 in
    rw c.flag_chosen_by.ensures (noted-next c.loop-i.invariant (omega (arith, c)) (λ _. w.from-inside _ c.loop-i-test.true))
