-- `plate::position_good` meets its contract: the first test that fails, or the last one, says what the conjunction is.
use Rattle.plate.specs.Formed.{position_good, position_good_at}
use Rattle.plate.proofs.Conjunction.{fails, passes}
use Rattle.std.proofs.lemmas.Bool.{not_from_false, not_from_true}
use Rattle.plate.proofs.position_good.Goals as goal

pub returns-then-not-framed : goal.returns-then-not-framed
unfolding position_good position_good_at
returns-then-not-framed c = fails _ _ _ c.framed.ensures (not_from_false _ c.if-not-framed.true)

pub returns-then-not-number_is : goal.returns-then-not-number_is
unfolding position_good position_good_at
returns-then-not-number_is c =
    passes _ _ _ _ c.framed.ensures (not_from_true _ c.if-not-framed.false)
    (fails _ _ _ c.number_is.ensures (not_from_false _ c.if-not-number_is.true))

pub returns-then-not-ever_or_below : goal.returns-then-not-ever_or_below
unfolding position_good position_good_at
returns-then-not-ever_or_below c =
    passes _ _ _ _ c.framed.ensures (not_from_true _ c.if-not-framed.false)
    (passes _ _ _ _ c.number_is.ensures (not_from_true _ c.if-not-number_is.false)
    (fails _ _ _ c.ever_or_below.ensures (not_from_false _ c.if-not-ever_or_below.true)))

pub returns-then-not-dash_or_below : goal.returns-then-not-dash_or_below
unfolding position_good position_good_at
returns-then-not-dash_or_below c =
    passes _ _ _ _ c.framed.ensures (not_from_true _ c.if-not-framed.false)
    (passes _ _ _ _ c.number_is.ensures (not_from_true _ c.if-not-number_is.false)
    (passes _ _ _ _ c.ever_or_below.ensures (not_from_true _ c.if-not-ever_or_below.false)
    (fails _ _ _ c.dash_or_below.ensures (not_from_false _ c.if-not-dash_or_below.true))))

pub returns : goal.returns
unfolding position_good position_good_at
returns c =
    passes _ _ _ _ c.framed.ensures (not_from_true _ c.if-not-framed.false)
    (passes _ _ _ _ c.number_is.ensures (not_from_true _ c.if-not-number_is.false)
    (passes _ _ _ _ c.ever_or_below.ensures (not_from_true _ c.if-not-ever_or_below.false)
    (passes _ _ _ _ c.dash_or_below.ensures (not_from_true _ c.if-not-dash_or_below.false)
    c.dash_or_below-2.ensures)))
