-- `plate::header_good` meets its contract: the first test that fails, or the last one, says what the conjunction is.
use Rattle.plate.proofs.Conjunction.{fails, passes}
use Rattle.plate.specs.Formed.{header_good}
use Rattle.std.proofs.lemmas.Bool.{not_from_false, not_from_true}
use Rattle.plate.proofs.header_good.Goals as goal

pub returns-then-not-framed : goal.returns-then-not-framed
unfolding header_good
returns-then-not-framed c = fails _ _ _ c.framed.ensures (not_from_false _ c.if-not-framed.true)

pub returns-then-not-number_is : goal.returns-then-not-number_is
unfolding header_good
returns-then-not-number_is c =
    passes _ _ _ _ c.framed.ensures (not_from_true _ c.if-not-framed.false)
    (fails _ _ _ c.number_is.ensures (not_from_false _ c.if-not-number_is.true))

pub returns-then-not-number_below : goal.returns-then-not-number_below
unfolding header_good
returns-then-not-number_below c =
    passes _ _ _ _ c.framed.ensures (not_from_true _ c.if-not-framed.false)
    (passes _ _ _ _ c.number_is.ensures (not_from_true _ c.if-not-number_is.false)
    (fails _ _ _ c.number_below.ensures (not_from_false _ c.if-not-number_below.true)))

pub returns-then-not-dash_or_below : goal.returns-then-not-dash_or_below
unfolding header_good
returns-then-not-dash_or_below c =
    passes _ _ _ _ c.framed.ensures (not_from_true _ c.if-not-framed.false)
    (passes _ _ _ _ c.number_is.ensures (not_from_true _ c.if-not-number_is.false)
    (passes _ _ _ _ c.number_below.ensures (not_from_true _ c.if-not-number_below.false)
    (fails _ _ _ c.dash_or_below.ensures (not_from_false _ c.if-not-dash_or_below.true))))

pub returns : goal.returns
unfolding header_good
returns c =
    passes _ _ _ _ c.framed.ensures (not_from_true _ c.if-not-framed.false)
    (passes _ _ _ _ c.number_is.ensures (not_from_true _ c.if-not-number_is.false)
    (passes _ _ _ _ c.number_below.ensures (not_from_true _ c.if-not-number_below.false)
    (passes _ _ _ _ c.dash_or_below.ensures (not_from_true _ c.if-not-dash_or_below.false)
    c.number_below-2.ensures)))
