-- `field::digits` meets its contract: a byte that is no digit ends the scan (`stops`), a digit goes on with the number
-- (`starts`, `goes`), and five of them keep it below 100,000.
use mathlib.Core.Path.{◌∙◌}
use lib.Dec.{lit≤}
use Rattle.field.specs.Reader.{digit-range, stops, starts, goes, spells}
use Rattle.std.proofs.lemmas.Bool.{not_from_false, not_from_true}
use Rattle.field.proofs.digits.Goals as goal

pub returns-then-not-digit : goal.returns-then-not-digit
returns-then-not-digit c =
    stops 0 _ _ _ c.digit.ensures (not_from_false _ c.if-not-digit.true)

pub returns-then-not-digit-2 : goal.returns-then-not-digit-2
returns-then-not-digit-2 c =
    let p1 = starts _ _ (digit-range _ _ c.digit.ensures (not_from_true _ c.if-not-digit.false)) in
    stops _ _ _ _ c.digit-2.ensures (not_from_false _ c.if-not-digit-2.true) ∙ p1.0

pub returns-then-not-digit-3 : goal.returns-then-not-digit-3
returns-then-not-digit-3 c =
    let p1 = starts _ _ (digit-range _ _ c.digit.ensures (not_from_true _ c.if-not-digit.false)) in
    let p2 = goes _ 9 _ _ p1.1 (lit≤ tt) (digit-range _ _ c.digit-2.ensures (not_from_true _ c.if-not-digit-2.false)) in
    stops _ _ _ _ c.digit-3.ensures (not_from_false _ c.if-not-digit-3.true) ∙ p2.0 ∙ p1.0

pub returns-then-not-digit-4 : goal.returns-then-not-digit-4
returns-then-not-digit-4 c =
    let p1 = starts _ _ (digit-range _ _ c.digit.ensures (not_from_true _ c.if-not-digit.false)) in
    let p2 = goes _ 9 _ _ p1.1 (lit≤ tt) (digit-range _ _ c.digit-2.ensures (not_from_true _ c.if-not-digit-2.false)) in
    let p3 = goes _ 99 _ _ p2.1 (lit≤ tt) (digit-range _ _ c.digit-3.ensures (not_from_true _ c.if-not-digit-3.false)) in
    stops _ _ _ _ c.digit-4.ensures (not_from_false _ c.if-not-digit-4.true) ∙ p3.0 ∙ p2.0 ∙ p1.0

pub returns-then-not-digit-5 : goal.returns-then-not-digit-5
returns-then-not-digit-5 c =
    let p1 = starts _ _ (digit-range _ _ c.digit.ensures (not_from_true _ c.if-not-digit.false)) in
    let p2 = goes _ 9 _ _ p1.1 (lit≤ tt) (digit-range _ _ c.digit-2.ensures (not_from_true _ c.if-not-digit-2.false)) in
    let p3 = goes _ 99 _ _ p2.1 (lit≤ tt) (digit-range _ _ c.digit-3.ensures (not_from_true _ c.if-not-digit-3.false)) in
    let p4 = goes _ 999 _ _ p3.1 (lit≤ tt) (digit-range _ _ c.digit-4.ensures (not_from_true _ c.if-not-digit-4.false)) in
    stops _ _ _ _ c.digit-5.ensures (not_from_false _ c.if-not-digit-5.true) ∙ p4.0 ∙ p3.0 ∙ p2.0 ∙ p1.0

pub value-requires : goal.value-requires
value-requires c = (digit-range _ _ c.digit.ensures (not_from_true _ c.if-not-digit.false)).0

pub value-requires-2 : goal.value-requires-2
value-requires-2 c = (digit-range _ _ c.digit-2.ensures (not_from_true _ c.if-not-digit-2.false)).0

pub value-requires-3 : goal.value-requires-3
value-requires-3 c = (digit-range _ _ c.digit-3.ensures (not_from_true _ c.if-not-digit-3.false)).0

pub value-requires-4 : goal.value-requires-4
value-requires-4 c = (digit-range _ _ c.digit-4.ensures (not_from_true _ c.if-not-digit-4.false)).0

pub value-requires-5 : goal.value-requires-5
value-requires-5 c = (digit-range _ _ c.digit-5.ensures (not_from_true _ c.if-not-digit-5.false)).0

pub returns : goal.returns
returns c =
    let p1 = starts _ _ (digit-range _ _ c.digit.ensures (not_from_true _ c.if-not-digit.false)) in
    let p2 = goes _ 9 _ _ p1.1 (lit≤ tt) (digit-range _ _ c.digit-2.ensures (not_from_true _ c.if-not-digit-2.false)) in
    let p3 = goes _ 99 _ _ p2.1 (lit≤ tt) (digit-range _ _ c.digit-3.ensures (not_from_true _ c.if-not-digit-3.false)) in
    let p4 = goes _ 999 _ _ p3.1 (lit≤ tt) (digit-range _ _ c.digit-4.ensures (not_from_true _ c.if-not-digit-4.false)) in
    let p5 = goes _ 9999 _ _ p4.1 (lit≤ tt) (digit-range _ _ c.digit-5.ensures (not_from_true _ c.if-not-digit-5.false)) in
    rw (c.value.ensures, c.value-2.ensures, c.value-3.ensures, c.value-4.ensures, c.value-5.ensures) (spells _ ∙ p5.0 ∙ p4.0 ∙ p3.0 ∙ p2.0 ∙ p1.0)
