-- `write_small_chart` meets its contract: where the index is one, its digits say the squares of its chart, whose lines are written if they fit.
use native.Mathlib.Omega.{arith}
use mathlib.Core.Path.{◌≡◌}
use mathlib.Core.Bool.{true}
use Prim.Native.Nat.{◌≤◌, ◌<◌}
use Rattle.numbering.specs.Numbering.{chart_count}
use Rattle.numbering.specs.Squares.{squares_of}
use Rattle.generating.specs.Generating.{is_index}
use Rattle.generating.specs.GeneratingLaws.{Hold, was-false, was-true, index-bounds, sets-between, digits-hold, few-moves, not-small, too_short, set-out-whole}
use Rattle.std.proofs.lemmas.Bool.{not_from_false, not_from_true}
use Rattle.generating.proofs.write_small_chart.Goals as goal

pub returns-then-not-is_index : goal.returns-then-not-is_index
returns-then-not-is_index c = not-small _ _ _ (was-false _ _ c.is_index.ensures (not_from_false _ c.if-not-is_index.true))

pub sets-t-requires : goal.sets-t-requires
sets-t-requires c = let is : let a = c.args in is_index a.positions a.index ≡ true = was-true _ _ c.is_index.ensures (not_from_true _ c.if-not-is_index.false) in
    let bounds : let a = c.args in (1 ≤ a.positions) × (a.positions ≤ 3) × (a.index < chart_count a.positions) = index-bounds _ _ (is) in
    (bounds).1

pub digits_of-digits-requires : goal.digits_of-digits-requires
digits_of-digits-requires c = let is : let a = c.args in is_index a.positions a.index ≡ true = was-true _ _ c.is_index.ensures (not_from_true _ c.if-not-is_index.false) in
    let bounds : let a = c.args in (1 ≤ a.positions) × (a.positions ≤ 3) × (a.index < chart_count a.positions) = index-bounds _ _ (is) in
    ((bounds).0, (bounds).1)

pub owners_of-owners-requires : goal.owners_of-owners-requires
owners_of-owners-requires c = let is : let a = c.args in is_index a.positions a.index ≡ true = was-true _ _ c.is_index.ensures (not_from_true _ c.if-not-is_index.false) in
    let bounds : let a = c.args in (1 ≤ a.positions) × (a.positions ≤ 3) × (a.index < chart_count a.positions) = index-bounds _ _ (is) in
    sets-between _ _ (bounds).0 (bounds).1 c.sets-t.ensures

pub marks_of-marks-requires : goal.marks_of-marks-requires
marks_of-marks-requires c = let is : let a = c.args in is_index a.positions a.index ≡ true = was-true _ _ c.is_index.ensures (not_from_true _ c.if-not-is_index.false) in
    let bounds : let a = c.args in (1 ≤ a.positions) × (a.positions ≤ 3) × (a.index < chart_count a.positions) = index-bounds _ _ (is) in
    sets-between _ _ (bounds).0 (bounds).1 c.sets-t.ensures

pub digit_square-meant-requires : goal.digit_square-meant-requires
digit_square-meant-requires c = let is : let a = c.args in is_index a.positions a.index ≡ true = was-true _ _ c.is_index.ensures (not_from_true _ c.if-not-is_index.false) in
    let bounds : let a = c.args in (1 ≤ a.positions) × (a.positions ≤ 3) × (a.index < chart_count a.positions) = index-bounds _ _ (is) in
    sets-between _ _ (bounds).0 (bounds).1 c.sets-t.ensures

pub digit_square-disturbances-requires : goal.digit_square-disturbances-requires
digit_square-disturbances-requires c = let is : let a = c.args in is_index a.positions a.index ≡ true = was-true _ _ c.is_index.ensures (not_from_true _ c.if-not-is_index.false) in
    let bounds : let a = c.args in (1 ≤ a.positions) × (a.positions ≤ 3) × (a.index < chart_count a.positions) = index-bounds _ _ (is) in
    sets-between _ _ (bounds).0 (bounds).1 c.sets-t.ensures

pub count_moves-moves-requires : goal.count_moves-moves-requires
count_moves-moves-requires c = let is : let a = c.args in is_index a.positions a.index ≡ true = was-true _ _ c.is_index.ensures (not_from_true _ c.if-not-is_index.false) in
    let bounds : let a = c.args in (1 ≤ a.positions) × (a.positions ≤ 3) × (a.index < chart_count a.positions) = index-bounds _ _ (is) in
    (bounds).1

pub overflow_add-length : goal.overflow_add-length
overflow_add-length c = let is : let a = c.args in is_index a.positions a.index ≡ true = was-true _ _ c.is_index.ensures (not_from_true _ c.if-not-is_index.false) in
    let bounds : let a = c.args in (1 ≤ a.positions) × (a.positions ≤ 3) × (a.index < chart_count a.positions) = index-bounds _ _ (is) in
    let short : (c.args.positions ≤ 3) × (c.count_moves-moves.result ≤ 18) = let few = (bounds).1 in
    (few, rw c.count_moves-moves.ensures (few-moves _ _ _ few)) in
    omega (arith, (short).0)

pub overflow_add-length-2 : goal.overflow_add-length-2
overflow_add-length-2 c = let is : let a = c.args in is_index a.positions a.index ≡ true = was-true _ _ c.is_index.ensures (not_from_true _ c.if-not-is_index.false) in
    let bounds : let a = c.args in (1 ≤ a.positions) × (a.positions ≤ 3) × (a.index < chart_count a.positions) = index-bounds _ _ (is) in
    let short : (c.args.positions ≤ 3) × (c.count_moves-moves.result ≤ 18) = let few = (bounds).1 in
    (few, rw c.count_moves-moves.ensures (few-moves _ _ _ few)) in
    omega (arith, (short).0, (short).1)

pub overflow_mul-length : goal.overflow_mul-length
overflow_mul-length c = let is : let a = c.args in is_index a.positions a.index ≡ true = was-true _ _ c.is_index.ensures (not_from_true _ c.if-not-is_index.false) in
    let bounds : let a = c.args in (1 ≤ a.positions) × (a.positions ≤ 3) × (a.index < chart_count a.positions) = index-bounds _ _ (is) in
    let short : (c.args.positions ≤ 3) × (c.count_moves-moves.result ≤ 18) = let few = (bounds).1 in
    (few, rw c.count_moves-moves.ensures (few-moves _ _ _ few)) in
    omega (arith, (short).0, (short).1)

pub returns-then-chart-length : goal.returns-then-chart-length
returns-then-chart-length c = let is : let a = c.args in is_index a.positions a.index ≡ true = was-true _ _ c.is_index.ensures (not_from_true _ c.if-not-is_index.false) in
    let bounds : let a = c.args in (1 ≤ a.positions) × (a.positions ≤ 3) × (a.index < chart_count a.positions) = index-bounds _ _ (is) in
    let hold : let a = c.args in Hold (squares_of a.positions a.index) a.positions c.owners_of-owners.result c.marks_of-marks.result c.digit_square-meant.result c.digit_square-disturbances.result = digits-hold _ _ _ (bounds).1 c.sets-t.ensures c.digits_of-digits.result c.owners_of-owners.result c.marks_of-marks.result
    c.digit_square-meant.result c.digit_square-disturbances.result c.digits_of-digits.ensures c.owners_of-owners.ensures c.marks_of-marks.ensures c.digit_square-meant.ensures
    c.digit_square-disturbances.ensures in
    too_short _ _ _ (is) _ _ _ _ (hold) _ c.count_moves-moves.ensures c.if-chart-length.true

pub write_squares-requires : goal.write_squares-requires
write_squares-requires c =
    let is : let a = c.args in is_index a.positions a.index ≡ true = was-true _ _ c.is_index.ensures (not_from_true _ c.if-not-is_index.false) in
    let bounds : let a = c.args in (1 ≤ a.positions) × (a.positions ≤ 3) × (a.index < chart_count a.positions) = index-bounds _ _ (is) in
    record {
      few = (bounds).1;
      counted = c.count_moves-moves.ensures;
      owners-row = omega (arith, (bounds).1);
      marks-row = omega (arith, (bounds).1);
      room = omega arith;
    }

pub returns : goal.returns
returns c =
    let is : let a = c.args in is_index a.positions a.index ≡ true = was-true _ _ c.is_index.ensures (not_from_true _ c.if-not-is_index.false) in
    let bounds : let a = c.args in (1 ≤ a.positions) × (a.positions ≤ 3) × (a.index < chart_count a.positions) = index-bounds _ _ (is) in
    let hold : let a = c.args in Hold (squares_of a.positions a.index) a.positions c.owners_of-owners.result c.marks_of-marks.result c.digit_square-meant.result c.digit_square-disturbances.result = digits-hold _ _ _ (bounds).1 c.sets-t.ensures c.digits_of-digits.result c.owners_of-owners.result c.marks_of-marks.result
    c.digit_square-meant.result c.digit_square-disturbances.result c.digits_of-digits.ensures c.owners_of-owners.ensures c.marks_of-marks.ensures c.digit_square-meant.ensures
    c.digit_square-disturbances.ensures in
    set-out-whole _ _ _ (is) _ _ _ _ (hold) _ c.count_moves-moves.ensures _ c.if-chart-length.false c.write_squares.ensures
