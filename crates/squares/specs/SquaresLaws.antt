-- Laws of what the arrays hold: a row or a square of three places; the digits of an index in a row; the index as it grows by one digit, and
-- how large it gets; a square as it grows by one move.
use Prim.Native.Nat.{ℕ, zero, suc, ◌+◌, ◌*◌, ◌/◌, ◌%◌, ◌^◌, ◌≤◌, ◌<◌}
use Rattle.std.proofs.Common.{arith, lt_of_lt_of_le, sym, ◌∙◌, length-set, get_or-set_same, get_or-set_other, pow_pos, pow_mono, eq-eqb, ne_eqb}
use Rattle.std.proofs.Math.Decide.{ℕ_discrete}
use Rattle.std.proofs.Math.Nat.{pow-le-pow_right}
use Rattle.std.specs.Prelude.{◌≡◌, Bool, true, ◌&&◌, ◌||◌, set, eqb}
use Rattle.std.proofs.Math.Path.{refl, ap}
use Rattle.std.proofs.Math.Bool.{false, or-false, or-true}
use mathlib.Core.List.{List, [], ◌∷◌}
use Rattle.std.proofs.Math.ListN.{length, get_or, replicate, get_or-replicate}
use Rattle.search.specs.Below.{some_below, some_next}
use Rattle.rows.specs.Rows.{RowIs}
use Rattle.numbering.specs.Numbering.{digit, digits, numeral, set_number}
use Rattle.numbering.specs.Squares.{digit_of, in_set}
use Rattle.numbering.proofs.SetLaws.{set-bound}
use Rattle.numbering.proofs.NumeralLaws.{digits-bound, digit-bound, numeral-next, numeral-bound}
use Rattle.squares.specs.Held.{TargetsAre, SquareIs, cell, held_digit, joined_below}

-- Three places

-- what holds of 0, 1 and 2 holds of each number below 3
below-three : (P : ℕ → Type 0) → P 0 → P 1 → P 2 → (v : ℕ) → v < 3 → P v
below-three P first second third zero l = first
below-three P first second third (suc zero) l = second
below-three P first second third (suc (suc zero)) l = third
below-three P first second third (suc (suc (suc v))) l = absurd (omega arith)

pub three-are : {A : Type 0} {x y z : A} (d : A) (f : ℕ → A) → x ≡ f 0 → y ≡ f 1 → z ≡ f 2 → (v : ℕ) → v < 3 → get_or (x ∷ y ∷ z ∷ []) v d ≡ f v
three-are {x = x} {y = y} {z = z} d f = below-three (λ v. get_or (x ∷ y ∷ z ∷ []) v d ≡ f v)

-- the square whose rows are the sets of these numbers
pub square-of-sets : (x y z : List Bool) {a b c : ℕ} (f : ℕ → ℕ) → a ≡ f 0 → b ≡ f 1 → c ≡ f 2 → TargetsAre x (in_set a) → TargetsAre y (in_set b) → TargetsAre z (in_set c)
    → SquareIs (x ∷ y ∷ z ∷ []) (λ v. in_set (f v))
square-of-sets x y z f a b c p q r = below-three (λ v. TargetsAre (get_or (x ∷ y ∷ z ∷ []) v []) (in_set (f v))) (rw (← a) p) (rw (← b) q) (rw (← c) r)

-- The digits of an index

module _ (base i : ℕ) where
  pub one-digit : RowIs (i % base ∷ 0 ∷ 0 ∷ []) 1 (digit_of base i 1)
  unfolding digit_of
  one-digit zero l = refl
  one-digit (suc v) l = absurd (omega arith)

  pub two_digits : RowIs (i / base % base ∷ i % base ∷ 0 ∷ []) 2 (digit_of base i 2)
  unfolding digit_of
  two_digits zero l = refl
  two_digits (suc zero) l = refl
  two_digits (suc (suc v)) l = absurd (omega arith)

  pub three-digits : RowIs (i / base / base % base ∷ i / base % base ∷ i % base ∷ []) 3 (digit_of base i 3)
  unfolding digit_of
  three-digits = three-are 0 (digit_of base i 3) refl refl refl

-- The index

-- at most 3 positions have from 1 to 8 sets of targets
pub sets-bound : (n : ℕ) → n ≤ 3 → (1 ≤ 2 ^ n) × (2 ^ n ≤ 8)
sets-bound n h = (pow_pos n, pow_mono h)

-- the number of the first v digits
abbrev pub held_below : (n : ℕ) (owners marks : List ℕ) (meant disturbances : List (List Bool)) → ℕ → ℕ
held_below n owners marks meant disturbances = numeral (digits (2 ^ n)) (held_digit n owners marks meant disturbances)

module _ (n : ℕ) (owners marks : List ℕ) (meant disturbances : List (List Bool)) where
  -- one digit more
  pub held_next : (v : ℕ) {index t base m d e : ℕ} → index ≡ held_below n owners marks meant disturbances v → t ≡ 2 ^ n → base ≡ digits t
      → m ≡ set_number (cell meant v) 3 → d ≡ set_number (cell disturbances v) 3 → e ≡ digit t (eqb (get_or owners v 0) 1) (get_or marks v 0) m d
      → index * base + e ≡ held_below n owners marks meant disturbances (v + 1)
  unfolding held_digit
  held_next v before sets base m d e = rw (before, e, m, d, base, sets) (sym (numeral-next (digits (2 ^ n)) (held_digit n owners marks meant disturbances) v))

  -- whatever bytes the marks are, the number is small
  module _ (few : n ≤ 3) (bytes : (v : ℕ) → get_or marks v 0 < 256) where
    held-digit-bound : (v : ℕ) → held_digit n owners marks meant disturbances v < 16384
    unfolding held_digit
    held-digit-bound v =
        let m = set-bound (cell meant v) 3 in
        let d = set-bound (cell disturbances v) 3 in
        digit-bound (2 ^ n) _ (get_or marks v 0) _ _ (pow_mono few) (omega (arith, bytes v)) (omega arith) (omega arith)

    pub held-bound : (v : ℕ) → v ≤ 3 → held_below n owners marks meant disturbances v < 16384 ^ 3
    held-bound v l =
        let base = digits-bound (2 ^ n) (pow_mono few) in
        let small = numeral-bound (digits (2 ^ n)) 16384 (held_digit n owners marks meant disturbances) v (omega arith) (λ u h. held-digit-bound u) in
        lt_of_lt_of_le small (pow-le-pow_right (omega arith) l)

    -- also before the next digit is added
    pub held-product : (v : ℕ) {index t base : ℕ} → v < 3 → index ≡ held_below n owners marks meant disturbances v → t ≡ 2 ^ n → base ≡ digits t → index * base < 16384 ^ 3
    held-product v l before sets base =
        let next = numeral-next (digits (2 ^ n)) (held_digit n owners marks meant disturbances) v in
        rw (before, base, sets) (omega (arith, held-bound (v + 1) (omega arith)))

-- A square of moves

-- a square with a yes for the pair of a and b
abbrev pub with_yes : List (List Bool) → ℕ → ℕ → List (List Bool)
with_yes square a b = set square a (set (get_or square a []) b true)

set-yes : (row : List Bool) (b w : ℕ) → b < length row → get_or (set row b true) w false ≡ (get_or row w false || eqb b w)
set-yes row b w l = go (ℕ_discrete w b)
  where
    go : Dec (w ≡ b) → get_or (set row b true) w false ≡ (get_or row w false || eqb b w)
    go (yes z) = rw (z, get_or-set_same row b true false l, eq-eqb b b refl, or-true)
    go (no z) = rw (get_or-set_other row b w true false z, ne_eqb b w (λ e. z (sym e)), or-false)

with-yes-cell : (square : List (List Bool)) (a b v w : ℕ) → a < length square → b < length (get_or square a [])
    → cell (with_yes square a b) v w ≡ (cell square v w || (eqb a v && eqb b w))
with-yes-cell square a b v w l k = go (ℕ_discrete v a)
  where
    go : Dec (v ≡ a) → cell (with_yes square a b) v w ≡ (cell square v w || (eqb a v && eqb b w))
    go (yes z) = rw (z, get_or-set_same square a (set (get_or square a []) b true) [] l, eq-eqb a a refl) (set-yes (get_or square a []) b w k)
    go (no z) = rw (get_or-set_other square a v (set (get_or square a []) b true) [] z, ne_eqb a v (λ e. z (sym e)), or-false)

with-yes-length : (square : List (List Bool)) (a b v : ℕ) → a < length square → length (get_or (with_yes square a b) v []) ≡ length (get_or square v [])
with-yes-length square a b v l = go (ℕ_discrete v a)
  where
    go : Dec (v ≡ a) → length (get_or (with_yes square a b) v []) ≡ length (get_or square v [])
    go (yes z) = rw (z, get_or-set_same square a (set (get_or square a []) b true) [] l, length-set)
    go (no z) = rw (get_or-set_other square a v (set (get_or square a []) b true) [] z)

joined-next : (cost : ℕ) (costs froms tos : List ℕ) (i v w : ℕ) → joined_below cost costs froms tos (i + 1) v w
    ≡ (joined_below cost costs froms tos i v w || (eqb (get_or costs i 0) cost && (eqb (get_or froms i 0) v && eqb (get_or tos i 0) w)))
unfolding joined_below
joined-next cost costs froms tos i v w = some_next _ i

-- the square of the first i moves, in its three rows of three places
pub record Gathered (cost : ℕ) (costs froms tos : List ℕ) (i : ℕ) (square : List (List Bool)) : Type 0 where
  pub joins : SquareIs square (joined_below cost costs froms tos i)
  pub rows : length square ≡ 3
  pub places : (v : ℕ) → v < 3 → length (get_or square v []) ≡ 3

-- no move so far
abbrev pub blank : List (List Bool)
blank = replicate 3 (replicate 3 false)

module _ {cost : ℕ} {costs froms tos : List ℕ} where
  pub gathered_none : Gathered cost costs froms tos 0 blank
  unfolding joined_below some_below
  gathered_none =
      let row : (v : ℕ) → v < 3 → get_or blank v [] ≡ replicate 3 false = λ v l. get_or-replicate 3 v (replicate 3 false) [] l in
      record {
        joins = λ v l w k. ap (λ (r : List Bool). get_or r w false) (row v l) ∙ get_or-replicate 3 w false false k;
        rows = refl;
        places = λ v l. ap length (row v l);
      }

  -- a move of another cost
  pub gathered-other : {i : ℕ} {square : List (List Bool)} → (get_or costs i 0 ≡ cost → ⊥) → Gathered cost costs froms tos i square → Gathered cost costs froms tos (i + 1) square
  gathered-other {i} other h = record {
    joins = λ v l w k. h.joins v l w k ∙ sym (joined-next cost costs froms tos i v w ∙ rw (ne_eqb (get_or costs i 0) cost other, or-false));
    rows = h.rows;
    places = h.places;
  }

  -- a move of this cost
  pub gathered-more : {i : ℕ} {square : List (List Bool)} → get_or costs i 0 ≡ cost → get_or froms i 0 < 3 → get_or tos i 0 < 3 → Gathered cost costs froms tos i square
      → Gathered cost costs froms tos (i + 1) (with_yes square (get_or froms i 0) (get_or tos i 0))
  gathered-more {i} {square} this a b h =
      let from = get_or froms i 0 in
      let to = get_or tos i 0 in
      record {
        joins = λ v l w k.
            with-yes-cell square from to v w (omega arith) (omega (arith, h.places from a))
            ∙ ap (λ (x : Bool). x || (eqb from v && eqb to w)) (h.joins v l w k)
            ∙ sym (joined-next cost costs froms tos i v w ∙ rw (eq-eqb (get_or costs i 0) cost this));
        rows = simp length-set h.rows;
        places = λ v l. with-yes-length square from to v (omega arith) ∙ h.places v l;
      }
