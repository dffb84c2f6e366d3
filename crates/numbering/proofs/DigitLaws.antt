-- Digits: each number below the count of digits is the digit of one owner, mark, meant set and disturbance set, and each number of k digits
-- has these digits and no others.
use Prim.Native.Nat.{ℕ, zero, suc, ◌+◌, ◌-◌, ◌*◌, ◌/◌, ◌%◌, ◌^◌, ◌≤◌, ◌<◌}
use native.Mathlib.Omega.{arith}
use Rattle.std.proofs.Math.Decide.{ℕ_discrete}
use Rattle.std.proofs.Math.Nat.{pow-zero, mul-add-div_right, mul-add-mod_self_right, div-eq_of_lt}
use Rattle.std.proofs.Common.{pow-suc, mul-le-mul_right, suc-mul, mod-eq_of_lt, mod-lt, div-add-mod', div-lt_iff_lt-mul, sym, ap, ap₂, ◌∙◌, true≢false}
use Rattle.std.specs.Prelude.{◌≡◌, refl, Bool, cond, not, eqb}
use Rattle.std.proofs.Math.Bool.{true, false}
use Rattle.std.proofs.Math.Dec.{ltb}
use borrow.Author.Tests.{eq-eqb, ne_eqb, lt-ltb, le-ltb, ltb-true, ltb-false}
use Rattle.search.specs.Below.{bit, bit_le}
use Rattle.numbering.specs.Numbering.{console_digits, digit, digits, numeral}
use Rattle.numbering.specs.Squares.{digit_of, lane_in, rest_in, mark_in, meant_in, disturbances_in}

-- q rows of t places: the row and the place of x
row_of : (t x y : ℕ) → y < t → (x * t + y) / t ≡ x
row_of t x y l = mul-add-div_right (omega arith) x y ∙ rw (div-eq_of_lt l) (omega arith)

place_of : (t x y : ℕ) → y < t → (x * t + y) % t ≡ y
place_of t x y l = mul-add-mod_self_right x t y ∙ mod-eq_of_lt l

pub within : (q t x y : ℕ) → x < q → y < t → x * t + y < q * t
within q t x y l m = let up = mul-le-mul_right t l in omega (arith, suc-mul x t)

-- Digits of a number

-- the digits of a number are those that it is made of
pub digits-again : (base : ℕ) (f : ℕ → ℕ) (k : ℕ) → ((v : ℕ) → v < k → f v < base) → (v : ℕ) → v < k → digit_of base (numeral base f k) k v ≡ f v
unfolding digit_of numeral
digits-again base f zero h v l = absurd (omega arith)
digits-again base f (suc k) h v l = go (ℕ_discrete v k) (digits-again base f k (λ u m. h u (omega arith)) v)
  where
    go : Dec (v ≡ k) → (v < k → digit_of base (numeral base f k) k v ≡ f v)
        → cond (eqb v k) ((numeral base f k * base + f k) % base) (digit_of base ((numeral base f k * base + f k) / base) k v) ≡ f v
    go (yes e) rest = rw (eq-eqb v k e) (place_of base (numeral base f k) (f k) (h k (omega arith)) ∙ ap f (sym e))
    go (no z) rest =
        rw (ne_eqb v k z) (ap (λ (i : ℕ). digit_of base i k v) (row_of base (numeral base f k) (f k) (h k (omega arith))) ∙ rest (omega arith))

-- digits that agree make the same number
pub numeral-same : (base : ℕ) (f g : ℕ → ℕ) (k : ℕ) → ((v : ℕ) → v < k → f v ≡ g v) → numeral base f k ≡ numeral base g k
unfolding numeral
numeral-same base f g zero h = refl
numeral-same base f g (suc k) h = ap₂ (λ (x y : ℕ). x * base + y) (numeral-same base f g k (λ v l. h v (omega arith))) (h k (omega arith))

-- a number below the base to the k is made of its k digits
pub number-again : (base i k : ℕ) → 0 < base → i < base ^ k → numeral base (digit_of base i k) k ≡ i
unfolding digit_of numeral
number-again base i zero b l = omega (arith, pow-zero base)
number-again base i (suc k) b l =
    let front : numeral base (digit_of base i (suc k)) k ≡ i / base =
    numeral-same base (digit_of base i (suc k)) (digit_of base (i / base) k) k (λ v m. rw (ne_eqb v k (λ e. omega arith)))
    ∙ number-again base (i / base) k b ((div-lt_iff_lt-mul b).1 (rw (← pow-suc base k) l)) in
    let last : digit_of base i (suc k) k ≡ i % base = rw (eq-eqb k k refl) in
    ap₂ (λ (x y : ℕ). x * base + y) front last ∙ div-add-mod' i base

pub digit-of-bound : (base i k v : ℕ) → 0 < base → v < k → digit_of base i k v < base
unfolding digit_of
digit-of-bound base i zero v b l = absurd (omega arith)
digit-of-bound base i (suc k) v b l = go (ℕ_discrete v k) (digit-of-bound base (i / base) k v b)
  where
    go : Dec (v ≡ k) → (v < k → digit_of base (i / base) k v < base) → cond (eqb v k) (i % base) (digit_of base (i / base) k v) < base
    go (yes e) rest = rw (eq-eqb v k e) (mod-lt i b)
    go (no z) rest = rw (ne_eqb v k z) (rest (omega arith))

-- What a digit says

-- mark and meant set together, of which there are 2 (t - 1)
rest : (t mark meant : ℕ) → ℕ
rest t mark meant = mark * (t - 1) + (meant - 1)

module _ (t mark meant : ℕ) (marked : mark ≤ 1) (some : 1 ≤ meant) (set : meant < t) where
  rest-cases : (rest t mark meant < 2 * (t - 1)) × (bit (not (ltb (rest t mark meant) (t - 1))) ≡ mark)
      × (cond (ltb (rest t mark meant) (t - 1)) (rest t mark meant + 1) (rest t mark meant - (t - 1) + 1) ≡ meant)
  unfolding rest
  rest-cases = go mark marked
    where
      go : (x : ℕ) → x ≤ 1 → (x * (t - 1) + (meant - 1) < 2 * (t - 1)) × (bit (not (ltb (x * (t - 1) + (meant - 1)) (t - 1))) ≡ x)
          × (cond (ltb (x * (t - 1) + (meant - 1)) (t - 1)) (x * (t - 1) + (meant - 1) + 1) (x * (t - 1) + (meant - 1) - (t - 1) + 1) ≡ meant)
      go zero h = (omega arith, rw (lt-ltb (0 * (t - 1) + (meant - 1)) (t - 1) (omega arith)), rw (lt-ltb (0 * (t - 1) + (meant - 1)) (t - 1) (omega arith)) (omega arith))
      go (suc zero) h = (omega arith, rw (le-ltb (1 * (t - 1) + (meant - 1)) (t - 1) (omega arith)), rw (le-ltb (1 * (t - 1) + (meant - 1)) (t - 1) (omega arith)) (omega arith))
      go (suc (suc x)) h = absurd (omega arith)

-- and back: what such a number says, it is made of
module _ (t x : ℕ) (two : 2 ≤ t) (below : x < 2 * (t - 1)) where
  again : (b : Bool) → ltb x (t - 1) ≡ b → (bit (not b) * (t - 1) + (cond b (x + 1) (x - (t - 1) + 1) - 1) ≡ x)
      × (1 ≤ cond b (x + 1) (x - (t - 1) + 1)) × (cond b (x + 1) (x - (t - 1) + 1) < t)
  again true e = let l = ltb-true x (t - 1) e in (omega arith, omega arith, omega arith)
  again false e = let l = ltb-false x (t - 1) e in (omega arith, omega arith, omega arith)

-- what the digit d says
pub record Says (t d : ℕ) (lane : Bool) (mark meant disturbances : ℕ) : Type 0 where
  pub bound : d < digits t
  pub lane-is : lane_in t d ≡ lane
  pub mark-is : mark_in t d ≡ mark
  pub meant_is : meant_in t d ≡ meant
  pub disturbances-is : disturbances_in t d ≡ disturbances

-- a digit says what it is made of
module _ (t mark meant disturbances : ℕ) (marked : mark ≤ 1) (some : 1 ≤ meant) (set : meant < t) (few : disturbances < t) where
  pub digit-says : (lane : Bool) → (lane ≡ true → disturbances ≡ 0) → Says t (digit t lane mark meant disturbances) lane mark meant disturbances
  unfolding digit digits console_digits lane_in rest_in mark_in meant_in disturbances_in rest
  digit-says false none =
      let r = rest-cases t mark meant marked some set in
      let x = mark * (t - 1) + (meant - 1) in
      let d = x * t + disturbances in
      let h : d < 2 * (t - 1) * t = within (2 * (t - 1)) t x disturbances r.0 few in
      let low : ltb d (2 * (t - 1) * t) ≡ true = lt-ltb d (2 * (t - 1) * t) h in
      let row : d / t ≡ x = row_of t x disturbances few in
      record {
        bound = omega arith;
        lane-is = rw low;
        mark-is = rw (low, row) r.1;
        meant_is = rw (low, row) r.2;
        disturbances-is = rw low (place_of t x disturbances few);
      }
  digit-says true none =
      let r = rest-cases t mark meant marked some set in
      let x = mark * (t - 1) + (meant - 1) in
      let d = 2 * (t - 1) * t + x in
      let high : ltb d (2 * (t - 1) * t) ≡ false = le-ltb d (2 * (t - 1) * t) (omega arith) in
      let past : d - 2 * (t - 1) * t ≡ x = omega arith in
      record {
        bound = omega (arith, r.0);
        lane-is = rw high;
        mark-is = rw (high, past) r.1;
        meant_is = rw (high, past) r.2;
        disturbances-is = rw high (sym (none refl));
      }

-- what a digit says is of a position, and makes the digit
pub record Sayable (t d : ℕ) : Type 0 where
  pub again : digit t (lane_in t d) (mark_in t d) (meant_in t d) (disturbances_in t d) ≡ d
  pub marked : mark_in t d ≤ 1
  pub some : 1 ≤ meant_in t d
  pub set : meant_in t d < t
  pub few : disturbances_in t d < t
  pub none : lane_in t d ≡ true → disturbances_in t d ≡ 0

pub digit-sayable : (t d : ℕ) → 2 ≤ t → d < digits t → Sayable t d
unfolding digit digits console_digits lane_in rest_in mark_in meant_in disturbances_in
digit-sayable t d two l = go (ltb d (2 * (t - 1) * t)) refl
  where
    go : (b : Bool) → ltb d (2 * (t - 1) * t) ≡ b → Sayable t d
    go true e =
        let h = ltb-true d (2 * (t - 1) * t) e in
        let x = d / t in
        let w = again t x two ((div-lt_iff_lt-mul {k = t} (omega arith)).1 h) (ltb x (t - 1)) refl in
        record {
          again = rw e (ap (λ (y : ℕ). y * t + d % t) w.0 ∙ div-add-mod' d t);
          marked = bit_le (not (ltb (rest_in t d) (t - 1)));
          some = rw e w.1;
          set = rw e w.2;
          few = rw e (mod-lt d (omega arith));
          none = λ z. absurd (true≢false (sym z ∙ ap not e));
        }
    go false e =
        let h = ltb-false d (2 * (t - 1) * t) e in
        let x = d - 2 * (t - 1) * t in
        let w = again t x two (omega arith) (ltb x (t - 1)) refl in
        record {
          again = rw e (ap (λ (y : ℕ). 2 * (t - 1) * t + y) w.0 ∙ omega arith);
          marked = bit_le (not (ltb (rest_in t d) (t - 1)));
          some = rw e w.1;
          set = rw e w.2;
          few = rw e (omega arith);
          none = λ z. rw e;
        }
