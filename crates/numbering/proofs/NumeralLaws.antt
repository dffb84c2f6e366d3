-- How large the numbers of the numbering are: a position's digit, and a numeral of so many digits. Numbers that a caller gives, as
-- a mark of a row, may be any byte here.
use Rattle.std.specs.Prelude.{ℕ, zero, suc, ◌+◌, ◌-◌, ◌*◌, ◌^◌, ◌≤◌, ◌<◌, ◌≡◌, Bool, true, false}
use Rattle.std.proofs.Common.{arith, add-one, mul-le-mul, mul-le-mul_left, mul-le-mul_right, suc-mul, pow-suc, pow_mono}
use Rattle.std.proofs.Math.Nat.{pow-zero}
use Rattle.numbering.specs.Numbering.{console_digits, digit, digits, numeral}

-- Digits of at most 3 positions, which have at most 8 sets of targets

pub console-digits-bound : (t : ℕ) → t ≤ 8 → console_digits t ≤ 112
unfolding console_digits
console-digits-bound t h = let l : 2 * (t - 1) ≤ 14 = omega arith in mul-le-mul l h

-- a base that is divided by
pub digits-positive : (n : ℕ) → 1 ≤ n → 0 < digits (2 ^ n)
unfolding digits
digits-positive n h = omega (arith, pow_mono h)

pub digits-bound : (t : ℕ) → t ≤ 8 → digits t ≤ 126
unfolding digits
digits-bound t h = omega (arith, console-digits-bound t h)

-- mark and meant set together
rest-bound : (t mark meant : ℕ) → t ≤ 8 → mark ≤ 255 → meant ≤ 7 → mark * (t - 1) + (meant - 1) ≤ 1791
rest-bound t mark meant h m s = let l : t - 1 ≤ 7 = omega arith in omega (arith, mul-le-mul m l)

pub digit-bound : (t : ℕ) (lane : Bool) (mark meant disturbances : ℕ) → t ≤ 8 → mark ≤ 255 → meant ≤ 7 → disturbances ≤ 7
    → digit t lane mark meant disturbances < 16384
unfolding digit
digit-bound t false mark meant disturbances h m s d = omega (arith, mul-le-mul (rest-bound t mark meant h m s) h)
digit-bound t true mark meant disturbances h m s d = omega (arith, console-digits-bound t h, rest-bound t mark meant h m s)

-- Numerals

-- one digit more
pub numeral-next : (base : ℕ) (f : ℕ → ℕ) (k : ℕ) → numeral base f (k + 1) ≡ numeral base f k * base + f k
unfolding numeral
numeral-next base f k = rw add-one

-- digits below `top` in no larger base
pub numeral-bound : (base top : ℕ) (f : ℕ → ℕ) (k : ℕ) → base ≤ top → ((v : ℕ) → v < k → f v < top) → numeral base f k < top ^ k
unfolding numeral
numeral-bound base top f zero h small = rw (pow-zero top) (omega arith)
numeral-bound base top f (suc k) h small =
    let before = numeral-bound base top f k h (λ v l. small v (omega arith)) in
    let grows = mul-le-mul_left (numeral base f k) h in
    let room = mul-le-mul_right top before in
    rw (pow-suc top k) (omega (arith, suc-mul (numeral base f k) top, small k (omega arith)))
