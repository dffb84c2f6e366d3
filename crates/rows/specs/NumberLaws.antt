-- Laws between numbers and values: comparing 16-bit numbers is comparing the values that they stand for, since 65,535 is above each
-- number, as "ever" is.
use Rattle.std.specs.Prelude.{ℕ, ◌≤◌, ◌<◌, ◌≡◌, refl, Bool, true, false, cond, not, eqb, ltb, leb}
use Rattle.std.proofs.Math.Decide.{ℕ_discrete, dec_le}
use Rattle.std.proofs.Common.{arith, sym, ◌∙◌, eq-eqb, ne_eqb, eqb-true, lt-ltb, le-ltb, le-leb}
use Rattle.std.proofs.lemmas.Bool.{lt-leb}
use Rattle.std.specs.Int.{from_bool}
use Rattle.search.specs.Below.{bit}
use Rattle.game.specs.Value.{Value, fin, ever, value_le, value_lt, value_eq}
use Rattle.rows.specs.Numbers.{number_of, value_of}

-- a test's answer as a number, by the library's conversion
pub from-bool : (b : Bool) → from_bool b ≡ bit b
from-bool true = refl
from-bool false = refl

-- a 16-bit number and its value
pub number-of-value : (x : ℕ) → number_of (value_of x) ≡ x
unfolding number_of value_of
number-of-value x = go (ℕ_discrete x 65535)
  where
    go : Dec (x ≡ 65535) → number_of (value_of x) ≡ x
    go (yes e) = rw (eq-eqb x 65535 e) (sym e)
    go (no n) = rw (ne_eqb x 65535 n)

-- a finite value is below 65,535
abbrev pub Fits : Value → Type 0
Fits (fin k) = k < 65535
Fits ever = Unit {0}

pub value-of-number : (x : Value) → Fits x → value_of (number_of x) ≡ x
unfolding number_of value_of
value-of-number (fin k) h = rw (ne_eqb k 65535 (λ e. omega arith))
value-of-number ever h = refl

-- comparing numbers is comparing values
pub less-numbers : (x y : Value) → Fits x → Fits y → ltb (number_of x) (number_of y) ≡ value_lt x y
unfolding number_of value_lt
less-numbers (fin j) (fin k) f g = refl
less-numbers (fin j) ever f g = lt-ltb j 65535 f
less-numbers ever (fin k) f g = le-ltb 65535 k (omega arith)
less-numbers ever ever f g = refl

pub at-most-numbers : (x y : Value) → Fits x → Fits y → leb (number_of x) (number_of y) ≡ value_le x y
unfolding number_of value_le
at-most-numbers (fin j) (fin k) f g = refl
at-most-numbers (fin j) ever f g = le-leb j 65535 (omega arith)
at-most-numbers ever (fin k) f g = lt-leb 65535 k g
at-most-numbers ever ever f g = refl

pub same_numbers : (x y : Value) → Fits x → Fits y → eqb (number_of x) (number_of y) ≡ value_eq x y
unfolding number_of value_eq
same_numbers (fin j) (fin k) f g = refl
same_numbers (fin j) ever f g = ne_eqb j 65535 (λ e. omega arith)
same_numbers ever (fin k) f g = ne_eqb 65535 k (λ e. omega arith)
same_numbers ever ever f g = refl

-- equal numbers are equal values
pub same-values : (x y : ℕ) → value_eq (value_of x) (value_of y) ≡ eqb x y
unfolding value_of value_eq
same-values x y = go (eqb x 65535) (eqb y 65535) refl refl
  where
    go : (p q : Bool) → eqb x 65535 ≡ p → eqb y 65535 ≡ q → value_eq (cond p ever (fin x)) (cond q ever (fin y)) ≡ eqb x y
    go true true e f = let a = eqb-true x 65535 e in let b = eqb-true y 65535 f in sym (eq-eqb x y (a ∙ sym b))
    go true false e f = let a = eqb-true x 65535 e in sym (ne_eqb x y (λ z. let w : ◌≡◌ {A = Bool} true false = sym (eq-eqb y 65535 (sym z ∙ a)) ∙ f in let k : ◌≡◌ {A = ℕ} 0 1 = cc in omega arith))
    go false true e f = let b = eqb-true y 65535 f in sym (ne_eqb x y (λ z. let w : ◌≡◌ {A = Bool} true false = sym (eq-eqb x 65535 (z ∙ b)) ∙ e in let k : ◌≡◌ {A = ℕ} 0 1 = cc in omega arith))
    go false false e f = refl

pub ever-number : (x : ℕ) → value_eq (value_of x) ever ≡ eqb x 65535
unfolding value_of value_eq
ever-number x = go (eqb x 65535)
  where
    go : (b : Bool) → value_eq (cond b ever (fin x)) ever ≡ b
    go true = refl
    go false = refl

-- a number that is not 65,535 stands for itself
pub finite_number : (x : ℕ) → (x ≡ 65535 → ⊥) → value_of x ≡ fin x
unfolding value_of
finite_number x h = rw (ne_eqb x 65535 h)

pub number_fits : (x : ℕ) → x ≤ 65535 → Fits (value_of x)
unfolding value_of
number_fits x l = go (ℕ_discrete x 65535)
  where
    go : Dec (x ≡ 65535) → Fits (cond (eqb x 65535) ever (fin x))
    go (yes z) = rw (eq-eqb x 65535 z) tt
    go (no z) = rw (ne_eqb x 65535 z) (omega arith)

-- "smaller", of numbers and of values
pub smaller-number : (x y : ℕ) → x ≤ 65535 → y ≤ 65535 → ltb x y ≡ value_lt (value_of x) (value_of y)
smaller-number x y l k = rw (number-of-value x, number-of-value y) at (less-numbers (value_of x) (value_of y) (number_fits x l) (number_fits y k))

-- at most is not above
pub not-above : (x y : Value) → value_le x y ≡ not (value_lt y x)
unfolding value_le value_lt
not-above (fin j) (fin k) = go (dec_le j k)
  where
    go : Dec (j ≤ k) → leb j k ≡ not (ltb k j)
    go (yes l) = rw (le-leb j k l, le-ltb k j l)
    go (no g) = let l : k < j = omega arith in rw (lt-leb j k l, lt-ltb k j l)
not-above (fin j) ever = refl
not-above ever (fin k) = refl
not-above ever ever = refl

pub below-number : (x y : ℕ) → x ≤ 65535 → y ≤ 65535 → ltb x y ≡ not (value_le (value_of y) (value_of x))
below-number x y l k = smaller-number x y l k ∙ rw (not-above (value_of y) (value_of x)) (go (value_lt (value_of x) (value_of y)))
  where
    go : (b : Bool) → b ≡ not (not b)
    go true = refl
    go false = refl

-- a value as a number is w, if w is no dash
pub choice-number : (x : Value) (w : ℕ) → w < 65535 → eqb (number_of x) w ≡ value_eq x (fin w)
unfolding number_of value_eq
choice-number (fin k) w l = refl
choice-number ever w l = ne_eqb 65535 w (λ e. omega arith)
