-- Comparing numbers where a cost is added is comparing the values that they stand for: the code adds 65,535 and a cost too, and the
-- sum is still above each number, as "ever" is.
use Rattle.std.specs.Prelude.{ℕ, ◌+◌, ◌≤◌, ◌<◌, ◌≡◌, ◌⊎◌, not, ltb, leb}
use Rattle.std.proofs.Math.Decide.{dec_le}
use Rattle.std.proofs.Common.{arith, sym, ◌∙◌, inl, inr, eq-eqb, lt-ltb, le-ltb, le-leb}
use Rattle.std.proofs.lemmas.Bool.{lt-leb}
use Rattle.game.specs.Value.{ever, value_le, value_lt, ◌⊕◌}
use Rattle.game.proofs.ValueLaws.{⊕fin, ⊕ever}
use Rattle.rows.specs.Numbers.{value_of}
use Rattle.rows.specs.NumberLaws.{below-number, finite_number, not-above, smaller-number}

-- a number that leaves room for a cost: 65,535, or far enough below it
abbrev pub Roomy : ℕ → Type 0
Roomy x = (x ≡ 65535) ⊎ (x < 60000)

is-ever : (x : ℕ) → x ≡ 65535 → value_of x ≡ ever
unfolding value_of
is-ever x h = rw (eq-eqb x 65535 h)

-- a finite number and a cost are a finite number
number-and-cost : (x c : ℕ) → x < 60000 → c ≤ 9 → value_of x ⊕ c ≡ value_of (x + c)
number-and-cost x c l k = rw (finite_number x (λ z. omega arith), finite_number (x + c) (λ z. omega arith)) (⊕fin x c)

at_most : (j k : ℕ) → leb j k ≡ not (ltb k j)
at_most j k = go (dec_le j k)
  where
    go : Dec (j ≤ k) → leb j k ≡ not (ltb k j)
    go (yes l) = rw (le-leb j k l, le-ltb k j l)
    go (no g) = let l : k < j = omega arith in rw (lt-leb j k l, lt-ltb k j l)

-- So a value with a cost more lies below another where the numbers say so: 65,535 with a cost lies below none, as "ever" does.
pub below-with-cost : (x y c : ℕ) → Roomy x → y ≤ 65535 → c ≤ 9 → ltb (x + c) y ≡ not (value_le (value_of y) (value_of x ⊕ c))
unfolding value_lt
below-with-cost x y c (inr l) k h = below-number (x + c) y (omega arith) k ∙ rw (number-and-cost x c l h)
below-with-cost x y c (inl e) k h = le-ltb (x + c) y (omega arith) ∙ rw (is-ever x e, ⊕ever c, not-above (value_of y) ever)

-- And it is at most a finite one where the numbers say so.
pub within-with-cost : (x y c : ℕ) → Roomy x → y < 60000 → c ≤ 9 → leb (x + c) y ≡ value_le (value_of x ⊕ c) (value_of y)
unfolding value_le
within-with-cost x y c (inr l) k h =
    at_most (x + c) y ∙ rw (smaller-number y (x + c) (omega arith) (omega arith), number-and-cost x c l h) (sym (not-above (value_of (x + c)) (value_of y)))
within-with-cost x y c (inl e) k h = lt-leb (x + c) y (omega arith) ∙ rw (is-ever x e, ⊕ever c, finite_number y (λ z. omega arith))
