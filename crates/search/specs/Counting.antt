-- More laws of the count of those that pass a test: what changes with the bound and with the test, and that the one with so many before
-- it can be found.
use Rattle.std.specs.Prelude.{ℕ, zero, suc, ◌+◌, ◌≤◌, ◌<◌, ◌≡◌, refl, Bool, true, false}
use Rattle.std.proofs.Common.{add-one, arith, sym, ap, ◌∙◌}
use Rattle.std.proofs.Math.Decide.{ℕ_discrete, dec_lt, le_ind}
use Rattle.search.specs.Below.{bit, bit_le, count_below, count_next, count_same, count-bound}

pub count_none : (p : ℕ → Bool) (n : ℕ) → ((j : ℕ) → j < n → p j ≡ false) → count_below p n ≡ 0
unfolding count_below
count_none p zero h = refl
count_none p (suc n) h = rw (count_none p n (λ j l. h j (omega arith)), h n (omega arith))

-- what doesn't fall from one number to the next doesn't fall at all
pub never-falls : (f : ℕ → ℕ) → ((i : ℕ) → f i ≤ f (i + 1)) → (i k : ℕ) → i ≤ k → f i ≤ f k
never-falls f step i k = le_ind (λ (x : ℕ). f i ≤ f x) (omega arith) (λ x l h. let next = rw add-one at (step x) in omega arith) k

-- the larger the bound, the more are counted
pub count-grows : (p : ℕ → Bool) (i k : ℕ) → i ≤ k → count_below p i ≤ count_below p k
count-grows p = never-falls (count_below p) (λ i. let next = count_next p i in omega arith)

-- one that passes counts past it
pub count_past : (p : ℕ → Bool) (i k : ℕ) → i < k → p i ≡ true → count_below p i < count_below p k
unfolding count_below
count_past p i k l e =
    let one : count_below p (suc i) ≡ count_below p i + 1 = rw e in
    let more = count-grows p (suc i) k l in
    omega arith

-- where more than r are counted, one that passes has r before it
pub count-find : (p : ℕ → Bool) (n r : ℕ) → r < count_below p n → (i : ℕ) × (i < n) × (p i ≡ true) × (count_below p i ≡ r)
unfolding count_below
count-find p zero r l = absurd (omega arith)
count-find p (suc n) r l = go (dec_lt r (count_below p n)) (count-find p n r) (p n) refl l
  where
    go : Dec (r < count_below p n) → (r < count_below p n → (i : ℕ) × (i < n) × (p i ≡ true) × (count_below p i ≡ r)) → (b : Bool) → p n ≡ b
        → r < count_below p n + bit b → (i : ℕ) × (i < suc n) × (p i ≡ true) × (count_below p i ≡ r)
    go (yes h) rec b e m = let w = rec h in (w.0, omega (arith, w.1), w.2, w.3)
    go (no h) rec true e m = (n, omega arith, e, omega arith)
    go (no h) rec false e m = absurd (omega arith)

-- a test that adds up from two
pub count-sum : (p q both : ℕ → Bool) (n : ℕ) → ((j : ℕ) → j < n → bit (both j) ≡ bit (p j) + bit (q j)) → count_below both n ≡ count_below p n + count_below q n
unfolding count_below
count-sum p q both zero h = refl
count-sum p q both (suc n) h =
    let rest = count-sum p q both n (λ j l. h j (omega arith)) in
    let here = h n (omega arith) in
    omega arith

-- where one fails, not all are counted
pub count_less : (p : ℕ → Bool) (n v : ℕ) → v < n → p v ≡ false → count_below p n < n
unfolding count_below
count_less p zero v l e = absurd (omega arith)
count_less p (suc n) v l e = go (ℕ_discrete v n) (count_less p n v)
  where
    go : Dec (v ≡ n) → (v < n → p v ≡ false → count_below p n < n) → count_below p n + bit (p n) < suc n
    go (yes z) rec = rw (ap p (sym z) ∙ e) (let b = count-bound p n in omega arith)
    go (no z) rec = let b = bit_le (p n) in let h = rec (omega arith) e in omega arith

-- one that fails by one test and passes by the other, where all others agree
pub count-one-more : (p q : ℕ → Bool) (m i : ℕ) → i < m → p i ≡ false → q i ≡ true → ((j : ℕ) → j < m → (j ≡ i → ⊥) → p j ≡ q j) → count_below q m ≡ count_below p m + 1
unfolding count_below
count-one-more p q zero i l e f same = absurd (omega arith)
count-one-more p q (suc m) i l e f same = go (ℕ_discrete i m) (λ h. count-one-more p q m i h e f (λ j k. same j (omega arith)))
  where
    go : Dec (i ≡ m) → (i < m → count_below q m ≡ count_below p m + 1) → count_below q m + bit (q m) ≡ count_below p m + bit (p m) + 1
    go (yes z) rec = rw (ap p (sym z) ∙ e, ap q (sym z) ∙ f) (let s = count_same p q m (λ j k. same j (omega arith) (λ w. omega arith)) in omega arith)
    go (no z) rec = rw (same m (omega arith) (λ w. z (sym w))) (let h = rec (omega arith) in omega arith)
