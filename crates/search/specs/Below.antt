-- Tests of the numbers below a bound: whether some passes, and how many do.
use Rattle.std.specs.Prelude.{ℕ, zero, suc, ◌+◌, ◌≤◌, ◌<◌, ◌≡◌, refl, Bool, true, false, ◌||◌, T, eqb}
use Rattle.std.proofs.Common.{add-one, arith, sym, ap, subst, ◌∙◌}
use Rattle.std.proofs.Math.Decide.{ℕ_discrete}
use Rattle.std.proofs.Math.Bool.{or-false, or-true, or_assoc}

-- a test's answer as a number
abbrev pub bit : Bool → ℕ
bit true = 1
bit false = 0

-- how many of the numbers below n pass the test
unfoldable pub count_below : (ℕ → Bool) → ℕ → ℕ
count_below p zero = 0
count_below p (suc n) = count_below p n + bit (p n)

-- some number below n passes the test
unfoldable pub some_below : (ℕ → Bool) → ℕ → Bool
some_below p zero = false
some_below p (suc n) = some_below p n || p n

pub bit_le : (b : Bool) → bit b ≤ 1
bit_le true = omega arith
bit_le false = omega arith

pub bit-one : (b : Bool) → eqb (bit b) 1 ≡ b
bit-one true = refl
bit-one false = refl

-- Laws of the count

pub count_next : (p : ℕ → Bool) (i : ℕ) → count_below p (i + 1) ≡ count_below p i + bit (p i)
unfolding count_below
count_next p i = rw add-one

-- tests that agree below n
pub count_same : (p q : ℕ → Bool) (n : ℕ) → ((v : ℕ) → v < n → p v ≡ q v) → count_below p n ≡ count_below q n
unfolding count_below
count_same p q zero h = refl
count_same p q (suc n) h = rw (count_same p q n (λ v l. h v (omega arith)), h n (omega arith))

pub count-bound : (p : ℕ → Bool) (n : ℕ) → count_below p n ≤ n
unfolding count_below
count-bound p zero = omega arith
count-bound p (suc n) = go (p n) (count-bound p n)
  where
    go : (b : Bool) → count_below p n ≤ n → count_below p n + bit b ≤ suc n
    go true h = omega arith
    go false h = omega arith

-- numbers past i that don't pass change nothing
pub count-stays : (p : ℕ → Bool) (i k : ℕ) → ((j : ℕ) → i ≤ j → j < i + k → p j ≡ false) → count_below p (i + k) ≡ count_below p i
unfolding count_below
count-stays p i zero h = let e : i + 0 ≡ i = omega arith in ap (count_below p) e
count-stays p i (suc k) h =
    let e : i + suc k ≡ suc (i + k) = omega arith in
    ap (count_below p) e ∙ rw (h (i + k) (omega arith) (omega arith)) (let rest = count-stays p i k (λ j l m. h j l (omega arith)) in omega arith)

-- where none is counted, none passes
pub count-zero : (p : ℕ → Bool) (i : ℕ) → count_below p i ≡ 0 → (j : ℕ) → j < i → T (p j) → ⊥
unfolding count_below
count-zero p zero e j l h = absurd (omega arith)
count-zero p (suc i) e j l h = go (count-zero p i (omega arith) j) (ℕ_discrete j i)
  where
    passes : (b : Bool) → T b → bit b ≡ 1
    passes true t = refl
    passes false t = absurd t

    go : (j < i → T (p j) → ⊥) → Dec (j ≡ i) → ⊥
    go rec (yes z) = let one = passes (p i) (subst (λ (x : ℕ). T (p x)) z h) in omega arith
    go rec (no z) = rec (omega arith) h

-- Laws of the search

pub some_next : (p : ℕ → Bool) (i : ℕ) → some_below p (i + 1) ≡ (some_below p i || p i)
unfolding some_below
some_next p i = rw add-one

-- the first number apart from the others
pub some-front : (p : ℕ → Bool) (i : ℕ) → some_below p (suc i) ≡ (p 0 || some_below (λ j. p (suc j)) i)
unfolding some_below
some-front p zero = sym (or-false (p 0))
some-front p (suc i) = ap (λ (b : Bool). b || p (suc i)) (some-front p i) ∙ or_assoc (p 0) (some_below (λ j. p (suc j)) i) (p (suc i))

-- tests that agree below i
pub some_same : (p q : ℕ → Bool) (i : ℕ) → ((u : ℕ) → u < i → p u ≡ q u) → some_below p i ≡ some_below q i
unfolding some_below
some_same p q zero h = refl
some_same p q (suc i) h = rw (some_same p q i (λ u l. h u (omega arith)), h i (omega arith))

-- one that passes is enough
pub some-hit : (p : ℕ → Bool) (n v : ℕ) → v < n → p v ≡ true → some_below p n ≡ true
unfolding some_below
some-hit p zero v l e = absurd (omega arith)
some-hit p (suc n) v l e = go (some-hit p n v) (ℕ_discrete v n)
  where
    go : (v < n → p v ≡ true → some_below p n ≡ true) → Dec (v ≡ n) → (some_below p n || p n) ≡ true
    go rec (yes z) = rw (← z, e, or-true)
    go rec (no z) = rw (rec (omega arith) e)

pub some-none : (p : ℕ → Bool) (i : ℕ) → ((j : ℕ) → j < i → p j ≡ false) → some_below p i ≡ false
unfolding some_below
some-none p zero h = refl
some-none p (suc i) h = rw (some-none p i (λ j l. h j (omega arith)), h i (omega arith))

-- numbers past i that don't pass, or that don't matter, change nothing
pub some-stays : (p : ℕ → Bool) (i k : ℕ) → ((j : ℕ) → i ≤ j → j < i + k → p j ≡ false) → some_below p (i + k) ≡ some_below p i
unfolding some_below
some-stays p i zero h = let e : i + 0 ≡ i = omega arith in ap (some_below p) e
some-stays p i (suc k) h =
    let e : i + suc k ≡ suc (i + k) = omega arith in
    ap (some_below p) e ∙ rw (h (i + k) (omega arith) (omega arith), or-false) (some-stays p i k (λ j l m. h j l (omega arith)))

pub some_more : (p : ℕ → Bool) (i k : ℕ) → some_below p i ≡ true → some_below p (i + k) ≡ true
unfolding some_below
some_more p i zero h = let e : i + 0 ≡ i = omega arith in ap (some_below p) e ∙ h
some_more p i (suc k) h = let e : i + suc k ≡ suc (i + k) = omega arith in ap (some_below p) e ∙ rw (some_more p i k h)

-- where some passes, one can be named
pub some-found : (p : ℕ → Bool) (n : ℕ) → some_below p n ≡ true → (i : ℕ) × (i < n) × (p i ≡ true)
unfolding some_below
some-found p zero e = let z : ◌≡◌ {A = ℕ} 0 1 = cc in absurd (omega arith)
some-found p (suc n) e = go (some-found p n) (p n) refl (some_below p n) refl e
  where
    go : (some_below p n ≡ true → (i : ℕ) × (i < n) × (p i ≡ true)) → (b : Bool) → p n ≡ b → (a : Bool) → some_below p n ≡ a → (a || b) ≡ true
        → (i : ℕ) × (i < suc n) × (p i ≡ true)
    go rec true f a g e = (n, omega arith, f)
    go rec false f true g e = let w = rec g in (w.0, omega (arith, w.1), w.2)
    go rec false f false g e = let z : ◌≡◌ {A = ℕ} 0 1 = cc in absurd (omega arith)
