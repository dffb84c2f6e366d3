-- A set and its number: each number below 2 to the k is that of one set of targets below k. By the first target apart from the others: it is
-- the number's remainder by 2, and the others are the half.
use Rattle.std.specs.Prelude.{ℕ, zero, suc, ◌+◌, ◌*◌, ◌/◌, ◌%◌, ◌^◌, ◌≤◌, ◌<◌, ◌≡◌, refl, Bool, true, false, eqb}
use Rattle.std.proofs.Common.{arith, sym, ap, ap₂, ◌∙◌, true≢false, eqb-true}
use Rattle.std.proofs.Math.Nat.{two-pow-succ}
use Rattle.std.proofs.lemmas.Bool.{eqb-false}
use Rattle.search.specs.Below.{bit, bit_le, bit-one, some_below, some-hit, some-found}
use Rattle.numbering.specs.Numbering.{set_number}
use Rattle.numbering.specs.Squares.{in_set}

-- tests that agree below k
pub set_same : (p q : ℕ → Bool) (k : ℕ) → ((w : ℕ) → w < k → p w ≡ q w) → set_number p k ≡ set_number q k
unfolding set_number
set_same p q zero h = refl
set_same p q (suc k) h = ap₂ (λ (x : ℕ) (b : Bool). x + bit b * 2 ^ k) (set_same p q k (λ w l. h w (omega arith))) (h k (omega arith))

pub set-none : (p : ℕ → Bool) (k : ℕ) → ((w : ℕ) → w < k → p w ≡ false) → set_number p k ≡ 0
unfolding set_number
set-none p zero h = refl
set-none p (suc k) h = rw (set-none p k (λ w l. h w (omega arith)), h k (omega arith)) (omega arith)

-- targets from k on that are not in it add nothing
pub set-stays : (p : ℕ → Bool) (k j : ℕ) → ((w : ℕ) → k ≤ w → w < k + j → p w ≡ false) → set_number p (k + j) ≡ set_number p k
unfolding set_number
set-stays p k zero h = let e : k + 0 ≡ k = omega arith in ap (set_number p) e
set-stays p k (suc j) h =
    let e : k + suc j ≡ suc (k + j) = omega arith in
    ap (set_number p) e ∙ rw (h (k + j) (omega arith) (omega arith)) (let rest = set-stays p k j (λ w l m. h w l (omega arith)) in omega arith)

pub set-bound : (p : ℕ → Bool) (k : ℕ) → set_number p k < 2 ^ k
unfolding set_number
set-bound p zero = omega arith
set-bound p (suc k) = go (p k) (set-bound p k)
  where
    go : (b : Bool) → set_number p k < 2 ^ k → set_number p k + bit b * 2 ^ k < 2 ^ suc k
    go true h = omega (arith, two-pow-succ k)
    go false h = omega (arith, two-pow-succ k)

-- 0 is the empty set
pub zero-has-none : (w : ℕ) → in_set 0 w ≡ false
unfolding in_set
zero-has-none zero = refl
zero-has-none (suc w) = zero-has-none w

-- the first target apart from the others
set_front : (p : ℕ → Bool) (k : ℕ) → set_number p (suc k) ≡ bit (p 0) + 2 * set_number (λ w. p (suc w)) k
unfolding set_number
set_front p zero = omega arith
set_front p (suc k) = go (p (suc k)) (set_front p k)
  where
    go : (b : Bool) → set_number p (suc k) ≡ bit (p 0) + 2 * set_number (λ w. p (suc w)) k
        → set_number p (suc k) + bit b * 2 ^ suc k ≡ bit (p 0) + 2 * (set_number (λ w. p (suc w)) k + bit b * 2 ^ k)
    go true h = omega (arith, two-pow-succ k)
    go false h = omega arith

-- the targets of a set's number are the set's
pub in-set : (p : ℕ → Bool) (k w : ℕ) → w < k → in_set (set_number p k) w ≡ p w
unfolding in_set
in-set p zero w l = absurd (omega arith)
in-set p (suc k) zero l =
    let odd : set_number p (suc k) % 2 ≡ bit (p 0) = omega (arith, set_front p k, bit_le (p 0)) in
    ap (λ (x : ℕ). eqb x 1) odd ∙ bit-one (p 0)
in-set p (suc k) (suc w) l =
    let half : set_number p (suc k) / 2 ≡ set_number (λ u. p (suc u)) k = omega (arith, set_front p k, bit_le (p 0)) in
    ap (λ (x : ℕ). in_set x w) half ∙ in-set (λ u. p (suc u)) k w (omega arith)

-- and the number of a number's targets is that number
pub set-again : (k s : ℕ) → s < 2 ^ k → set_number (in_set s) k ≡ s
unfolding in_set
set-again zero s l = let none : set_number (in_set s) 0 ≡ 0 = set-none (in_set s) 0 (λ w h. absurd (omega arith)) in omega (arith, none)
set-again (suc k) s l =
    let rest = set-again k (s / 2) (omega (arith, two-pow-succ k)) in
    let first = odd (eqb (s % 2) 1) refl in
    set_front (in_set s) k ∙ omega (arith, rest, first)
  where
    odd : (b : Bool) → eqb (s % 2) 1 ≡ b → bit (eqb (s % 2) 1) ≡ s % 2
    odd true e = rw e (omega (arith, eqb-true (s % 2) 1 e))
    odd false e = rw e (let h = eqb-false (s % 2) 1 e in omega arith)

-- a set that is not empty has a target, and one that has a target is not empty
pub set-target : (k s : ℕ) → 1 ≤ s → s < 2 ^ k → (w : ℕ) × (w < k) × (in_set s w ≡ true)
set-target k s h l = some-found (in_set s) k (go (some_below (in_set s) k) refl)
  where
    fails : some_below (in_set s) k ≡ false → (w : ℕ) → w < k → (b : Bool) → in_set s w ≡ b → in_set s w ≡ false
    fails e w m true f = absurd (true≢false (sym (some-hit (in_set s) k w m f) ∙ e))
    fails e w m false f = f

    go : (b : Bool) → some_below (in_set s) k ≡ b → some_below (in_set s) k ≡ true
    go true e = e
    go false e = absurd (let none = set-none (in_set s) k (λ w m. fails e w m (in_set s w) refl) in let same = set-again k s l in omega arith)

pub set-some : (p : ℕ → Bool) (k w : ℕ) → w < k → p w ≡ true → 1 ≤ set_number p k
set-some p k w l e = go (set_number p k) refl
  where
    go : (x : ℕ) → set_number p k ≡ x → 1 ≤ set_number p k
    go zero z = absurd (true≢false (sym e ∙ sym (in-set p k w l) ∙ ap (λ (x : ℕ). in_set x w) z ∙ zero-has-none w))
    go (suc x) z = omega arith
