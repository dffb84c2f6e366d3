-- The numbers of a plate's first line are within n, and the highest finite value is one that occurs and is at least
-- every other.
use Rattle.std.specs.Prelude.{ℕ, zero, suc, ◌≤◌, ◌<◌, ◌≡◌, refl, ◌⊎◌, Bool, true, false, cond, leb}
use Rattle.std.proofs.Math.Decide.{dec_lt}
use Rattle.std.proofs.Common.{arith, sym, ap, ◌∙◌, inl, inr, leb-true, leb-false}
use Rattle.search.specs.Below.{count-bound}
use Rattle.game.specs.Value.{Value, fin, ever, value_eq}
use Rattle.game.specs.FirstLine.{first_of_pair, pair_count, higher, highest, ever_count}
use Rattle.game.proofs.ValueLaws.{fin-is-not-ever}

-- "rounds (.. at most n ..)"
pub pairs-within-size : (value step : ℕ → Value) (n : ℕ) → pair_count value step n ≤ n
unfolding pair_count
pairs-within-size value step n = count-bound (first_of_pair value step) n

pub evers-within-size : (value : ℕ → Value) (n : ℕ) → ever_count value n ≤ n
unfolding ever_count
evers-within-size value n = count-bound (λ v. value_eq (value v) ever) n

-- the higher of two is one of them
higher-is-one : (x y : Value) (k : ℕ) → higher x y ≡ fin k → (x ≡ fin k) ⊎ (y ≡ fin k)
unfolding higher
higher-is-one (fin i) (fin j) k e = go (leb i j) e
  where
    go : (b : Bool) → cond b (fin j) (fin i) ≡ fin k → (◌≡◌ {A = Value} (fin i) (fin k)) ⊎ (◌≡◌ {A = Value} (fin j) (fin k))
    go true e = inr e
    go false e = inl e
higher-is-one (fin i) ever k e = inl e
higher-is-one ever y k e = inr e

-- and at least both, if they are finite
higher-left : (i : ℕ) (y : Value) → (k : ℕ) × (higher (fin i) y ≡ fin k) × (i ≤ k)
unfolding higher
higher-left i (fin j) = go (leb i j) refl
  where
    go : (b : Bool) → leb i j ≡ b → (k : ℕ) × (cond b (fin j) (fin i) ≡ fin k) × (i ≤ k)
    go true e = (j, refl, leb-true i j e)
    go false e = (i, refl, omega arith)
higher-left i ever = (i, refl, omega arith)

higher-right : (x : Value) (j : ℕ) → (k : ℕ) × (higher x (fin j) ≡ fin k) × (j ≤ k)
unfolding higher
higher-right (fin i) j = go (leb i j) refl
  where
    go : (b : Bool) → leb i j ≡ b → (k : ℕ) × (cond b (fin j) (fin i) ≡ fin k) × (j ≤ k)
    go true e = (j, refl, omega arith)
    go false e = (i, refl, let h = leb-false i j e in omega arith)
higher-right ever j = (j, refl, omega arith)

-- "the highest finite value": it is one of the values
pub highest-occurs : (value : ℕ → Value) (n k : ℕ) → highest value n ≡ fin k → (v : ℕ) × (v < n) × (value v ≡ fin k)
unfolding highest
highest-occurs value zero k e = absurd (fin-is-not-ever k (sym e))
highest-occurs value (suc n) k e = go (higher-is-one (highest value n) (value n) k e) (highest-occurs value n k)
  where
    go : (highest value n ≡ fin k) ⊎ (value n ≡ fin k) → (highest value n ≡ fin k → (v : ℕ) × (v < n) × (value v ≡ fin k))
        → (v : ℕ) × (v < suc n) × (value v ≡ fin k)
    go (inl f) below = let r = below f in let h = r.1 in (r.0, omega arith, r.2)
    go (inr f) below = (n, omega arith, f)

-- and no finite value is higher
pub highest-is-greatest : (value : ℕ → Value) (n v j : ℕ) → v < n → value v ≡ fin j → (k : ℕ) × (highest value n ≡ fin k) × (j ≤ k)
unfolding highest
highest-is-greatest value zero v j h e = absurd (omega arith)
highest-is-greatest value (suc n) v j h e = go (dec_lt v n) (highest-is-greatest value n v j)
  where
    go : Dec (v < n) → (v < n → value v ≡ fin j → (k : ℕ) × (highest value n ≡ fin k) × (j ≤ k))
        → (k : ℕ) × (higher (highest value n) (value n) ≡ fin k) × (j ≤ k)
    go (yes l) below =
        let r = below l e in
        let s = higher-left r.0 (value n) in
        let p = r.2 in
        let q = s.2 in
        (s.0, ap (λ (x : Value). higher x (value n)) r.1 ∙ s.1, omega arith)
    go (no g) below =
        let last : v ≡ n = omega arith in
        let r = higher-right (highest value n) j in
        (r.0, ap (higher (highest value n)) (ap value (sym last) ∙ e) ∙ r.1, r.2)
