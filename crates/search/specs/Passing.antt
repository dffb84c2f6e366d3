-- The numbers below a bound that pass a test, in their order: a law for one number more, how many they are, and that each is below the
-- bound.
use Rattle.std.specs.Prelude.{ℕ, zero, suc, ◌+◌, ◌≤◌, ◌<◌, ◌≡◌, refl, Bool, true, false, cond, List, [], ◌∷◌, ◌++◌, length, get_or}
use Rattle.std.proofs.Common.{add-one, arith, ap, append-nil, length-append}
use Rattle.std.proofs.Math.Decide.{ℕ_discrete}
use Rattle.std.proofs.Math.ListN.{get_or-append}
use Rattle.std.proofs.Math.Seq.{get_or-append_seam}
use Rattle.search.specs.Below.{bit, bit_le}

-- the numbers below i that pass the test, in order
unfoldable pub passing : (ℕ → Bool) → ℕ → List ℕ
passing q zero = []
passing q (suc i) = passing q i ++ cond (q i) (i ∷ []) []

-- one number more
pub passing-next : (q : ℕ → Bool) (i : ℕ) → passing q (i + 1) ≡ passing q i ++ cond (q i) (i ∷ []) []
unfolding passing
passing-next q i = rw add-one

pub passing-count : (q : ℕ → Bool) (i : ℕ) → length (passing q (i + 1)) ≡ length (passing q i) + bit (q i)
passing-count q i = rw (passing-next q i, length-append (passing q i) (cond (q i) (i ∷ []) [])) (ap (λ (x : ℕ). length (passing q i) + x) (go (q i)))
  where
    go : (b : Bool) → length {A = ℕ} (cond b (i ∷ []) []) ≡ bit b
    go true = refl
    go false = refl

pub passing-length : (q : ℕ → Bool) (i : ℕ) → length (passing q i) ≤ i
unfolding passing
passing-length q zero = omega arith
passing-length q (suc i) =
    let b = bit_le (q i) in
    let h = passing-length q i in
    let e = rw add-one at (passing-count q i) in
    omega arith

-- each is below the bound
pub passing-below : (q : ℕ → Bool) (i j : ℕ) → j < length (passing q i) → get_or (passing q i) j 0 < i
unfolding passing
passing-below q zero j l = absurd (omega arith)
passing-below q (suc i) j l = go (q i) l (passing-below q i j)
  where
    k : ℕ
    k = length (passing q i)

    go : (b : Bool) → j < length (passing q i ++ cond b (i ∷ []) []) → (j < k → get_or (passing q i) j 0 < i) → get_or (passing q i ++ cond b (i ∷ []) []) j 0 < suc i
    go false l rec = rw (append-nil (passing q i)) (let h = rec (rw (append-nil (passing q i)) at l) in omega arith)
    go true l rec = here (ℕ_discrete j k)
      where
        here : Dec (j ≡ k) → get_or (passing q i ++ (i ∷ [])) j 0 < suc i
        here (yes z) = rw (z, get_or-append_seam (passing q i) i [] 0) (omega arith)
        here (no z) =
            let f = length-append (passing q i) (i ∷ []) in
            let m : j < k = omega arith in
            rw (get_or-append (passing q i) (i ∷ []) 0 j m) (let h = rec m in omega arith)
