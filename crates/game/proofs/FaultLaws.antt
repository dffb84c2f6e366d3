-- The computed fault is the first condition that fails, and none fails exactly where the position is certified. The tests
-- are taken in order: each holds, or it is the first that doesn't.
use Prim.Native.Nat.{ℕ, zero, suc, ◌≤◌, ◌<◌}
use Rattle.std.proofs.Math.Decide.{dec_lt, dec_le}
use Rattle.std.proofs.Common.{arith, sym, subst}
use Rattle.std.specs.Prelude.{◌≡◌, refl, ◌↔◌, Bool, true, false, cond, not, T}
use Rattle.std.proofs.Math.ListN.{get_or-eq_default}
use Rattle.game.specs.Value.{Value}
use Rattle.game.specs.Arena.{Arena, owner_at}
use Rattle.game.specs.Certificate.{CertifiedAt}
use Rattle.game.specs.Fault.{unsafe_zero, dashed, legal_as, holds, ruined, fault_at}
use Rattle.game.specs.FirstFault.{conditions, Condition, FirstFault}
use Rattle.game.proofs.ConditionTests.{unsafe-zero-test, dash-test, legal-test, holding-test, ruin-test}

module _ (a : Arena) (value choice step : ℕ → Value) where
  -- one more condition holds, or it is the first that fails
  next : (v i rest : ℕ) (b : Bool) → ((j : ℕ) → j < suc i → Condition a value choice step j v) → T b ↔ Condition a value choice step (suc i) v
      → (((j : ℕ) → j < suc (suc i) → Condition a value choice step j v) → FirstFault a value choice step rest v)
      → FirstFault a value choice step (cond (not b) (suc i) rest) v
  next v i rest true below c more = more one_more
    where
      one_more : (j : ℕ) → j < suc (suc i) → Condition a value choice step j v
      one_more j h = go (dec_lt j (suc i))
        where
          go : Dec (j < suc i) → Condition a value choice step j v
          go (yes l) = below j l
          go (no g) = let e : suc i ≡ j = omega arith in subst (λ (x : ℕ). Condition a value choice step x v) e (c.0 tt)
  next v i rest false below c more = (below, c.1)

  -- there is no condition past 5
  past-five : (v j : ℕ) → 5 < j → Condition a value choice step j v
  past-five v j h = subst (λ (C : Type 0). C) (sym (get_or-eq_default (conditions a value choice step v) (Unit {0}) {n = j} (omega arith))) tt

  fault-is-first : (v : ℕ) → FirstFault a value choice step (fault_at a value choice step v) v
  unfolding fault_at
  fault-is-first v =
      next v 0 _ (unsafe_zero a value choice step v) none (unsafe-zero-test a value choice step v) λ p1.
      next v 1 _ (dashed a value choice step v) p1 (dash-test a value choice step v) λ p2.
      next v 2 _ (legal_as a value choice step (owner_at a v) v) p2 (legal-test a value choice step (owner_at a v) v) λ p3.
      next v 3 _ (holds a value choice step v) p3 (holding-test a value choice step v (p3 3 (omega arith))) λ p4.
      next v 4 0 (ruined a value choice step v) p4 (ruin-test a value choice step v) λ p5 j. go j p5 (dec_lt j 6)
    where
      none : (j : ℕ) → j < 1 → Condition a value choice step j v
      none zero h = tt
      none (suc j) h = absurd (omega arith)

      go : (j : ℕ) → ((i : ℕ) → i < 6 → Condition a value choice step i v) → Dec (j < 6) → Condition a value choice step j v
      go j p5 (yes l) = p5 j l
      go j p5 (no g) = past-five v j (omega arith)

  first-fault-is-unique : (v i j : ℕ) → FirstFault a value choice step i v → FirstFault a value choice step j v → i ≡ j
  first-fault-is-unique v zero zero p q = refl
  first-fault-is-unique v zero (suc j) p q = absurd (q.1 (p (suc j)))
  first-fault-is-unique v (suc i) zero p q = absurd (p.1 (q (suc i)))
  first-fault-is-unique v (suc i) (suc j) p q = go (dec_lt i j) (dec_lt j i)
    where
      go : Dec (i < j) → Dec (j < i) → suc i ≡ suc j
      go (yes l) d = absurd (p.1 (q.0 (suc i) (omega arith)))
      go (no g) (yes l) = absurd (q.1 (p.0 (suc j) (omega arith)))
      go (no g) (no g') = omega arith

  -- the computed fault is i exactly when condition i is the first that fails
  pub fault-exactly : (v i : ℕ) → (fault_at a value choice step v ≡ i) ↔ FirstFault a value choice step i v
  fault-exactly v i = (
    λ e. subst (λ (x : ℕ). FirstFault a value choice step x v) e (fault-is-first v),
    λ f. first-fault-is-unique v (fault_at a value choice step v) i (fault-is-first v) f,
  )

  -- and 0 exactly when the position is certified
  pub no-fault-exactly : (v : ℕ) → (fault_at a value choice step v ≡ 0) ↔ CertifiedAt a value choice step v
  no-fault-exactly v = (λ e. certified ((fault-exactly v 0).0 e), λ c. (fault-exactly v 0).1 (all c))
    where
      certified : FirstFault a value choice step 0 v → CertifiedAt a value choice step v
      certified f = record { unsafe-zero = f 1; dash = f 2; legal = f 3; holding = f 4; ruin = f 5 }

      all : CertifiedAt a value choice step v → (j : ℕ) → Condition a value choice step j v
      all c zero = tt
      all c (suc zero) = c.unsafe-zero
      all c (suc (suc zero)) = c.dash
      all c (suc (suc (suc zero))) = c.legal
      all c (suc (suc (suc (suc zero)))) = c.holding
      all c (suc (suc (suc (suc (suc zero))))) = c.ruin
      all c (suc (suc (suc (suc (suc (suc j)))))) = tt

  pub fault-within-five : (v : ℕ) → fault_at a value choice step v ≤ 5
  fault-within-five v = go (fault_at a value choice step v) (fault-is-first v)
    where
      go : (i : ℕ) → FirstFault a value choice step i v → i ≤ 5
      go zero f = omega arith
      go (suc i) f = low (dec_le (suc i) 5)
        where
          low : Dec (suc i ≤ 5) → suc i ≤ 5
          low (yes l) = l
          low (no g) = absurd (f.1 (past-five v (suc i) (omega arith)))
