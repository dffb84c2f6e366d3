-- Laws of values: their order is a total one with `ever` above every number, adding a cost respects it, each test is its
-- relation, and a 16-bit number stands for one value. All by cases.
use Rattle.std.specs.Prelude.{ℕ, zero, suc, ◌+◌, ◌≤◌, ◌<◌, ◌≡◌, refl, ◌⊎◌, ◌↔◌, T, eqb}
use Rattle.std.proofs.Math.Decide.{dec_le, ℕ_discrete}
use Rattle.std.proofs.Common.{arith, sym, ap, subst, inl, inr, leb→le, le→leb, ltb→lt, lt→ltb, eqb→eq}
use Rattle.std.proofs.Math.Dec.{eqb_refl}
use Rattle.game.specs.Value.{Value, fin, ever, ◌≼◌, ◌≺◌, ◌⊕◌, value_le, value_lt, value_eq}

-- the number of a finite value, and that `fin k` and `ever` differ
pub fin-injective : (j k : ℕ) → ◌≡◌ {A = Value} (fin j) (fin k) → j ≡ k
fin-injective j k e = cc

pub fin-is-not-ever : (k : ℕ) → ◌≡◌ {A = Value} (fin k) ever → ⊥
fin-is-not-ever k e = let z : ◌≡◌ {A = ℕ} 0 1 = cc in omega arith

-- the order, case by case
pub fin≼ : (j k : ℕ) → j ≤ k → fin j ≼ fin k
unfolding ◌≼◌
fin≼ j k h = h

pub ≼fin : (j k : ℕ) → fin j ≼ fin k → j ≤ k
unfolding ◌≼◌
≼fin j k h = h

pub fin≺ : (j k : ℕ) → j < k → fin j ≺ fin k
unfolding ◌≺◌
fin≺ j k h = h

pub ≺fin : (j k : ℕ) → fin j ≺ fin k → j < k
unfolding ◌≺◌
≺fin j k h = h

pub ≼ever : (x : Value) → x ≼ ever
unfolding ◌≼◌
≼ever (fin j) = tt
≼ever ever = tt

pub fin≺ever : (k : ℕ) → fin k ≺ ever
unfolding ◌≺◌
fin≺ever k = tt

pub ever≼ : (x : Value) → ever ≼ x → x ≡ ever
unfolding ◌≼◌
ever≼ (fin k) h = absurd h
ever≼ ever h = refl

pub ever⊀ : (x : Value) → ever ≺ x → ⊥
unfolding ◌≺◌
ever⊀ x h = h

pub zero≼ : (x : Value) → fin 0 ≼ x
unfolding ◌≼◌
zero≼ (fin k) = omega arith
zero≼ ever = tt

pub ⊀zero : (x : Value) → x ≺ fin 0 → ⊥
unfolding ◌≺◌
⊀zero (fin j) h = omega arith
⊀zero ever h = h

-- what lies below a number is a number
pub below-is-finite : (x : Value) (k : ℕ) → x ≼ fin k → (j : ℕ) × (x ≡ fin j) × (j ≤ k)
unfolding ◌≼◌
below-is-finite (fin j) k h = (j, refl, h)
below-is-finite ever k h = absurd h

-- what lies strictly below anything is a number
pub smaller-is-finite : (x y : Value) → x ≺ y → (j : ℕ) × (x ≡ fin j)
unfolding ◌≺◌
smaller-is-finite (fin j) y h = (j, refl)
smaller-is-finite ever y h = absurd h

pub ≼refl : (x : Value) → x ≼ x
unfolding ◌≼◌
≼refl (fin k) = omega arith
≼refl ever = tt

pub ≡→≼ : (x y : Value) → x ≡ y → x ≼ y
≡→≼ x y e = subst (λ (z : Value). x ≼ z) e (≼refl x)

pub ≼trans : (x y z : Value) → x ≼ y → y ≼ z → x ≼ z
unfolding ◌≼◌
≼trans (fin i) (fin j) (fin k) p q = omega arith
≼trans (fin i) (fin j) ever p q = tt
≼trans (fin i) ever (fin k) p q = absurd q
≼trans (fin i) ever ever p q = tt
≼trans ever (fin j) z p q = absurd p
≼trans ever ever (fin k) p q = absurd q
≼trans ever ever ever p q = tt

pub ≼antisym : (x y : Value) → x ≼ y → y ≼ x → x ≡ y
unfolding ◌≼◌
≼antisym (fin j) (fin k) p q = ap fin (omega arith)
≼antisym (fin j) ever p q = absurd q
≼antisym ever (fin k) p q = absurd p
≼antisym ever ever p q = refl

-- either way round
pub ≼-or-≺ : (x y : Value) → (x ≼ y) ⊎ (y ≺ x)
unfolding ◌≼◌ ◌≺◌
≼-or-≺ (fin j) (fin k) = go (dec_le j k)
  where
    go : Dec (j ≤ k) → (fin j ≼ fin k) ⊎ (fin k ≺ fin j)
    go (yes h) = inl h
    go (no h) = inr (omega arith)
≼-or-≺ (fin j) ever = inl tt
≼-or-≺ ever (fin k) = inr tt
≼-or-≺ ever ever = inl tt

pub ≺-not-≼ : (x y : Value) → x ≺ y → y ≼ x → ⊥
unfolding ◌≼◌ ◌≺◌
≺-not-≼ (fin j) (fin k) p q = omega arith
≺-not-≼ (fin j) ever p q = q
≺-not-≼ ever y p q = p

pub ≺irrefl : (x : Value) → x ≺ x → ⊥
≺irrefl x h = ≺-not-≼ x x h (≼refl x)

pub ≺→≼ : (x y : Value) → x ≺ y → x ≼ y
unfolding ◌≼◌ ◌≺◌
≺→≼ (fin j) (fin k) h = omega arith
≺→≼ (fin j) ever h = tt
≺→≼ ever y h = absurd h

pub ≼≺trans : (x y z : Value) → x ≼ y → y ≺ z → x ≺ z
≼≺trans x y z p q = go (≼-or-≺ z x)
  where
    go : (z ≼ x) ⊎ (x ≺ z) → x ≺ z
    go (inl r) = absurd (≺-not-≼ y z q (≼trans z x y r p))
    go (inr r) = r

pub ≺≼trans : (x y z : Value) → x ≺ y → y ≼ z → x ≺ z
≺≼trans x y z p q = go (≼-or-≺ z x)
  where
    go : (z ≼ x) ⊎ (x ≺ z) → x ≺ z
    go (inl r) = absurd (≺-not-≼ x y p (≼trans y z x q r))
    go (inr r) = r

pub ≺trans : (x y z : Value) → x ≺ y → y ≺ z → x ≺ z
≺trans x y z p q = ≺≼trans x y z p (≺→≼ y z q)

-- at most is smaller or equal
pub ≼-split : (x y : Value) → x ≼ y → (x ≺ y) ⊎ (x ≡ y)
≼-split x y h = go (≼-or-≺ y x)
  where
    go : (y ≼ x) ⊎ (x ≺ y) → (x ≺ y) ⊎ (x ≡ y)
    go (inl r) = inr (≼antisym x y h r)
    go (inr r) = inl r

-- below k + 1 is at most k, and what is smaller still is below k
pub ≺-suc : (x : Value) (k : ℕ) → x ≺ fin (suc k) → x ≼ fin k
unfolding ◌≺◌ ◌≼◌
≺-suc (fin j) k h = omega arith
≺-suc ever k h = absurd h

pub ≺-below-suc : (x y : Value) (k : ℕ) → x ≺ y → y ≺ fin (suc k) → x ≺ fin k
unfolding ◌≺◌
≺-below-suc (fin i) (fin j) k p q = omega arith
≺-below-suc (fin i) ever k p q = absurd q
≺-below-suc ever y k p q = absurd p

-- decisions
pub value_decide : (x y : Value) → Dec (x ≡ y)
value_decide (fin j) (fin k) = go (ℕ_discrete j k)
  where
    go : Dec (j ≡ k) → Dec (◌≡◌ {A = Value} (fin j) (fin k))
    go (yes e) = yes (ap fin e)
    go (no n) = no (λ e. n (fin-injective j k e))
value_decide (fin j) ever = no (fin-is-not-ever j)
value_decide ever (fin k) = no (λ e. fin-is-not-ever k (sym e))
value_decide ever ever = yes refl

-- adding a cost
pub ⊕fin : (k c : ℕ) → fin k ⊕ c ≡ fin (k + c)
unfolding ◌⊕◌
⊕fin k c = refl

pub ⊕ever : (c : ℕ) → ever ⊕ c ≡ ever
unfolding ◌⊕◌
⊕ever c = refl

pub ⊕zero : (x : Value) → x ⊕ 0 ≡ x
unfolding ◌⊕◌
⊕zero (fin k) = ap fin (omega arith)
⊕zero ever = refl

pub ⊕assoc : (x : Value) (b c : ℕ) → x ⊕ b ⊕ c ≡ x ⊕ (b + c)
unfolding ◌⊕◌
⊕assoc (fin k) b c = ap fin (omega arith)
⊕assoc ever b c = refl

pub ⊕swap : (x : Value) (b c : ℕ) → x ⊕ b ⊕ c ≡ x ⊕ c ⊕ b
unfolding ◌⊕◌
⊕swap (fin k) b c = ap fin (omega arith)
⊕swap ever b c = refl

pub ⊕mono : (x y : Value) (b c : ℕ) → x ≼ y → b ≤ c → x ⊕ b ≼ y ⊕ c
unfolding ◌≼◌ ◌⊕◌
⊕mono (fin j) (fin k) b c p q = omega arith
⊕mono (fin j) ever b c p q = tt
⊕mono ever (fin k) b c p q = absurd p
⊕mono ever ever b c p q = tt

pub ⊕cancel : (x y : Value) (c : ℕ) → x ⊕ c ≼ y ⊕ c → x ≼ y
unfolding ◌≼◌ ◌⊕◌
⊕cancel (fin j) (fin k) c p = omega arith
⊕cancel (fin j) ever c p = tt
⊕cancel ever (fin k) c p = absurd p
⊕cancel ever ever c p = tt

pub ⊕grows : (x : Value) (c : ℕ) → x ≼ x ⊕ c
unfolding ◌≼◌ ◌⊕◌
⊕grows (fin k) c = omega arith
⊕grows ever c = tt

-- bounds with costs, one after the other
pub ⊕≼trans : (x y z : Value) (b c : ℕ) → x ≼ y ⊕ b → y ≼ z ⊕ c → x ≼ z ⊕ (b + c)
⊕≼trans x y z b c p q = ≼trans x (y ⊕ b) (z ⊕ (b + c)) p (rw (⊕swap z c b, ⊕assoc z b c) at (⊕mono y (z ⊕ c) b b q (omega arith)))

pub ≼⊕trans : (x y z : Value) (b c : ℕ) → x ⊕ b ≼ y → y ⊕ c ≼ z → x ⊕ (c + b) ≼ z
≼⊕trans x y z b c p q = ≼trans (x ⊕ (c + b)) (y ⊕ c) z (rw (⊕swap x b c, ⊕assoc x c b) at (⊕mono (x ⊕ b) y c c p (omega arith))) q

-- a sum that is finite has a finite part
pub ⊕below : (x : Value) (c k : ℕ) → x ⊕ c ≼ fin k → (j : ℕ) × (x ≡ fin j) × (j + c ≤ k)
unfolding ◌≼◌ ◌⊕◌
⊕below (fin j) c k h = (j, refl, h)
⊕below ever c k h = absurd h

-- adding something to a part of a finite sum
pub ⊕≺ : (x : Value) (c k : ℕ) → 0 < c → x ⊕ c ≼ fin k → x ≺ fin k
unfolding ◌≼◌ ◌≺◌ ◌⊕◌
⊕≺ (fin j) c k p h = omega arith
⊕≺ ever c k p h = absurd h

-- The certificate's orders are document 01's. "At least this value less one ("ever" less one is "ever")":
unfoldable pub less_one : Value → Value
less_one (fin zero) = fin 0
less_one (fin (suc k)) = fin k
less_one ever = ever

pub at-least-less-one : (x y : Value) → (x ≼ y ⊕ 1) ↔ (less_one x ≼ y)
unfolding ◌≼◌ ◌⊕◌ less_one
at-least-less-one (fin zero) (fin k) = (λ h. omega arith, λ h. omega arith)
at-least-less-one (fin (suc j)) (fin k) = (λ h. omega arith, λ h. omega arith)
at-least-less-one (fin zero) ever = (λ h. tt, λ h. tt)
at-least-less-one (fin (suc j)) ever = (λ h. tt, λ h. tt)
at-least-less-one ever (fin k) = (λ h. h, λ h. h)
at-least-less-one ever ever = (λ h. tt, λ h. tt)

-- "a smaller value", than a finite one
pub smaller : (x : Value) (k : ℕ) → (x ⊕ 1 ≼ fin k) ↔ (x ≺ fin k)
unfolding ◌≼◌ ◌≺◌ ◌⊕◌
smaller (fin j) k = (λ h. omega arith, λ h. omega arith)
smaller ever k = (λ h. h, λ h. h)

-- the tests are the relations
pub value_le-sound : (x y : Value) → T (value_le x y) ↔ (x ≼ y)
unfolding ◌≼◌ value_le
value_le-sound (fin j) (fin k) = (leb→le j k, le→leb j k)
value_le-sound (fin j) ever = (λ h. tt, λ h. tt)
value_le-sound ever (fin k) = (λ h. h, λ h. h)
value_le-sound ever ever = (λ h. tt, λ h. tt)

pub value_lt-sound : (x y : Value) → T (value_lt x y) ↔ (x ≺ y)
unfolding ◌≺◌ value_lt
value_lt-sound (fin j) (fin k) = (ltb→lt j k, lt→ltb j k)
value_lt-sound (fin j) ever = (λ h. tt, λ h. tt)
value_lt-sound ever y = (λ h. h, λ h. h)

pub value_eq-sound : (x y : Value) → T (value_eq x y) ↔ (x ≡ y)
unfolding value_eq
value_eq-sound (fin j) (fin k) = (λ h. ap fin (eqb→eq j k h), λ e. subst (λ (i : ℕ). T (eqb j i)) (fin-injective j k e) (eqb_refl j))
value_eq-sound (fin j) ever = (λ h. absurd h, λ e. fin-is-not-ever j e)
value_eq-sound ever (fin k) = (λ h. absurd h, λ e. fin-is-not-ever k (sym e))
value_eq-sound ever ever = (λ h. refl, λ e. tt)
