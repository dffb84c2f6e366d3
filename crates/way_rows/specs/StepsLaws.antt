-- Pointing goes move by move and following step by step: laws for the start, for a turn and for the end.
use Rattle.std.specs.Prelude.{ℕ, zero, suc, ◌+◌, ◌-◌, ◌≤◌, ◌<◌, ◌≡◌, refl, ◌⊎◌, Bool, true, false, ◌&&◌, List, length, set, ltb}
use Rattle.std.proofs.Common.{arith, add-one, sym, subst, ◌∙◌, inl, inr, get_or-set_same, get_or-set_other, below_more, ltb-true, ltb-false}
use Rattle.std.proofs.Math.Decide.{ℕ_discrete}
use Rattle.std.proofs.Math.ListN.{get_or}
use Rattle.rows.specs.Rows.{RowIs}
use Rattle.rows.specs.Filling.{set_if}
use Rattle.way_rows.specs.Steps.{shortens, PointedBy, Pointed, LeadsOn, stop, fell, Followed}

-- The row of next positions

module _ {n : ℕ} {froms tos left : List ℕ} where
  pub pointed-none : {next : List ℕ} → RowIs next n (λ v. 65535) → Pointed n froms tos left 0 next
  pointed-none clear = record { none-lower = λ j l h. absurd (omega arith); some = λ v l. inl (clear v l) }

  pub pointed-all : {i m : ℕ} {next : List ℕ} → i ≡ m → Pointed n froms tos left i next → Pointed n froms tos left m next
  pointed-all {next = next} e h = subst (λ (j : ℕ). Pointed n froms tos left j next) e h

  module _ {i : ℕ} {next : List ℕ} (h : Pointed n froms tos left i next) where
    -- a move that shortens the way to a lower position than the lowest so far
    lower-found : get_or froms i 0 < length next → shortens froms tos left i ≡ true → get_or tos i 0 < get_or next (get_or froms i 0) 0
        → Pointed n froms tos left (i + 1) (set next (get_or froms i 0) (get_or tos i 0))
    lower-found room short less = record { none-lower = λ j l s. low j s (ℕ_discrete j i) (ℕ_discrete (get_or froms j 0) (get_or froms i 0)) l; some = λ v l. one v (ℕ_discrete v (get_or froms i 0)) (h.some v l) }
      where
        f : ℕ
        f = get_or froms i 0

        new : List ℕ
        new = set next (get_or froms i 0) (get_or tos i 0)

        here : get_or new (get_or froms i 0) 0 ≡ get_or tos i 0
        here = get_or-set_same next (get_or froms i 0) (get_or tos i 0) 0 room

        other : (v : ℕ) → (v ≡ get_or froms i 0 → ⊥) → get_or new v 0 ≡ get_or next v 0
        other v z = get_or-set_other next (get_or froms i 0) v (get_or tos i 0) 0 z

        low : (j : ℕ) → shortens froms tos left j ≡ true → Dec (j ≡ i) → Dec (get_or froms j 0 ≡ get_or froms i 0) → j < i + 1 → get_or new (get_or froms j 0) 0 ≤ get_or tos j 0
        low j s (yes z) d l = rw (z, here) (omega arith)
        low j s (no z) (yes e) l = rw (e, here) (let k = rw e at (h.none-lower j (omega arith) s) in omega arith)
        low j s (no z) (no e) l = rw (other (get_or froms j 0) e) (h.none-lower j (omega arith) s)

        one : (v : ℕ) → Dec (v ≡ get_or froms i 0) → (get_or next v 0 ≡ 65535) ⊎ ((j : ℕ) × (j < i) × PointedBy froms tos left next v j)
            → (get_or new v 0 ≡ 65535) ⊎ ((j : ℕ) × (j < i + 1) × PointedBy froms tos left new v j)
        one v (yes z) before = inr (i, omega arith, record { leaves = sym z; shorter = short; named = rw z here })
        one v (no z) (inl e) = inl (other v z ∙ e)
        one v (no z) (inr (j, l, p)) = inr (j, omega arith, record { leaves = p.leaves; shorter = p.shorter; named = other v z ∙ p.named })

    -- any other move
    nothing-found : (shortens froms tos left i ≡ true → get_or next (get_or froms i 0) 0 ≤ get_or tos i 0) → Pointed n froms tos left (i + 1) next
    nothing-found high = record { none-lower = λ j l s. low j s (ℕ_discrete j i) l; some = λ v l. one v (h.some v l) }
      where
        low : (j : ℕ) → shortens froms tos left j ≡ true → Dec (j ≡ i) → j < i + 1 → get_or next (get_or froms j 0) 0 ≤ get_or tos j 0
        low j s (yes z) l = rw z (high (rw z at s))
        low j s (no z) l = h.none-lower j (omega arith) s

        one : (v : ℕ) → (get_or next v 0 ≡ 65535) ⊎ ((j : ℕ) × (j < i) × PointedBy froms tos left next v j) → (get_or next v 0 ≡ 65535) ⊎ ((j : ℕ) × (j < i + 1) × PointedBy froms tos left next v j)
        one v (inl e) = inl e
        one v (inr (j, l, p)) = inr (j, omega arith, p)

    pub pointed-next : get_or froms i 0 < length next
        → Pointed n froms tos left (i + 1) (set_if (shortens froms tos left i && ltb (get_or tos i 0) (get_or next (get_or froms i 0) 0)) (get_or froms i 0) (get_or tos i 0) next)
    pointed-next room = go (shortens froms tos left i) (ltb (get_or tos i 0) (get_or next (get_or froms i 0) 0)) refl refl
      where
        go : (b c : Bool) → shortens froms tos left i ≡ b → ltb (get_or tos i 0) (get_or next (get_or froms i 0) 0) ≡ c
            → Pointed n froms tos left (i + 1) (set_if (b && c) (get_or froms i 0) (get_or tos i 0) next)
        go true true s less = lower-found room s (ltb-true _ _ less)
        go true false s high = nothing-found (λ e. ltb-false _ _ high)
        go false c s less = nothing-found (λ e. absurd (let z : ◌≡◌ {A = ℕ} 0 1 = cc in omega arith))

-- Following it

-- after i steps: where one stands, with i moves fewer left, and what was noted
pub record Following (n start : ℕ) (worths left next positions led : List ℕ) (here i : ℕ) : Type 0 where
  pub at : here ≡ stop next start i
  pub inside : here < n
  pub rest : get_or left here 0 + i ≡ get_or left start 0
  pub position : RowIs positions (i + 1) (stop next start)
  pub leads : RowIs led (i + 1) (fell worths next start)

-- one number more of a row
row_more : (f : ℕ → ℕ) (row : List ℕ) (i x : ℕ) → RowIs row i f → i < length row → x ≡ f i → RowIs (set row i x) (i + 1) f
row_more f row i x h l e =
    below_more (λ (j : ℕ). get_or (set row i x) j 0 ≡ f j) i (λ j k. get_or-set_other row i j x 0 (λ z. omega arith) ∙ h j k) (get_or-set_same row i x 0 l ∙ e)

module _ {n start : ℕ} {worths left next : List ℕ} where
  pub following-none : (positions led : List ℕ) → start < n → 0 < length positions → 0 < length led → Following n start worths left next (set positions 0 start) (set led 0 0) start 0
  unfolding stop fell
  following-none positions led l p q = record {
    at = refl;
    inside = l;
    rest = omega arith;
    position = row_more (stop next start) positions 0 start (λ j k. absurd (omega arith)) p refl;
    leads = row_more (fell worths next start) led 0 0 (λ j k. absurd (omega arith)) q refl;
  }

  module _ {positions led : List ℕ} {here i : ℕ} (on : LeadsOn n worths left next) (h : Following n start worths left next positions led here i) (few : get_or left start 0 < n) (more : i < get_or left start 0) where
    k : ℕ
    k = get_or left here 0 - 1

    some_left : get_or left here 0 ≡ suc k
    unfolding k
    some_left = omega (arith, h.rest)

    fewer : suc k < n
    fewer = omega (arith, h.rest, some_left)

    pub next-inside : get_or next here 0 < n
    next-inside = on.inside here k h.inside fewer some_left

    pub next-no-higher : get_or worths (get_or next here 0) 0 ≤ get_or worths here 0
    next-no-higher = on.no-higher here k h.inside fewer some_left

    pub following-next : i + 1 < length positions → i + 1 < length led
        → Following n start worths left next (set positions (i + 1) (get_or next here 0)) (set led (i + 1) (get_or worths here 0 - get_or worths (get_or next here 0) 0)) (get_or next here 0) (i + 1)
    unfolding k stop fell
    following-next p q = record {
      at = rw (add-one, h.at);
      inside = next-inside;
      rest = let e = on.shorter here k h.inside fewer some_left in omega (arith, h.rest, some_left);
      position = row_more (stop next start) positions (i + 1) (get_or next here 0) h.position p (rw (add-one, h.at));
      leads = row_more (fell worths next start) led (i + 1) (get_or worths here 0 - get_or worths (get_or next here 0) 0) h.leads q (rw (add-one, h.at));
    }

  pub followed : {positions led : List ℕ} {here i : ℕ} → Following n start worths left next positions led here i → i ≡ get_or left start 0 → Followed start worths left next positions led (get_or left start 0 + 1)
  followed h e = record { counted = refl; position = rw e at h.position; leads = rw e at h.leads }

-- every stop is a position, while moves are left
pub stops-inside : {n start : ℕ} {worths left next : List ℕ} → LeadsOn n worths left next → start < n → get_or left start 0 < n
    → (i : ℕ) → i ≤ get_or left start 0 → (stop next start i < n) × (get_or left (stop next start i) 0 + i ≡ get_or left start 0)
unfolding stop
stops-inside on l few zero h = (l, omega arith)
stops-inside {n} {start} {worths} {left} {next} on l few (suc i) h =
    let before = stops-inside on l few i (omega arith) in
    let u = stop next start i in
    let k = get_or left u 0 - 1 in
    let some : get_or left u 0 ≡ suc k = omega (arith, before.1) in
    (on.inside u k before.0 (omega (arith, before.1)) some, let e = on.shorter u k before.0 (omega (arith, before.1)) some in omega (arith, before.1))
