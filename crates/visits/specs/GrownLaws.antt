-- Positions are placed one after the other: nothing placed yet, one more, and one part after another.
use Rattle.std.specs.Prelude.{ℕ, ◌+◌, ◌≤◌, ◌<◌, ◌≡◌, refl, ◌⊎◌, Bool, true, false, not, List, length, get_or, set, eqb}
use Rattle.std.proofs.Common.{arith, sym, ap, ◌∙◌, inl, inr, get_or-set_same, get_or-set_other, ne_eqb, eqb-true}
use Rattle.std.proofs.Math.Decide.{ℕ_discrete, dec_lt}
use Rattle.search.specs.Below.{bit}
use Rattle.rows.specs.Numbers.{free}
use Rattle.rows.specs.Filling.{set_if, set_if-stays}
use Rattle.visits.specs.Lists.{Listed, listed-push, listed-room}
use Rattle.visits.specs.Steps.{Put}
use Rattle.visits.specs.Standing.{Newly, Grown}

-- a number is not both a value and none
pub not-both : {b : Bool} → b ≡ true → b ≡ false → ⊥
not-both e f = let z : ◌≡◌ {A = Bool} true false = sym e ∙ f in let y : ◌≡◌ {A = ℕ} 0 1 = cc in omega arith

pub grown-none : (n k s : ℕ) (because : ℕ → Type 0) (tail : ℕ) (values steps order : List ℕ) → Grown n k s because tail values steps order tail values steps order
grown-none n k s because tail values steps order = record {
  at = λ v l. inl (refl, refl);
  values-stay = λ j l. refl;
  steps-stay = λ j l. refl;
  order-kept = λ i l. refl;
  longer = omega arith;
  fresh = λ i l m. absurd (omega arith);
}

-- one part after another, with a reason that both have
module _ {n k s : ℕ} {p q : ℕ → Type 0} {tail tail' tail'' : ℕ} {values steps order values' steps' order' values'' steps'' order'' : List ℕ} where
  pub grown-then : (r : ℕ → Type 0) → k < 65535 → ((v : ℕ) → v < n → p v → r v) → ((v : ℕ) → v < n → q v → r v)
      → Grown n k s p tail values steps order tail' values' steps' order' → Grown n k s q tail' values' steps' order' tail'' values'' steps'' order''
      → Grown n k s r tail values steps order tail'' values'' steps'' order''
  grown-then r small left right one two = record {
    at = λ v l. both v l (one.at v l) (two.at v l);
    values-stay = λ j l. two.values-stay j l ∙ one.values-stay j l;
    steps-stay = λ j l. two.steps-stay j l ∙ one.steps-stay j l;
    order-kept = λ i l. two.order-kept i (let m = one.longer in omega arith) ∙ one.order-kept i l;
    longer = let a = one.longer in let b = two.longer in omega arith;
    fresh = λ i l m. late i l m (dec_lt i tail');
  }
    where
      placed : (v : ℕ) → get_or values' v 0 ≡ k → free values' v ≡ true → ⊥
      placed v e f = let z = eqb-true (get_or values' v 0) 65535 f in omega arith

      both : (v : ℕ) → v < n → ((get_or values' v 0 ≡ get_or values v 0) × (get_or steps' v 0 ≡ get_or steps v 0)) ⊎ Newly k s p values values' steps' v
          → ((get_or values'' v 0 ≡ get_or values' v 0) × (get_or steps'' v 0 ≡ get_or steps' v 0)) ⊎ Newly k s q values' values'' steps'' v
          → ((get_or values'' v 0 ≡ get_or values v 0) × (get_or steps'' v 0 ≡ get_or steps v 0)) ⊎ Newly k s r values values'' steps'' v
      both v l (inl a) (inl b) = inl (b.0 ∙ a.0, b.1 ∙ a.1)
      both v l (inl a) (inr b) = inr (record { was = ap (λ (x : ℕ). eqb x 65535) (sym a.0) ∙ b.was; value = b.value; step = b.step; why = right v l b.why })
      both v l (inr a) (inl b) = inr (record { was = a.was; value = b.0 ∙ a.value; step = b.1 ∙ a.step; why = left v l a.why })
      both v l (inr a) (inr b) = absurd (placed v a.value b.was)

      still : (v : ℕ) → v < n → get_or values' v 0 ≡ k → ((get_or values'' v 0 ≡ get_or values' v 0) × (get_or steps'' v 0 ≡ get_or steps' v 0)) ⊎ Newly k s q values' values'' steps'' v → get_or values'' v 0 ≡ k
      still v l e (inl b) = b.0 ∙ e
      still v l e (inr b) = b.value

      late : (i : ℕ) → tail ≤ i → i < tail'' → Dec (i < tail') → (get_or order'' i 0 < n) × (get_or values'' (get_or order'' i 0) 0 ≡ k)
      late i l m (yes h) =
          let f = one.fresh i l h in
          let o = two.order-kept i h in
          (rw o f.0, rw o (still (get_or order' i 0) f.0 f.1 (two.at (get_or order' i 0) f.0)))
      late i l m (no h) = two.fresh i (omega arith) m

-- one position more
pub grown-put : {n k s v tail next : ℕ} (because : ℕ → Type 0) {values steps order values' steps' order' : List ℕ} → v < n → n ≤ length values → n ≤ length steps
    → (free values v ≡ true → tail < length order) → (free values v ≡ true → because v) → Put v k s tail values steps order values' steps' order' next
    → Grown n k s because tail values steps order next values' steps' order'
grown-put {n} {k} {s} {v} {tail} {next} because {values} {steps} {order} {values'} {steps'} {order'} l long longer room why h =
    rw (h.value, h.step, h.place, h.count) (go (free values v) refl)
  where
    go : (b : Bool) → free values v ≡ b → Grown n k s because tail values steps order (tail + bit b) (set_if b v k values) (set_if b v s steps) (set_if b tail v order)
    go false e = let z : tail + 0 ≡ tail = omega arith in rw z (grown-none n k s because tail values steps order)
    go true e = record {
      at = λ u m. one u m (ℕ_discrete u v);
      values-stay = set_if-stays true n v k values l;
      steps-stay = set_if-stays true n v s steps l;
      order-kept = λ i m. get_or-set_other order tail i v 0 (λ z. omega arith);
      longer = omega arith;
      fresh = λ i m j. let z : i ≡ tail = omega arith in rw (z, get_or-set_same order tail v 0 (room e)) (l, get_or-set_same values v k 0 (omega arith));
    }
      where
        one : (u : ℕ) → u < n → Dec (u ≡ v) → ((get_or (set values v k) u 0 ≡ get_or values u 0) × (get_or (set steps v s) u 0 ≡ get_or steps u 0)) ⊎ Newly k s because values (set values v k) (set steps v s) u
        one u m (yes z) = rw z (inr (record { was = e; value = get_or-set_same values v k 0 (omega arith); step = get_or-set_same steps v s 0 (omega arith); why = why e }))
        one u m (no z) = inl (get_or-set_other values v u k 0 z, get_or-set_other steps v u s 0 z)

-- and the order has it
pub listed-placed : {n k v tail : ℕ} (values : List ℕ) {order : List ℕ} → Listed n tail order (λ u. not (free values u)) → v < n → k < 65535 → n ≤ length values → n ≤ length order → free values v ≡ true
    → Listed n (tail + 1) (set order tail v) (λ u. not (free (set values v k) u))
listed-placed {n} {k} {v} {tail} values {order} h l small long longer e =
    listed-push h l (let r = listed-room h l (ap not e) in omega arith) (ap not e)
    (ap not (ne_eqb (get_or (set values v k) v 0) 65535 (λ z. omega (arith, get_or-set_same values v k 0 (omega arith)))))
    (λ u m z. ap (λ (x : ℕ). not (eqb x 65535)) (sym (get_or-set_other values v u k 0 z)))

pub listed-put : {n k s v tail next : ℕ} {values steps order values' steps' order' : List ℕ} → Listed n tail order (λ u. not (free values u)) → v < n → k < 65535 → n ≤ length values → n ≤ length order
    → Put v k s tail values steps order values' steps' order' next → Listed n next order' (λ u. not (free values' u))
listed-put {n} {k} {v} {tail} {values} {order} h l small long longer put = rw (put.value, put.place, put.count) (go (free values v) refl)
  where
    go : (b : Bool) → free values v ≡ b → Listed n (tail + bit b) (set_if b tail v order) (λ u. not (free (set_if b v k values) u))
    go false e = let z : tail + 0 ≡ tail = omega arith in rw z h
    go true e = listed-placed values h l small long longer e
