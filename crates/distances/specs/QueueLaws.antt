-- A position more in the order: it had no count, and gets one that is not below those of the order and not above the next one's by more than one.
use Rattle.std.specs.Prelude.{ℕ, ◌+◌, ◌≤◌, ◌<◌, ◌≡◌, ◌⊎◌, not, List, length, get_or, set, eqb}
use Rattle.std.proofs.Common.{arith, sym, ap, ◌∙◌, inl, inr, get_or-set_same, get_or-set_other, eq-eqb, ne_eqb}
use Rattle.std.proofs.Math.Decide.{ℕ_discrete}
use Rattle.search.specs.Below.{count-bound}
use Rattle.search.specs.Counting.{count_less, count-one-more}
use Rattle.rows.specs.Numbers.{free}
use Rattle.distances.specs.Distances.{Queue}

module _ {n head tail : ℕ} {left order : List ℕ} (q : Queue n head tail left order) where
  -- the order is no longer than the row
  pub queue-most : tail ≤ n
  queue-most = rw (sym q.counted) (count-bound (λ v. not (free left v)) n)

  module _ {v : ℕ} (l : v < n) (none : get_or left v 0 ≡ 65535) where
    pub queue-room : tail < n
    queue-room = rw (sym q.counted) (count_less (λ u. not (free left u)) n v l (ap not (eq-eqb (get_or left v 0) 65535 none)))

    module _ (small : n ≤ 512) (x : ℕ) (long : n ≤ length left) (room : tail < length order) where
      abbrev left' : List ℕ
      left' = set left v x

      abbrev order' : List ℕ
      order' = set order tail v

      -- the others keep their counts and places
      pub other-count : (u : ℕ) → (u ≡ v → ⊥) → get_or (set left v x) u 0 ≡ get_or left u 0
      other-count u z = get_or-set_other left v u x 0 z

      pub its-count : get_or (set left v x) v 0 ≡ x
      its-count = get_or-set_same left v x 0 (omega arith)

      order-at : (i : ℕ) → i < tail → get_or order' i 0 ≡ get_or order i 0
      order-at i h = get_or-set_other order tail i v 0 (λ z. omega arith)

      order-last : get_or order' tail 0 ≡ v
      order-last = get_or-set_same order tail v 0 room

      pub not-it : (i : ℕ) → i < tail → get_or order i 0 ≡ v → ⊥
      not-it i h e = let f = q.few i h in let g = ap (λ (u : ℕ). get_or left u 0) e in let m = queue-most in omega arith

      -- what the order has counts the same
      pub count_at : (i : ℕ) → i < tail → get_or left' (get_or order' i 0) 0 ≡ get_or left (get_or order i 0) 0
      count_at i h = rw (order-at i h) (other-count (get_or order i 0) (not-it i h))

      count-last : get_or left' (get_or order' tail 0) 0 ≡ x
      count-last = rw order-last its-count

      pub queue-more : x ≤ tail → ((i : ℕ) → i < tail → get_or left (get_or order i 0) 0 ≤ x) → ((j : ℕ) → head ≤ j → j < tail → x ≤ get_or left (get_or order j 0) 0 + 1)
          → Queue n head (tail + 1) (set left v x) (set order tail v)
      queue-more most above close = record {
        counted =
            count-one-more (λ u. not (free left u)) (λ u. not (free left' u)) n v l (ap not (eq-eqb (get_or left v 0) 65535 none))
            (ap not (ne_eqb (get_or left' v 0) 65535 (λ z. let e = its-count in let m = queue-most in omega arith))) (λ u h z. ap (λ (y : ℕ). not (eqb y 65535)) (sym (other-count u z)))
            ∙ ap (λ (y : ℕ). y + 1) q.counted;
        inside = λ i h. inside-more i (split i h);
        few = λ i h. few-more i (split i h);
        found = λ u k placed. find u k placed (ℕ_discrete u v);
        rising = λ i j h k. rising-more i j h (split j k);
        near = λ i j h k r. near-more i j (split i h) k (split j r);
      }
        where
          split : (i : ℕ) → i < tail + 1 → (i < tail) ⊎ (i ≡ tail)
          split i h = go (ℕ_discrete i tail)
            where
              go : Dec (i ≡ tail) → (i < tail) ⊎ (i ≡ tail)
              go (yes e) = inr e
              go (no z) = inl (omega arith)

          inside-more : (i : ℕ) → (i < tail) ⊎ (i ≡ tail) → get_or order' i 0 < n
          inside-more i (inl h) = rw (order-at i h) (q.inside i h)
          inside-more i (inr e) = rw (e, order-last) l

          few-more : (i : ℕ) → (i < tail) ⊎ (i ≡ tail) → get_or left' (get_or order' i 0) 0 ≤ i
          few-more i (inl h) = rw (count_at i h) (q.few i h)
          few-more i (inr e) = rw (e, count-last) most

          find : (u : ℕ) → u < n → (get_or left' u 0 ≡ 65535 → ⊥) → Dec (u ≡ v) → (i : ℕ) × (i < tail + 1) × (get_or order' i 0 ≡ u)
          find u k placed (yes z) = (tail, omega arith, order-last ∙ sym z)
          find u k placed (no z) = let f = q.found u k (λ e. placed (other-count u z ∙ e)) in (f.0, omega (arith, f.1), order-at f.0 f.1 ∙ f.2)

          rising-more : (i j : ℕ) → i < j → (j < tail) ⊎ (j ≡ tail) → get_or left' (get_or order' i 0) 0 ≤ get_or left' (get_or order' j 0) 0
          rising-more i j h (inl k) = rw (count_at i (omega arith), count_at j k) (q.rising i j h k)
          rising-more i j h (inr e) = rw (count_at i (omega arith), e, count-last) (above i (omega arith))

          near-more : (i j : ℕ) → (i < tail) ⊎ (i ≡ tail) → head ≤ j → (j < tail) ⊎ (j ≡ tail) → get_or left' (get_or order' i 0) 0 ≤ get_or left' (get_or order' j 0) 0 + 1
          near-more i j (inl h) k (inl r) = rw (count_at i h, count_at j r) (q.near i j h k r)
          near-more i j (inl h) k (inr e) = rw (count_at i h, e, count-last) (let a = above i h in omega arith)
          near-more i j (inr e) k (inl r) = rw (e, count-last, count_at j r) (close j k r)
          near-more i j (inr e) k (inr f) = rw (e, f, count-last) (omega arith)
