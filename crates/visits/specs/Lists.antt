-- A list of positions: a row whose first `count` numbers are the positions that pass a test, each once.
use Rattle.std.specs.Prelude.{ℕ, ◌+◌, ◌≤◌, ◌<◌, ◌⊎◌, Bool, ◌||◌, List, length, get_or, set}
use Rattle.std.proofs.Common.{arith, ◌∙◌, inl, inr, get_or-set_same, get_or-set_other}
use Rattle.std.proofs.Math.Decide.{ℕ_discrete}
use Rattle.std.proofs.Math.Path.{◌≡◌, refl, sym, ap}
use Rattle.std.proofs.Math.Bool.{true, false}
use Rattle.std.proofs.Math.Dec.{eqb}
use borrow.Author.Tests.{eq-eqb, ne_eqb}
use Rattle.search.specs.Below.{bit, count_below, count_next, count-bound, some_below, some_next, some-hit, some-none}
use Rattle.search.specs.Counting.{count_less, count_none, count-one-more}

pub record Listed (n count : ℕ) (row : List ℕ) (p : ℕ → Bool) : Type 0 where
  pub counted : count_below p n ≡ count
  pub inside : (i : ℕ) → i < count → get_or row i 0 < n
  pub passes : (i : ℕ) → i < count → p (get_or row i 0) ≡ true
  pub found : (v : ℕ) → v < n → p v ≡ true → (i : ℕ) × (i < count) × (get_or row i 0 ≡ v)
  pub once : (i j : ℕ) → i < j → j < count → get_or row i 0 ≡ get_or row j 0 → ⊥

-- v is among the first numbers of a row
unfoldable pub among : List ℕ → ℕ → ℕ → Bool
among row count v = some_below (λ i. eqb (get_or row i 0) v) count

module _ {n count : ℕ} {row : List ℕ} {p : ℕ → Bool} (h : Listed n count row p) where
  pub listed-most : count ≤ n
  listed-most = rw (sym h.counted) (count-bound p n)

  -- where a position is not listed, there is room for it
  pub listed-room : {v : ℕ} → v < n → p v ≡ false → count < n
  listed-room {v} l e = rw (sym h.counted) (count_less p n v l e)

  -- one position more, at the end
  pub listed-push : {v : ℕ} {q : ℕ → Bool} → v < n → count < length row → p v ≡ false → q v ≡ true → ((u : ℕ) → u < n → (u ≡ v → ⊥) → p u ≡ q u)
      → Listed n (count + 1) (set row count v) q
  listed-push {v} {q} l room out now same = record {
    counted = count-one-more p q n v l out now same ∙ ap (λ (x : ℕ). x + 1) h.counted;
    inside = λ i k. inside-more i (split i k);
    passes = λ i k. passes-more i (split i k);
    found = λ u k e. find u k e (ℕ_discrete u v);
    once = λ i j k m. once_more i j k (split j m);
  }
    where
      row' : List ℕ
      row' = set row count v

      split : (i : ℕ) → i < count + 1 → (i < count) ⊎ (i ≡ count)
      split i k = go (ℕ_discrete i count)
        where
          go : Dec (i ≡ count) → (i < count) ⊎ (i ≡ count)
          go (yes e) = inr e
          go (no z) = inl (omega arith)

      before : (i : ℕ) → i < count → get_or row' i 0 ≡ get_or row i 0
      before i k = get_or-set_other row count i v 0 (λ z. omega arith)

      last : get_or row' count 0 ≡ v
      last = get_or-set_same row count v 0 room

      -- v is not among those before it
      other : (i : ℕ) → i < count → get_or row i 0 ≡ v → ⊥
      other i k e = let z : ◌≡◌ {A = Bool} true false = sym (h.passes i k) ∙ ap p e ∙ out in let y : ◌≡◌ {A = ℕ} 0 1 = cc in omega arith

      inside-more : (i : ℕ) → (i < count) ⊎ (i ≡ count) → get_or row' i 0 < n
      inside-more i (inl k) = rw (before i k) (h.inside i k)
      inside-more i (inr e) = rw (e, last) l

      passes-more : (i : ℕ) → (i < count) ⊎ (i ≡ count) → q (get_or row' i 0) ≡ true
      passes-more i (inl k) = rw (before i k) (sym (same (get_or row i 0) (h.inside i k) (other i k)) ∙ h.passes i k)
      passes-more i (inr e) = rw (e, last) now

      find : (u : ℕ) → u < n → q u ≡ true → Dec (u ≡ v) → (i : ℕ) × (i < count + 1) × (get_or row' i 0 ≡ u)
      find u k e (yes z) = (count, omega arith, last ∙ sym z)
      find u k e (no z) = let f = h.found u k (same u k z ∙ e) in (f.0, omega (arith, f.1), before f.0 f.1 ∙ f.2)

      once_more : (i j : ℕ) → i < j → (j < count) ⊎ (j ≡ count) → get_or row' i 0 ≡ get_or row' j 0 → ⊥
      once_more i j k (inl m) e = h.once i j k m (sym (before i (omega arith)) ∙ e ∙ before j m)
      once_more i j k (inr z) e = other i (omega arith) (sym (before i (omega arith)) ∙ e ∙ ap (λ (x : ℕ). get_or row' x 0) z ∙ last)

  -- all of the list are those that pass the test
  pub among-all : (v : ℕ) → v < n → among row count v ≡ p v
  unfolding among
  among-all v l = go (p v) refl
    where
      go : (b : Bool) → p v ≡ b → some_below (λ i. eqb (get_or row i 0) v) count ≡ b
      go true e = let f = h.found v l e in some-hit (λ i. eqb (get_or row i 0) v) count f.0 f.1 (eq-eqb _ v f.2)
      go false e = some-none (λ i. eqb (get_or row i 0) v) count (λ i k. ne_eqb (get_or row i 0) v (λ z. let y : ◌≡◌ {A = Bool} true false = sym (h.passes i k) ∙ ap p z ∙ e in let x : ◌≡◌ {A = ℕ} 0 1 = cc in omega arith))

  -- the next of the list is not among those before it
  pub among_next : (c : ℕ) → c < count → among row c (get_or row c 0) ≡ false
  unfolding among
  among_next c l = some-none (λ i. eqb (get_or row i 0) (get_or row c 0)) c (λ i k. ne_eqb (get_or row i 0) (get_or row c 0) (λ z. h.once i c k l z))

-- one number more of the row
pub among-more : (row : List ℕ) (c v : ℕ) → among row (c + 1) v ≡ (among row c v || eqb (get_or row c 0) v)
unfolding among
among-more row c v = some_next (λ i. eqb (get_or row i 0) v) c

pub among_none : (row : List ℕ) (v : ℕ) → among row 0 v ≡ false
unfolding among some_below
among_none row v = refl

-- nobody passes: the empty list
pub listed-none : {n : ℕ} {p : ℕ → Bool} (row : List ℕ) → ((v : ℕ) → v < n → p v ≡ false) → Listed n 0 row p
listed-none {n} {p} row h = record {
  counted = count_none p n h;
  inside = λ i l. absurd (omega arith);
  passes = λ i l. absurd (omega arith);
  found = λ v l e. absurd (let z : ◌≡◌ {A = Bool} true false = sym e ∙ h v l in let y : ◌≡◌ {A = ℕ} 0 1 = cc in omega arith);
  once = λ i j l m. absurd (omega arith);
}

-- the list of the positions below v, and that of those below v + 1: v is stored, and counts if it passes
pub listed_more : {v count : ℕ} {row : List ℕ} {p : ℕ → Bool} → Listed v count row p → count < length row → Listed (v + 1) (count + bit (p v)) (set row count v) p
listed_more {v} {count} {row} {p} h room = go (p v) refl
  where
    row' : List ℕ
    row' = set row count v

    before : (i : ℕ) → i < count → get_or row' i 0 ≡ get_or row i 0
    before i k = get_or-set_other row count i v 0 (λ z. omega arith)

    last : get_or row' count 0 ≡ v
    last = get_or-set_same row count v 0 room

    go : (b : Bool) → p v ≡ b → Listed (v + 1) (count + bit b) row' p
    go false e =
        let same : count + 0 ≡ count = omega arith in
        rw same (record {
          counted = rw (count_next, e) (omega (arith, h.counted));
          inside = λ i l. rw (before i l) (let k = h.inside i l in omega arith);
          passes = λ i l. rw (before i l) (h.passes i l);
          found = λ u l f. find u l f (ℕ_discrete u v);
          once = λ i j l m q. h.once i j l m (sym (before i (omega arith)) ∙ q ∙ before j m);
        })
      where
        find : (u : ℕ) → u < v + 1 → p u ≡ true → Dec (u ≡ v) → (i : ℕ) × (i < count) × (get_or row' i 0 ≡ u)
        find u l f (yes z) = absurd (let y : ◌≡◌ {A = Bool} true false = sym f ∙ ap p z ∙ e in let x : ◌≡◌ {A = ℕ} 0 1 = cc in omega arith)
        find u l f (no z) = let w = h.found u (omega arith) f in (w.0, w.1, before w.0 w.1 ∙ w.2)
    go true e = record {
      counted = rw (count_next, e) (omega (arith, h.counted));
      inside = λ i l. inside-more i (ℕ_discrete i count) l;
      passes = λ i l. passes-more i (ℕ_discrete i count) l;
      found = λ u l f. find u l f (ℕ_discrete u v);
      once = λ i j l m q. once_more i j l (ℕ_discrete j count) m q;
    }
      where
        inside-more : (i : ℕ) → Dec (i ≡ count) → i < count + 1 → get_or row' i 0 < v + 1
        inside-more i (yes z) l = rw (z, last) (omega arith)
        inside-more i (no z) l = rw (before i (omega arith)) (let k = h.inside i (omega arith) in omega arith)

        passes-more : (i : ℕ) → Dec (i ≡ count) → i < count + 1 → p (get_or row' i 0) ≡ true
        passes-more i (yes z) l = rw (z, last) e
        passes-more i (no z) l = rw (before i (omega arith)) (h.passes i (omega arith))

        find : (u : ℕ) → u < v + 1 → p u ≡ true → Dec (u ≡ v) → (i : ℕ) × (i < count + 1) × (get_or row' i 0 ≡ u)
        find u l f (yes z) = (count, omega arith, last ∙ sym z)
        find u l f (no z) = let w = h.found u (omega arith) f in (w.0, omega (arith, w.1), before w.0 w.1 ∙ w.2)

        once_more : (i j : ℕ) → i < j → Dec (j ≡ count) → j < count + 1 → get_or row' i 0 ≡ get_or row' j 0 → ⊥
        once_more i j l (yes z) m q = let k = h.inside i (omega arith) in let w : get_or row i 0 ≡ v = sym (before i (omega arith)) ∙ q ∙ ap (λ (x : ℕ). get_or row' x 0) z ∙ last in omega arith
        once_more i j l (no z) m q = h.once i j l (omega arith) (sym (before i (omega arith)) ∙ q ∙ before j (omega arith))
