-- Searches over items that each belong to a place, as a move belongs to the position that it leaves, and the notes that a walk over
-- them leaves in a row: a law for the start and for a turn.
use Rattle.std.specs.Prelude.{ℕ, ◌+◌, ◌≤◌, ◌<◌, ◌-◌, ◌≡◌, Bool, cond, ◌&&◌, ◌||◌, List, length, set}
use Rattle.std.proofs.Common.{arith, ◌∙◌, get_or-set_same}
use Rattle.std.proofs.Math.Decide.{ℕ_discrete}
use Rattle.std.proofs.Math.Path.{refl, sym, ap}
use Rattle.std.proofs.Math.Bool.{true, false, or-false, or-true}
use Rattle.std.proofs.Math.ListN.{get_or}
use Rattle.std.proofs.Math.Seq.{get_or-set_other}
use Rattle.std.proofs.Math.Dec.{eqb}
use borrow.Author.Tests.{eq-eqb, ne_eqb}
use Rattle.search.specs.Below.{some_below, some_next, some_same, some-none, some-stays, some_more}
use Rattle.rows.specs.Rows.{RowIs}
use Rattle.rows.specs.Filling.{set_if}

-- the place v if the test passes, else 512, which is past all positions
unfoldable pub spot_if : Bool → ℕ → ℕ
spot_if b v = cond b v 512

pub spot-most : {x : ℕ} (b : Bool) (v : ℕ) → v < 512 → x ≡ spot_if b v → x ≤ 512
unfolding spot_if
spot-most true v l e = omega arith
spot-most false v l e = omega arith

-- Of the first i items, some with the property q is at v. (`at` says where each item is: the position that a move leaves.)
unfoldable pub found : (ℕ → ℕ) → (ℕ → Bool) → ℕ → ℕ → Bool
found at q i v = some_below (λ j. eqb (at j) v && q j) i

-- at each place below n the row has g of whether such an item was among the first i
pub record Noted (n : ℕ) (at : ℕ → ℕ) (q : ℕ → Bool) (g : ℕ → Bool → ℕ) (i : ℕ) (row : List ℕ) : Type 0 where
  pub notes : RowIs row n (λ v. g v (found at q i v))

pub found-same : (at : ℕ → ℕ) (p q : ℕ → Bool) (i v : ℕ) → ((j : ℕ) → j < i → p j ≡ q j) → found at p i v ≡ found at q i v
unfolding found
found-same at p q i v h = some_same (λ j. eqb (at j) v && p j) (λ j. eqb (at j) v && q j) i (λ j l. rw (h j l))

-- before the first item
pub noted-none : {n : ℕ} {at : ℕ → ℕ} {q : ℕ → Bool} {g : ℕ → Bool → ℕ} {row : List ℕ} → RowIs row n (λ v. g v false) → Noted n at q g 0 row
unfolding found some_below
noted-none h = record { notes = h }

module _ {n : ℕ} {at : ℕ → ℕ} {q : ℕ → Bool} {g : ℕ → Bool → ℕ} {i : ℕ} {row : List ℕ} (h : Noted n at q g i row) where
  noted-hit : n ≤ length row → at i < n → q i ≡ true → Noted n at q g (i + 1) (set row (at i) (g (at i) true))
  unfolding found
  noted-hit l inside e = record { notes = λ v m. go v m (ℕ_discrete v (at i)) }
    where
      go : (v : ℕ) → v < n → Dec (v ≡ at i) → get_or (set row (at i) (g (at i) true)) v 0 ≡ g v (found at q (i + 1) v)
      go v m (yes z) = rw (z, some_next, eq-eqb (at i) (at i) refl, e, or-true) (get_or-set_same row (at i) (g (at i) true) 0 (omega arith))
      go v m (no z) = rw (some_next, ne_eqb (at i) v (λ e. z (sym e)), or-false) (get_or-set_other row (at i) v (g (at i) true) 0 z ∙ h.notes v m)

  noted-miss : q i ≡ false → Noted n at q g (i + 1) row
  unfolding found
  noted-miss e = record { notes = λ v m. go v m (ℕ_discrete v (at i)) }
    where
      go : (v : ℕ) → v < n → Dec (v ≡ at i) → get_or row v 0 ≡ g v (found at q (i + 1) v)
      go v m (yes z) = rw (some_next, eq-eqb (at i) v (sym z), e, or-false) (h.notes v m)
      go v m (no z) = rw (some_next, ne_eqb (at i) v (λ e. z (sym e)), or-false) (h.notes v m)

  -- a turn: an item with the property notes its place, any other changes nothing
  pub noted-next : n ≤ length row → (q i ≡ true → at i < n) → Noted n at q g (i + 1) (set_if (q i) (at i) (g (at i) true) row)
  noted-next l inside = go (q i) refl
    where
      go : (b : Bool) → q i ≡ b → Noted n at q g (i + 1) (set_if b (at i) (g (at i) true) row)
      go true e = noted-hit l (inside e) e
      go false e = noted-miss e

  -- the same turn where every item leaves a note, but one without the property past the n places
  pub noted-aside : n ≤ length row → n ≤ 512 → at i < n → Noted n at q g (i + 1) (set row (spot_if (q i) (at i)) (g (at i) true))
  unfolding spot_if
  noted-aside l small inside = go (q i) refl
    where
      go : (b : Bool) → q i ≡ b → Noted n at q g (i + 1) (set row (spot_if b (at i)) (g (at i) true))
      go true e = noted-hit l inside e
      go false e = record { notes = λ v m. get_or-set_other row 512 v (g (at i) true) 0 (λ z. omega arith) ∙ (noted-miss e).notes v m }

-- Items in the order of their places

module _ (at : ℕ → ℕ) (q : ℕ → Bool) (v : ℕ) where
  pub found_none : (i : ℕ) → ((j : ℕ) → j < i → at j < v) → found at q i v ≡ false
  unfolding found
  found_none i h = some-none (λ j. eqb (at j) v && q j) i (λ j l. rw (ne_eqb (at j) v (λ e. omega (arith, h j l))))

  pub found-next : (i : ℕ) → at i ≡ v → found at q (i + 1) v ≡ (found at q i v || q i)
  unfolding found
  found-next i e = rw (some_next, eq-eqb (at i) v e)

  pub found_all : (i m : ℕ) → i ≤ m → ((j : ℕ) → i ≤ j → j < m → v < at j) → found at q i v ≡ found at q m v
  unfolding found
  found_all i m l h =
      sym (some-stays (λ j. eqb (at j) v && q j) i (m - i) (λ j k x. rw (ne_eqb (at j) v (λ e. omega (arith, h j k (omega arith))))))
      ∙ ap (some_below (λ j. eqb (at j) v && q j)) (omega arith)

  pub found-more : (i m : ℕ) → i ≤ m → found at q i v ≡ true → found at q m v ≡ true
  unfolding found
  found-more i m l h = ap (some_below (λ j. eqb (at j) v && q j)) (omega arith) ∙ some_more (λ j. eqb (at j) v && q j) i (m - i) h
