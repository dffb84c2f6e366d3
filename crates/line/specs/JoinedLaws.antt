-- Laws of parts of one size, one after the other: their length, each in its place, that they stand in a text, and that they are written
-- one by one.
use Prim.Native.Nat.{ℕ, zero, suc, ◌+◌, ◌-◌, ◌*◌, ◌≤◌, ◌<◌}
use Rattle.std.proofs.Common.{arith, zero-mul, suc-mul, add-one, ◌∙◌, ext_get_or}
use Rattle.std.proofs.Math.Decide.{ℕ_discrete}
use Rattle.std.proofs.Math.Nat.{add-zero}
use Rattle.std.specs.Prelude.{◌≡◌, length, get_or, take, drop}
use Rattle.std.proofs.Math.Path.{refl, sym, ap, ap₂, subst}
use mathlib.Core.List.{List, [], ◌∷◌, ◌++◌, append_assoc, append-nil}
use Rattle.std.proofs.Math.ListN.{length-append}
use Rattle.std.proofs.lemmas.List.{get_or_at}
use Rattle.line.specs.Joined.{joined, on_lines}
use Rattle.line.specs.Written.{Written, written-part}

module _ {A : Type 0} where
  -- parts that agree
  pub joined_same : (f g : ℕ → List A) (count : ℕ) → ((k : ℕ) → k < count → f k ≡ g k) → joined f count ≡ joined g count
  unfolding joined
  joined_same f g zero h = refl
  joined_same f g (suc k) h = ap₂ (λ x y. x ++ y) (joined_same f g k (λ j l. h j (omega arith))) (h k (omega arith))

  -- a part between those before it and the others
  joined-split : (f : ℕ → List A) (count k : ℕ) → k < count → (rest : List A) × (joined f count ≡ joined f k ++ (f k ++ rest))
  unfolding joined
  joined-split f zero k l = absurd (omega arith)
  joined-split f (suc w) k l = go (ℕ_discrete k w) (joined-split f w k)
    where
      go : Dec (k ≡ w) → (k < w → (rest : List A) × (joined f w ≡ joined f k ++ (f k ++ rest))) → (rest : List A) × (joined f (suc w) ≡ joined f k ++ (f k ++ rest))
      go (yes e) before = ([], subst (λ (u : ℕ). joined f (suc w) ≡ joined f u ++ (f u ++ [])) (sym e) (ap (λ (x : List A). joined f w ++ x) (sym (append-nil (f w)))))
      go (no z) before =
          let r = before (omega arith) in
          (r.0 ++ f w, ap (λ (x : List A). x ++ f w) r.1 ∙ simp append_assoc)

  -- the first part in front of the others
  pub joined-front : (f : ℕ → List A) (count : ℕ) → joined f (suc count) ≡ f 0 ++ joined (λ k. f (suc k)) count
  unfolding joined
  joined-front f zero = sym (append-nil (f 0))
  joined-front f (suc k) = ap (λ (x : List A). x ++ f (suc k)) (joined-front f k) ∙ append_assoc (f 0) (joined (λ j. f (suc j)) k) (f (suc k))

  -- parts that stand in a text one after the other
  pub joined-stands : (f : ℕ → List A) (size at : ℕ) (text : List A) (count : ℕ) →
      ((k : ℕ) → k < count → drop (at + k * size) text ≡ f k ++ drop (at + suc k * size) text) → drop at text ≡ joined f count ++ drop (at + count * size) text
  unfolding joined
  joined-stands f size at text zero h = rw (zero-mul size, add-zero at)
  joined-stands f size at text (suc k) h =
      joined-stands f size at text k (λ j l. h j (omega arith))
      ∙ ap (λ (x : List A). joined f k ++ x) (h k (omega arith))
      ∙ sym (append_assoc (joined f k) (f k) (drop (at + suc k * size) text))

module _ {A : Type 0} (f : ℕ → List A) (size : ℕ) (sized : (k : ℕ) → length (f k) ≡ size) where
  pub joined_length : (count : ℕ) → length (joined f count) ≡ count * size
  unfolding joined
  joined_length zero = sym (zero-mul size)
  joined_length (suc k) = length-append (joined f k) (f k) ∙ ap₂ (λ x y. x + y) (joined_length k) (sized k) ∙ sym (suc-mul k size)

  -- the k-th part, between what is in front of it and the rest
  pub joined-part : (count k : ℕ) → k < count →
      (rest : List A) × (joined f count ≡ joined f k ++ (f k ++ rest)) × (length (joined f k) ≡ k * size)
  joined-part count k l = let w = joined-split f count k l in (w.0, w.1, joined_length k)

-- one part more, into the part of the buffer that begins behind those before it
pub joined-written : (f : ℕ → List ℕ) (size : ℕ) → ((k : ℕ) → length (f k) ≡ size) → (k : ℕ) (base text part : List ℕ) → Written (joined f k) (k * size) base text →
    (k + 1) * size ≤ length base → part ≡ f k ++ drop size (take (length text - k * size) (drop (k * size) text)) →
    Written (joined f (k + 1)) ((k + 1) * size) base (take (k * size) text ++ (part ++ drop (length text - k * size) (drop (k * size) text)))
unfolding joined
joined-written f size sized k base text part w h e =
    let next : k * size + size ≡ (k + 1) * size = sym (suc-mul k size) ∙ ap (λ (m : ℕ). m * size) (sym (add-one k)) in
    subst (λ (m : ℕ). Written (joined f m) ((k + 1) * size) base (take (k * size) text ++ (part ++ drop (length text - k * size) (drop (k * size) text)))) (sym (add-one k))
    (written-part (joined f k) (f k) (k * size) size ((k + 1) * size) base text w (sized k) next h part e)

-- What stands on lines

module _ {A : Type 0} where
  pub on-lines-length : (f : ℕ → A) (count i : ℕ) → length (on_lines f count i) ≡ count
  on-lines-length f count i = joined_length (λ k. f (i + k) ∷ []) 1 (λ k. refl) count ∙ omega arith

  pub on-lines-at : (f : ℕ → A) (count i j : ℕ) (d : A) → j < count → get_or (on_lines f count i) j d ≡ f (i + j)
  on-lines-at f count i j d h =
      let w = joined-part (λ k. f (i + k) ∷ []) 1 (λ k. refl) count j h in
      ap (λ (l : List A). get_or l j d) w.1 ∙ get_or_at (on_lines f j i) (f (i + j)) w.0 d j (w.2 ∙ omega arith)

  pub on-lines-list : (f : ℕ → A) (xs : List A) (i : ℕ) (d : A) → ((k : ℕ) → k < length xs → f (i + k) ≡ get_or xs k d) → on_lines f (length xs) i ≡ xs
  on-lines-list f xs i d h =
      let size = on-lines-length f (length xs) i in
      ext_get_or d (on_lines f (length xs) i) xs size (λ k l. on-lines-at f (length xs) i k d (omega arith) ∙ h k (omega arith))
