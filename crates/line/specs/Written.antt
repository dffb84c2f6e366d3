-- Laws of a buffer that is written from the front: what is written so far, and behind it what the buffer held at first.
use Rattle.std.specs.Prelude.{ℕ, ◌+◌, ◌-◌, ◌≤◌, ◌≡◌, refl, List, [], ◌++◌, length, take, drop}
use Rattle.std.proofs.Common.{arith, sym, ap, ap₂, ◌∙◌, append_assoc, append-nil, length-append, length-drop, drop_of_length-le, take_all, take_at, drop_at, drop-drop}
use Rattle.std.proofs.lemmas.List.Edits.{sets, sets-eq}

-- the first `at` bytes are p, and the others are those of `base`
pub record Written (p : List ℕ) (at : ℕ) (base text : List ℕ) : Type 0 where
  pub bytes : text ≡ p ++ drop at base
  pub size : length p ≡ at

pub written_none : (base : List ℕ) → Written [] 0 base base
written_none base = record { bytes = refl; size = refl }

pub written-length : (p : List ℕ) (at : ℕ) (base text : List ℕ) → Written p at base text → at ≤ length base → length text ≡ length base
written-length p at base text w h = ap length w.bytes ∙ simp (length-append, length-drop) (omega (arith, w.size))

-- k bytes more
module _ (p vs : List ℕ) (at k next : ℕ) (base text : List ℕ) (w : Written p at base text) (l : length vs ≡ k) (n : at + k ≡ next) (h : next ≤ length base) where
  grown : length (p ++ vs) ≡ next
  grown = simp length-append (omega (arith, w.size))

  behind : drop k (drop at text) ≡ drop next base
  behind =
      ap (λ (t : List ℕ). drop k (drop at t)) w.bytes
      ∙ ap (drop k) (drop_at p (drop at base) at w.size)
      ∙ drop-drop k at base
      ∙ ap (λ (j : ℕ). drop j base) n

  front : take at text ≡ p
  front = ap (take at) w.bytes ∙ take_at p (drop at base) at w.size

  same_length : length text ≡ length base
  same_length = written-length p at base text w (omega arith)

  -- stores behind what is written
  pub written-sets : Written (p ++ vs) next base (sets text at vs)
  written-sets = record {
    bytes =
        sets-eq vs text at (omega (arith, same_length))
        ∙ ap₂ (λ (t r : List ℕ). t ++ vs ++ r) front (ap (λ (j : ℕ). drop (at + j) text) l ∙ sym (drop-drop k at text) ∙ behind);
    size = grown;
  }

  -- a call that had the part behind what is written, from `at` to the end, and left vs at its beginning
  pub written-part : (part : List ℕ) → part ≡ vs ++ drop k (take (length text - at) (drop at text)) →
      Written (p ++ vs) next base (take at text ++ (part ++ drop (length text - at) (drop at text)))
  written-part part e = record {
    bytes =
        ap₂ (λ (t r : List ℕ). t ++ (part ++ r)) front nothing-after
        ∙ ap (λ (r : List ℕ). p ++ r) (append-nil part ∙ e ∙ ap (λ (r : List ℕ). vs ++ drop k r) whole ∙ ap (λ (r : List ℕ). vs ++ r) behind)
        ∙ sym (append_assoc p vs (drop next base));
    size = grown;
  }
    where
      whole : take (length text - at) (drop at text) ≡ drop at text
      whole = take_all (length text - at) (drop at text) (simp length-drop (omega arith))

      nothing-after : drop (length text - at) (drop at text) ≡ []
      nothing-after = drop_of_length-le (drop at text) {i = length text - at} (simp length-drop (omega arith))
