-- A member of a list stands at an index, and what stands at an index is a member.
use Rattle.std.specs.Prelude.{ℕ, zero, suc, ◌<◌, ◌≡◌, refl, length, get_or}
use Rattle.std.proofs.Common.{arith, sym, ⊎_elim}
use mathlib.Core.List.Memᴰ
use mathlib.Core.List.{List, [], ◌∷◌, Memᴰ}

pub member-at : {A : Type 0} (d x : A) (l : List A) → Memᴰ x l → (j : ℕ) × (j < length l) × (get_or l j d ≡ x)
member-at d x [] m = absurd (Memᴰ.not-nil m)
member-at d x (y ∷ l) m =
    ⊎_elim (λ e. (0, omega arith, sym e)) (λ k. let w = member-at d x l k in (suc w.0, omega (arith, w.1), w.2)) (Memᴰ.cases_cons m)

pub at-member : {A : Type 0} (d : A) (l : List A) (j : ℕ) → j < length l → Memᴰ (get_or l j d) l
at-member d [] j h = absurd (omega arith)
at-member d (y ∷ l) zero h = Memᴰ.head refl
at-member d (y ∷ l) (suc j) h = Memᴰ.tail (at-member d l j (omega arith))
