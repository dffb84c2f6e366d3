-- Copies of the numbers at the places of a row that pass a test, as a walk over the places makes them: a law for the start and for a
-- turn. Where the row is a column of an arena's moves, the copy is that column of the moves that pass.
use Rattle.std.specs.Prelude.{ℕ, zero, suc, ◌+◌, ◌<◌, ◌≡◌, refl, Bool, true, false, cond, List, [], ◌∷◌, ◌++◌, map, length, get_or, set}
use Rattle.std.proofs.Math.Decide.{ℕ_discrete}
use Rattle.std.proofs.Common.{arith, sym, ap, ◌∙◌, append-nil, length-append, get_or-set_same, get_or-set_other, take_all}
use Rattle.std.proofs.lemmas.List.{length-map}
use Rattle.std.proofs.Math.ListN.{get_or-append}
use Rattle.std.proofs.Math.Seq.{get_or-append_seam}
use Rattle.search.specs.Passing.{passing, passing-next, passing-below}
use Rattle.game.specs.Arena.{Arena, Move, move_at, no_move}
use Rattle.game.specs.Keep.{keep, keep-lines}
use Rattle.rows.specs.Rows.{RowIs}
use Rattle.rows.specs.Filling.{set_if}

-- a row and its copy of the numbers at the places below i that pass the test
abbrev pub CopyOf : (ℕ → Bool) → ℕ → List ℕ → List ℕ → Type 0
CopyOf q i row copy = RowIs copy (length (passing q i)) (λ j. get_or row (get_or (passing q i) j 0) 0)

pub copy-none : (q : ℕ → Bool) (row copy : List ℕ) → CopyOf q 0 row copy
unfolding passing
copy-none q row copy j l = absurd (omega arith)

-- one place more
pub copy-next : (q : ℕ → Bool) (i : ℕ) (row copy : List ℕ) → CopyOf q i row copy → length (passing q i) < length copy
    → CopyOf q (i + 1) row (set_if (q i) (length (passing q i)) (get_or row i 0) copy)
copy-next q i row copy h l j m = rw (passing-next q i) (go (q i) refl (rw (passing-next q i) at m))
  where
    k : ℕ
    k = length (passing q i)

    go : (b : Bool) → q i ≡ b → j < length (passing q i ++ cond b (i ∷ []) [])
        → get_or (set_if b k (get_or row i 0) copy) j 0 ≡ get_or row (get_or (passing q i ++ cond b (i ∷ []) []) j 0) 0
    go false e m = rw (append-nil (passing q i)) (h j (rw (append-nil (passing q i)) at m))
    go true e m = here (ℕ_discrete j k)
      where
        here : Dec (j ≡ k) → get_or (set copy k (get_or row i 0)) j 0 ≡ get_or row (get_or (passing q i ++ (i ∷ [])) j 0) 0
        here (yes z) = rw (z, get_or-append_seam (passing q i) i [] 0) (get_or-set_same copy k (get_or row i 0) 0 l)
        here (no z) =
            let f = length-append (passing q i) (i ∷ []) in
            let s : j < k = omega arith in
            get_or-set_other copy k j (get_or row i 0) 0 z ∙ h j s ∙ ap (λ (x : ℕ). get_or row x 0) (sym (get_or-append (passing q i) (i ∷ []) 0 j s))

-- The moves of an arena

map_at : {A : Type 0} (f : ℕ → A) (l : List ℕ) (j : ℕ) (x : A) → j < length l → get_or (map f l) j x ≡ f (get_or l j 0)
map_at f [] j x l = absurd (omega arith)
map_at f (y ∷ ys) zero x l = refl
map_at f (y ∷ ys) (suc j) x l = map_at f ys j x (omega arith)

-- a test of lines that is a test of the moves on them
module _ (a : Arena) (m : ℕ) (moves : length a.moves ≡ m) (p : Move → Bool) (q : ℕ → Bool) (same : (j : ℕ) → j < m → q j ≡ p (move_at a j)) where
  kept-moves : keep p a.moves ≡ map (λ j. move_at a j) (passing q m)
  kept-moves =
      ap (keep p) (sym (take_all m a.moves (omega arith)))
      ∙ keep-lines p q a.moves (λ j l. same j (omega arith)) m (omega arith)

  pub kept-count : length (keep p a.moves) ≡ length (passing q m)
  kept-count = ap length kept-moves ∙ length-map (passing q m) (λ j. move_at a j)

  kept_move : (j : ℕ) → j < length (passing q m) → get_or (keep p a.moves) j no_move ≡ move_at a (get_or (passing q m) j 0)
  kept_move j l = ap (λ (ms : List Move). get_or ms j no_move) kept-moves ∙ map_at (λ i. move_at a i) (passing q m) j no_move l

  -- a column of the moves, copied
  pub kept-column : (f : Move → ℕ) (row copy : List ℕ) → RowIs row m (λ i. f (move_at a i)) → CopyOf q m row copy
      → RowIs copy (length (keep p a.moves)) (λ j. f (get_or (keep p a.moves) j no_move))
  kept-column f row copy column copied j l =
      let k : j < length (passing q m) = rw kept-count at l in
      copied j k ∙ column (get_or (passing q m) j 0) (passing-below q m j k) ∙ ap f (sym (kept_move j k))
