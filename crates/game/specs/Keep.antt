-- The moves that pass a test, in their order: which they are, and on which lines they stand.
use Rattle.std.specs.Prelude.{ℕ, zero, suc, ◌≤◌, ◌<◌, ◌≡◌, refl, ◌⊎◌, Bool, true, false, cond, length, get_or, take, T}
use Rattle.std.proofs.Common.{arith, sym, ap, ap₂, subst, ◌∙◌, inl, inr, take-suc}
use mathlib.Core.List.Memᴰ
use mathlib.Core.List.{List, [], ◌∷◌, ◌++◌, map, map-append, Memᴰ}
use Rattle.search.specs.Passing.{passing}
use Rattle.game.specs.Arena.{Move, no_move}

unfoldable pub keep : (Move → Bool) → List Move → List Move
keep p [] = []
keep p (m ∷ ms) = cond (p m) (m ∷ keep p ms) (keep p ms)

-- the moves kept are those of the row that pass the test
abbrev pub Passes : (Move → Bool) → Move → List Move → Type 0
Passes p m ms = Memᴰ m ms × T (p m)

pub kept : (p : Move → Bool) (ms : List Move) (m : Move) → Memᴰ m (keep p ms) → Passes p m ms
unfolding keep
kept p [] m i = absurd (Memᴰ.not-nil i)
kept p (x ∷ xs) m i = split (p x) refl (kept p xs m) i
  where
    first : p x ≡ true → (Memᴰ m (keep p xs) → Passes p m xs) → (m ≡ x) ⊎ Memᴰ m (keep p xs) → Passes p m (x ∷ xs)
    first e rest (inl q) = (Memᴰ.head q, subst T (sym (ap p q ∙ e)) tt)
    first e rest (inr j) = (Memᴰ.tail (rest j).0, (rest j).1)

    split :
        (b : Bool) → p x ≡ b
        → (Memᴰ m (keep p xs) → Passes p m xs)
        → Memᴰ m (cond b (x ∷ keep p xs) (keep p xs))
        → Passes p m (x ∷ xs)
    split true e rest i = first e rest (Memᴰ.cases_cons i)
    split false e rest i = (Memᴰ.tail (rest i).0, (rest i).1)

pub passed : (p : Move → Bool) (ms : List Move) (m : Move) → Memᴰ m ms → T (p m) → Memᴰ m (keep p ms)
unfolding keep
passed p [] m i h = absurd (Memᴰ.not-nil i)
passed p (x ∷ xs) m i h = split (p x) refl (λ j. passed p xs m j h) (Memᴰ.cases_cons i)
  where
    split :
        (b : Bool) → p x ≡ b
        → (Memᴰ m xs → Memᴰ m (keep p xs))
        → (m ≡ x) ⊎ Memᴰ m xs
        → Memᴰ m (cond b (x ∷ keep p xs) (keep p xs))
    split true e rest (inl q) = Memᴰ.head q
    split true e rest (inr j) = Memᴰ.tail (rest j)
    split false e rest (inl q) = absurd (subst T (ap p q ∙ e) h)
    split false e rest (inr j) = rest j

keep_append : (p : Move → Bool) (xs ys : List Move) → keep p (xs ++ ys) ≡ keep p xs ++ keep p ys
unfolding keep
keep_append p [] ys = refl
keep_append p (x ∷ xs) ys = rw (keep_append p xs ys) (go (p x))
  where
    go : (b : Bool) → cond b (x ∷ (keep p xs ++ keep p ys)) (keep p xs ++ keep p ys) ≡ cond b (x ∷ keep p xs) (keep p xs) ++ keep p ys
    go true = refl
    go false = refl

-- the moves that pass a test are those on the lines that pass it
pub keep-lines : (p : Move → Bool) (q : ℕ → Bool) (ms : List Move) → ((j : ℕ) → j < length ms → q j ≡ p (get_or ms j no_move)) → (i : ℕ) → i ≤ length ms
    → keep p (take i ms) ≡ map (λ j. get_or ms j no_move) (passing q i)
unfolding keep passing
keep-lines p q ms h zero l = refl
keep-lines p q ms h (suc i) l =
    ap (keep p) (take-suc ms i no_move l) ∙ keep_append p (take i ms) (get_or ms i no_move ∷ [])
    ∙ ap₂ ◌++◌ (keep-lines p q ms h i (omega arith)) (rw (← h i l) (go (q i)))
    ∙ sym (map-append (λ j. get_or ms j no_move) (passing q i) (cond (q i) (i ∷ []) []))
  where
    go : (b : Bool) → cond b (get_or ms i no_move ∷ []) [] ≡ map (λ j. get_or ms j no_move) (cond b (i ∷ []) [])
    go true = refl
    go false = refl
