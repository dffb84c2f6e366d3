-- Lists of moves that rise: a list that rises is fixed by its members. A move of cost 0 or 1 to a target below 3 has a place, by from, cost and
-- target, and to rise is to have a higher place.
use Rattle.std.specs.Prelude.{ℕ, zero, suc, ◌+◌, ◌*◌, ◌<◌, ◌≡◌, refl, ◌⊎◌, length, get_or}
use Rattle.std.proofs.Common.{arith, sym, ap, ap₂, ◌∙◌, subst, inl, inr, ⊎_elim}
use Rattle.std.proofs.Math.Decide.{dec_lt}
use mathlib.Core.List.Memᴰ
use mathlib.Core.List.{List, [], ◌∷◌, ◌++◌, Memᴰ}
use Rattle.game.specs.Arena.{Move, no_move}
use Rattle.game.proofs.Members.{member-at, at-member}
use Rattle.chart.specs.Meaning.{Rises}

-- a move of a small chart: its cost is 0 or 1 and its target is below 3
pub record Placed (m : Move) : Type 0 where
  pub cost-below : m.cost < 2
  pub to_below : m.to < 3

unfoldable pub place : Move → ℕ
place m = m.from * 6 + m.cost * 3 + m.to

rises-above : (a b : Move) → Placed a → Placed b → Rises a b → place a < place b
unfolding Rises place
rises-above a b p q (inl l) = omega (arith, p.cost-below, p.to_below)
rises-above a b p q (inr (e, inl l)) = omega (arith, p.to_below)
rises-above a b p q (inr (e, inr (f, l))) = omega arith

pub above-rises : (a b : Move) → Placed a → Placed b → place a < place b → Rises a b
unfolding Rises place
above-rises a b p q l = go (dec_lt a.from b.from) (dec_lt a.cost b.cost)
  where
    go : Dec (a.from < b.from) → Dec (a.cost < b.cost) → (a.from < b.from) ⊎ ((a.from ≡ b.from) × ((a.cost < b.cost) ⊎ ((a.cost ≡ b.cost) × (a.to < b.to))))
    go (yes f) c = inl f
    go (no f) (yes c) = inr (omega (arith, q.cost-below, q.to_below), inl c)
    go (no f) (no c) = let same : a.from ≡ b.from = omega (arith, q.cost-below, q.to_below) in inr (same, inr (omega (arith, q.to_below), omega (arith, q.to_below)))

-- each move has a higher place than those before it
unfoldable pub Ascends : List Move → Type 0
Ascends [] = Unit {0}
Ascends (m ∷ ms) = ((x : Move) → Memᴰ x ms → place m < place x) × Ascends ms

-- one list behind another
pub ascends-behind : (xs ys : List Move) → Ascends xs → Ascends ys → ((x y : Move) → Memᴰ x xs → Memᴰ y ys → place x < place y) → Ascends (xs ++ ys)
unfolding Ascends
ascends-behind [] ys a b h = b
ascends-behind (x ∷ xs) ys a b h =
    (λ y mem. ⊎_elim (λ i. a.0 y i) (λ i. h x y (Memᴰ.head refl) i) (Memᴰ.append_cases xs mem), ascends-behind xs ys a.1 b (λ u v i j. h u v (Memᴰ.tail i) j))

-- two such lists with the same members are the same
pub ascends_same : (xs ys : List Move) → Ascends xs → Ascends ys → ((m : Move) → Memᴰ m xs → Memᴰ m ys) → ((m : Move) → Memᴰ m ys → Memᴰ m xs) → xs ≡ ys
unfolding Ascends
ascends_same [] [] a b f g = refl
ascends_same [] (y ∷ ys) a b f g = absurd (Memᴰ.not-nil (g y (Memᴰ.head refl)))
ascends_same (x ∷ xs) [] a b f g = absurd (Memᴰ.not-nil (f x (Memᴰ.head refl)))
ascends_same (x ∷ xs) (y ∷ ys) a b f g =
    let first = heads (Memᴰ.cases_cons (f x (Memᴰ.head refl))) (Memᴰ.cases_cons (g y (Memᴰ.head refl))) in
    ap₂ (λ (m : Move) (ms : List Move). m ∷ ms) first
    (ascends_same xs ys a.1 b.1
    (λ m i. tails m ys (λ e. let l = a.0 m i in let s = ap place (e ∙ sym first) in omega arith) (Memᴰ.cases_cons (f m (Memᴰ.tail i))))
    (λ m i. tails m xs (λ e. let l = b.0 m i in let s = ap place (e ∙ first) in omega arith) (Memᴰ.cases_cons (g m (Memᴰ.tail i)))))
  where
    heads : (x ≡ y) ⊎ Memᴰ x ys → (y ≡ x) ⊎ Memᴰ y xs → x ≡ y
    heads (inl e) j = e
    heads (inr i) (inl e) = sym e
    heads (inr i) (inr j) = absurd (let l = b.0 x i in let k = a.0 y j in omega arith)

    tails : (m : Move) {z : Move} (zs : List Move) → (m ≡ z → ⊥) → (m ≡ z) ⊎ Memᴰ m zs → Memᴰ m zs
    tails m zs n (inl e) = absurd (n e)
    tails m zs n (inr i) = i

-- Rising from line to line is rising

abbrev Rising : List Move → Type 0
Rising ms = (i : ℕ) → i + 1 < length ms → Rises (get_or ms i no_move) (get_or ms (i + 1) no_move)

-- of a line behind the first
behind : (m : Move) (ms : List Move) → Rising (m ∷ ms) → (j : ℕ) → j + 1 < length ms → Rises (get_or ms j no_move) (get_or ms (j + 1) no_move)
behind m ms r j l = let e : suc j + 1 ≡ suc (j + 1) = omega arith in subst (λ (k : ℕ). Rises (get_or ms j no_move) (get_or (m ∷ ms) k no_move)) e (r (suc j) (omega arith))

-- the first is below all the others
first_below : (m : Move) (ms : List Move) → ((x : Move) → Memᴰ x (m ∷ ms) → Placed x) → Rising (m ∷ ms) → (j : ℕ) → j < length ms → place m < place (get_or ms j no_move)
first_below m ms p r zero l =
    rises-above m (get_or ms 0 no_move) (p m (Memᴰ.head refl)) (p (get_or ms 0 no_move) (Memᴰ.tail (at-member no_move ms 0 l))) (r 0 (omega arith))
first_below m ms p r (suc j) l =
    let e : j + 1 ≡ suc j = omega arith in
    let step =
    rises-above (get_or ms j no_move) (get_or ms (suc j) no_move) (p (get_or ms j no_move) (Memᴰ.tail (at-member no_move ms j (omega arith))))
    (p (get_or ms (suc j) no_move) (Memᴰ.tail (at-member no_move ms (suc j) l))) (subst (λ (k : ℕ). Rises (get_or ms j no_move) (get_or ms k no_move)) e (behind m ms r j (omega arith))) in
    let h = first_below m ms p r j (omega arith) in
    omega arith

pub rising-ascends : (ms : List Move) → ((m : Move) → Memᴰ m ms → Placed m) → Rising ms → Ascends ms
unfolding Ascends
rising-ascends [] p r = tt
rising-ascends (m ∷ ms) p r = (
  λ x i. let at = member-at no_move x ms i in subst (λ (y : Move). place m < place y) at.2 (first_below m ms p r at.0 at.1),
  rising-ascends ms (λ x i. p x (Memᴰ.tail i)) (behind m ms r),
)

-- and back
pub ascends-rising : (ms : List Move) → ((m : Move) → Memᴰ m ms → Placed m) → Ascends ms → Rising ms
unfolding Ascends
ascends-rising [] p a i l = absurd (omega arith)
ascends-rising (m ∷ ms) p a zero l =
    let i = at-member no_move ms 0 (omega arith) in
    above-rises m (get_or ms 0 no_move) (p m (Memᴰ.head refl)) (p (get_or ms 0 no_move) (Memᴰ.tail i)) (a.0 (get_or ms 0 no_move) i)
ascends-rising (m ∷ ms) p a (suc i) l =
    let e : suc (i + 1) ≡ suc i + 1 = omega arith in
    subst (λ (k : ℕ). Rises (get_or ms i no_move) (get_or (m ∷ ms) k no_move)) e (ascends-rising ms (λ x j. p x (Memᴰ.tail j)) a.1 i (omega arith))
