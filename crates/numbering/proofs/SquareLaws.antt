-- The moves of squares: which they are, that they rise, and how many there are; so that the arena of squares has a chart, its squares are the
-- ones that it was made of, and each small arena is that of its own squares.
use Prim.Native.Nat.{ℕ, zero, suc, ◌+◌, ◌*◌, ◌≤◌, ◌<◌}
use native.Mathlib.Omega.{arith}
use Rattle.std.proofs.Math.Decide.{ℕ_discrete}
use Rattle.std.specs.Prelude.{◌≡◌, Bool}
use Rattle.std.proofs.Math.Path.{refl, ap₂}
use Rattle.std.proofs.Common.{sym, ap, ◌∙◌, subst}
use Rattle.std.proofs.Math.Logic.{⊎_elim}
use Rattle.std.proofs.Math.Bool.{true, false, cond}
use mathlib.Core.List.Memᴰ
use mathlib.Core.List.{List, [], ◌∷◌, ◌++◌, Memᴰ}
use Rattle.std.proofs.Math.ListN.{length, length-append}
use Rattle.search.specs.Below.{bit, count_below, count-bound}
use Rattle.line.specs.Joined.{joined}
use Rattle.game.specs.Arena.{Move, disturbance_move}
use Rattle.numbering.specs.Squares.{Squares, moves_to, moves_from, moves_of}
use Rattle.numbering.proofs.MoveLists.{Placed, place, Ascends, ascends-behind}

-- Members of parts one after the other

module _ {A : Type 0} where
  part_of : (f : ℕ → List A) (k : ℕ) (x : A) → Memᴰ x (joined f k) → (v : ℕ) × (v < k) × Memᴰ x (f v)
  unfolding joined
  part_of f zero x i = absurd (Memᴰ.not-nil i)
  part_of f (suc k) x i = ⊎_elim (λ j. let w = part_of f k x j in (w.0, omega (arith, w.1), w.2)) (λ j. (k, omega arith, j)) (Memᴰ.append_cases (joined f k) i)

  in-part : (f : ℕ → List A) (k : ℕ) (x : A) (v : ℕ) → v < k → Memᴰ x (f v) → Memᴰ x (joined f k)
  unfolding joined
  in-part f zero x v l i = absurd (omega arith)
  in-part f (suc k) x v l i = go (ℕ_discrete v k) (in-part f k x v)
    where
      go : Dec (v ≡ k) → (v < k → Memᴰ x (f v) → Memᴰ x (joined f k)) → Memᴰ x (joined f k ++ f k)
      go (yes e) rest = Memᴰ.append_right (joined f k) (subst (λ (u : ℕ). Memᴰ x (f u)) e i)
      go (no z) rest = Memᴰ.append_left (f k) (rest (omega arith) i)

-- The moves of a row

module _ (cost v : ℕ) (p : ℕ → Bool) where
  row-member : (k : ℕ) (m : Move) → Memᴰ m (moves_to cost v p k) → (w : ℕ) × (w < k) × (p w ≡ true) × (m ≡ disturbance_move cost v w)
  unfolding moves_to
  row-member zero m i = absurd (Memᴰ.not-nil i)
  row-member (suc k) m i =
      ⊎_elim (λ j. let w = row-member k m j in (w.0, omega (arith, w.1), w.2, w.3)) (last (p k) refl) (Memᴰ.append_cases (moves_to cost v p k) i)
    where
      last : (b : Bool) → p k ≡ b → Memᴰ m (cond b (disturbance_move cost v k ∷ []) []) → (w : ℕ) × (w < suc k) × (p w ≡ true) × (m ≡ disturbance_move cost v w)
      last true e j = (k, omega arith, e, ⊎_elim (λ q. q) (λ n. absurd (Memᴰ.not-nil n)) (Memᴰ.cases_cons j))
      last false e j = absurd (Memᴰ.not-nil j)

  member-row : (k w : ℕ) → w < k → p w ≡ true → Memᴰ (disturbance_move cost v w) (moves_to cost v p k)
  unfolding moves_to
  member-row zero w l e = absurd (omega arith)
  member-row (suc k) w l e = go (ℕ_discrete w k) (member-row k w)
    where
      go : Dec (w ≡ k) → (w < k → p w ≡ true → Memᴰ (disturbance_move cost v w) (moves_to cost v p k))
          → Memᴰ (disturbance_move cost v w) (moves_to cost v p k ++ cond (p k) (disturbance_move cost v k ∷ []) [])
      go (yes z) rest = Memᴰ.append_right (moves_to cost v p k) (rw (ap p (sym z) ∙ e) (Memᴰ.head (ap (disturbance_move cost v) z)))
      go (no z) rest = Memᴰ.append_left (cond (p k) (disturbance_move cost v k ∷ []) []) (rest (omega arith) e)

  row-ascends : (k : ℕ) → Ascends (moves_to cost v p k)
  unfolding moves_to Ascends place
  row-ascends zero = tt
  row-ascends (suc k) =
      ascends-behind (moves_to cost v p k) (cond (p k) (disturbance_move cost v k ∷ []) []) (row-ascends k) (one (p k))
      (λ x y i j. let w = row-member k x i in let u = last (p k) y j in rw (w.3, u) (omega (arith, w.1)))
    where
      one : (b : Bool) → Ascends (cond b (disturbance_move cost v k ∷ []) [])
      one true = (λ x i. absurd (Memᴰ.not-nil i), tt)
      one false = tt

      last : (b : Bool) (y : Move) → Memᴰ y (cond b (disturbance_move cost v k ∷ []) []) → y ≡ disturbance_move cost v k
      last true y j = ⊎_elim (λ q. q) (λ n. absurd (Memᴰ.not-nil n)) (Memᴰ.cases_cons j)
      last false y j = absurd (Memᴰ.not-nil j)

  pub row-length : (k : ℕ) → length (moves_to cost v p k) ≡ count_below p k
  unfolding moves_to count_below
  row-length zero = refl
  row-length (suc k) = length-append (moves_to cost v p k) _ ∙ ap₂ (λ (x y : ℕ). x + y) (row-length k) (one (p k))
    where
      one : (b : Bool) → length (cond b (disturbance_move cost v k ∷ []) []) ≡ bit b
      one true = refl
      one false = refl

-- The moves of squares

-- the square of a cost
unfoldable pub square_for : Squares → (cost : ℕ) → ℕ → ℕ → Bool
square_for s zero = s.meant
square_for s (suc cost) = s.disturbances

-- a move that squares of n positions have
pub record Of (s : Squares) (n : ℕ) (m : Move) : Type 0 where
  pub cost-below : m.cost < 2
  pub from-below : m.from < n
  pub to_below : m.to < n
  pub yes : square_for s m.cost m.from m.to ≡ true

module _ (s : Squares) (n : ℕ) where
  of_row : (cost v : ℕ) → cost < 2 → v < n → (m : Move) → Memᴰ m (moves_to cost v (square_for s cost v) n) → Of s n m × (m.from ≡ v) × (m.cost ≡ cost)
  of_row cost v c l m i =
      let w = row-member cost v (square_for s cost v) n m i in
      (subst (Of s n) (sym w.3) (record { cost-below = c; from-below = l; to_below = w.1; yes = w.2 }), ap (λ (x : Move). x.from) w.3, ap (λ (x : Move). x.cost) w.3)

  of-position : (v : ℕ) → v < n → (m : Move) → Memᴰ m (moves_from s n v) → Of s n m × (m.from ≡ v)
  unfolding moves_from square_for
  of-position v l m i =
      ⊎_elim (λ j. let w = of_row 0 v (omega arith) l m j in (w.0, w.1)) (λ j. let w = of_row 1 v (omega arith) l m j in (w.0, w.1)) (Memᴰ.append_cases (moves_to 0 v (s.meant v) n) i)

  pub of-moves : (m : Move) → Memᴰ m (moves_of s n) → Of s n m
  unfolding moves_of
  of-moves m i = let w = part_of (moves_from s n) n m i in (of-position w.0 w.1 m w.2).0

  pub moves-of : (m : Move) → Of s n m → Memᴰ m (moves_of s n)
  unfolding moves_of moves_from square_for
  moves-of m o = in-part (moves_from s n) n m m.from o.from-below (go m.cost refl o.cost-below o.yes)
    where
      go : (c : ℕ) → m.cost ≡ c → c < 2 → square_for s c m.from m.to ≡ true → Memᴰ m (moves_to 0 m.from (s.meant m.from) n ++ moves_to 1 m.from (s.disturbances m.from) n)
      go zero e l y =
          Memᴰ.append_left (moves_to 1 m.from (s.disturbances m.from) n)
          (Memᴰ.cast (λ j. record { cost = e j; from = m.from; to = m.to }) (member-row 0 m.from (s.meant m.from) n m.to o.to_below y))
      go (suc zero) e l y =
          Memᴰ.append_right (moves_to 0 m.from (s.meant m.from) n)
          (Memᴰ.cast (λ j. record { cost = e j; from = m.from; to = m.to }) (member-row 1 m.from (s.disturbances m.from) n m.to o.to_below y))
      go (suc (suc c)) e l y = absurd (omega arith)

  module _ (few : n ≤ 3) where
    pub of-placed : (m : Move) → Of s n m → Placed m
    of-placed m o = record { cost-below = o.cost-below; to_below = omega (arith, o.to_below) }

    position-ascends : (v : ℕ) → v < n → Ascends (moves_from s n v)
    unfolding moves_from square_for place
    position-ascends v l =
        ascends-behind (moves_to 0 v (s.meant v) n) (moves_to 1 v (s.disturbances v) n) (row-ascends 0 v (s.meant v) n) (row-ascends 1 v (s.disturbances v) n)
        (λ x y i j.
        let a = of_row 0 v (omega arith) l x i in
        let b = of_row 1 v (omega arith) l y j in
        omega (arith, a.0.to_below, a.1, a.2, b.1, b.2))

    parts-ascend : (k : ℕ) → k ≤ n → Ascends (joined (moves_from s n) k)
    unfolding joined place Ascends
    parts-ascend zero h = tt
    parts-ascend (suc k) h =
        ascends-behind (joined (moves_from s n) k) (moves_from s n k) (parts-ascend k (omega arith)) (position-ascends k (omega arith))
        (λ x y i j.
        let p = part_of (moves_from s n) k x i in
        let a = of-position p.0 (omega (arith, p.1)) x p.2 in
        let b = of-position k (omega arith) y j in
        omega (arith, p.1, a.0.to_below, a.0.cost-below, a.1, b.1))

    pub moves-ascend : Ascends (moves_of s n)
    unfolding moves_of
    moves-ascend = parts-ascend n (omega arith)

    parts-few : (k : ℕ) → length (joined (moves_from s n) k) ≤ k * 6
    unfolding joined moves_from
    parts-few zero = omega arith
    parts-few (suc k) =
        let rest = parts-few k in
        let a = row-length 0 k (s.meant k) n in
        let b = row-length 1 k (s.disturbances k) n in
        let both = length-append (moves_to 0 k (s.meant k) n) (moves_to 1 k (s.disturbances k) n) in
        let all = length-append (joined (moves_from s n) k) (moves_from s n k) in
        omega (arith, count-bound (s.meant k) n, count-bound (s.disturbances k) n)

    pub moves-few : length (moves_of s n) ≤ 18
    unfolding moves_of
    moves-few = let h = parts-few n in omega arith
