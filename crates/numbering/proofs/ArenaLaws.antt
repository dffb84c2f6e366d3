-- The arena of squares and the squares of an arena: proper squares have a small arena, which reads as they do, and a small arena is that of
-- its own squares.
use Prim.Native.Nat.{ℕ, zero, suc, ◌+◌, ◌≤◌, ◌<◌}
use native.Mathlib.Omega.{arith}
use Rattle.std.specs.Prelude.{◌≡◌, ◌↔◌, Bool, ◌&&◌, length, eqb}
use Rattle.std.proofs.Math.Path.{refl, ap, subst}
use Rattle.std.proofs.Common.{sym, ◌∙◌, true≢false, eqb→eq}
use Rattle.std.proofs.Math.Bool.{true, false}
use mathlib.Core.List.Memᴰ
use mathlib.Core.List.{[], ◌∷◌, Memᴰ}
use Rattle.std.proofs.Math.Dec.{T, eqb_refl}
use Rattle.line.specs.Joined.{on_lines}
use Rattle.line.specs.JoinedLaws.{on-lines-length, on-lines-at, on-lines-list, joined_same}
use Rattle.game.specs.Arena.{Arena, Position, Move, Owner, controller, environment, nobody, size, position_at, owner_at, nowhere, no_move, disturbance_move, Meant, may_be_disturbed, has_meant, WellFormed}
use Rattle.game.proofs.Members.{member-at}
use Rattle.game.proofs.MoveTests.{and_left, and_right, and_both, is_true, some-found, some_of}
use Rattle.numbering.specs.Numbering.{is_lane, is_move, joins, Small}
use Rattle.numbering.specs.Squares.{Squares, owner_by, position_of, moves_of, square_arena}
use Rattle.numbering.proofs.MoveLists.{ascends_same, rising-ascends, ascends-rising}
use Rattle.numbering.proofs.SquareLaws.{square_for, Of, of-moves, moves-of, of-placed, moves-ascend, moves-few}

-- the test of a move says that it is there
pub joins-exactly : (a : Arena) (cost v w : ℕ) → T (joins a cost v w) ↔ Memᴰ (disturbance_move cost v w) a.moves
unfolding joins is_move
joins-exactly a cost v w = (
  λ h.
      let r = some-found (is_move cost v w) a.moves h in
      let m = r.0 in
      let c = eqb→eq m.cost cost (and_left (eqb m.cost cost) (eqb m.from v && eqb m.to w) r.2) in
      let rest = and_right (eqb m.cost cost) (eqb m.from v && eqb m.to w) r.2 in
      let f = eqb→eq m.from v (and_left (eqb m.from v) (eqb m.to w) rest) in
      let t = eqb→eq m.to w (and_right (eqb m.from v) (eqb m.to w) rest) in
      Memᴰ.cast (λ i. record { cost = sym c i; from = sym f i; to = sym t i }) r.1,
  λ i.
      some_of (is_move cost v w) a.moves (disturbance_move cost v w) i
      (and_both (eqb cost cost) (eqb v v && eqb w w) (eqb_refl cost) (and_both (eqb v v) (eqb w w) (eqb_refl v) (eqb_refl w))),
)

-- a test that passes exactly if another does
same_test : (p q : Bool) → (T p → T q) → (T q → T p) → p ≡ q
same_test true true f g = refl
same_test true false f g = absurd (f tt)
same_test false true f g = absurd (g tt)
same_test false false f g = refl

true-passes : (b : Bool) → b ≡ true → T b
true-passes b e = subst T (sym e) tt

-- squares that a small chart has: marks of 0 or 1, a meant target for each position, no disturbance where the lane chooses
pub record Proper (s : Squares) (n : ℕ) : Type 0 where
  pub mark : (v : ℕ) → v < n → s.mark v ≤ 1
  pub meant : (v : ℕ) → v < n → (w : ℕ) × (w < n) × (s.meant v w ≡ true)
  pub undisturbed : (v w : ℕ) → v < n → w < n → s.lane v ≡ true → s.disturbances v w ≡ false

-- The arena of squares

module _ (s : Squares) (n : ℕ) where
  pub arena-size : size (square_arena s n) ≡ n
  unfolding square_arena
  arena-size = on-lines-length (position_of s) n 0

  pub arena-position : (v : ℕ) → v < n → position_at (square_arena s n) v ≡ position_of s v
  unfolding square_arena
  arena-position v l = let e : 0 + v ≡ v = omega arith in on-lines-at (position_of s) n 0 v nowhere l ∙ ap (position_of s) e

  arena-owner : (v : ℕ) → v < n → owner_at (square_arena s n) v ≡ owner_by (s.lane v)
  arena-owner v l = ap (λ (p : Position). p.owner) (arena-position v l)

  arena-of : (m : Move) → Memᴰ m (square_arena s n).moves → Of s n m
  unfolding square_arena
  arena-of m i = of-moves s n m i

  of-arena : (m : Move) → Of s n m → Memᴰ m (square_arena s n).moves
  unfolding square_arena
  of-arena m o = moves-of s n m o

  -- the arena's squares are those that it was made of
  pub arena-joins : (cost v w : ℕ) → cost < 2 → v < n → w < n → joins (square_arena s n) cost v w ≡ square_for s cost v w
  arena-joins cost v w c l k =
      same_test (joins (square_arena s n) cost v w) (square_for s cost v w)
      (λ h. true-passes (square_for s cost v w) (arena-of (disturbance_move cost v w) ((joins-exactly (square_arena s n) cost v w).0 h)).yes)
      (λ h.
      (joins-exactly (square_arena s n) cost v w).1
      (of-arena (disturbance_move cost v w) (record { cost-below = c; from-below = l; to_below = k; yes = is_true (square_for s cost v w) h })))

owner-has-meant : (b : Bool) → T (has_meant (owner_by b))
owner-has-meant true = tt
owner-has-meant false = tt

owner-not-nobody : (b : Bool) → owner_by b ≡ nobody → ⊥
owner-not-nobody b e = subst (λ (o : Owner). T (has_meant o)) e (owner-has-meant b)

module _ (s : Squares) (n : ℕ) (some : 1 ≤ n) (few : n ≤ 3) (p : Proper s n) where
  arena : Arena
  arena = square_arena s n

  below : (v : ℕ) → v < size arena → v < n
  unfolding arena
  below v l = omega (arith, arena-size s n)

  has-target : (v : ℕ) → v < n → (w : ℕ) × Meant arena v w
  unfolding arena square_for
  has-target v l =
      let w = p.meant v l in
      (w.0, of-arena s n (disturbance_move 0 v w.0) (record { cost-below = omega arith; from-below = l; to_below = w.1; yes = w.2 }))

  well-formed : WellFormed arena
  unfolding arena square_for
  well-formed = record {
    kind = λ m i. (arena-of s n m i).cost-below;
    from-position = λ m i. omega (arith, (arena-of s n m i).from-below, arena-size s n);
    to-position = λ m i. omega (arith, (arena-of s n m i).to_below, arena-size s n);
    disturbed = λ v w d. let o = arena-of s n (disturbance_move (suc d.0) v w) d.1 in
        subst (λ (x : Owner). T (may_be_disturbed x)) (sym (arena-owner s n v o.from-below)) (undisturbed v w (s.lane v) refl o.from-below o.to_below o.yes);
    resting = λ v w i. let o = arena-of s n (disturbance_move 0 v w) i in
        subst (λ (x : Owner). T (has_meant x)) (sym (arena-owner s n v o.from-below)) (owner-has-meant (s.lane v));
    meant = λ v l h. has-target v (below v l);
  }
    where
      undisturbed : (v w : ℕ) (b : Bool) → s.lane v ≡ b → v < n → w < n → s.disturbances v w ≡ true → T (may_be_disturbed (owner_by b))
      undisturbed v w true e l k y = absurd (true≢false (sym y ∙ p.undisturbed v w l k e))
      undisturbed v w false e l k y = tt

  has_move : 1 ≤ length arena.moves
  has_move =
      let w = has-target 0 (omega arith) in
      let at = member-at no_move (disturbance_move 0 0 w.0) arena.moves w.1 in
      omega (arith, at.1)

  pub proper-small : Small (square_arena s n)
  unfolding arena square_arena
  proper-small = record {
    chartable = record {
      well-formed = well-formed;
      some-position = omega (arith, arena-size s n);
      few-positions = omega (arith, arena-size s n);
      some-move = has_move;
      few-moves = omega (arith, moves-few s n few);
      mark = λ v l. subst (λ (q : Position). q.mark ≤ 1) (sym (arena-position s n v (below v l))) (p.mark v (below v l));
      rising = ascends-rising (moves_of s n) (λ m i. of-placed s n few m (of-moves s n m i)) (moves-ascend s n few);
    };
    few = omega (arith, arena-size s n);
    without-rest = λ v l e. owner-not-nobody (s.lane v) (sym (arena-owner s n v (below v l)) ∙ e);
  }

-- squares that agree have one arena
module _ (s u : Squares) (n : ℕ) (few : n ≤ 3)
    (positions : (v : ℕ) → v < n → position_of s v ≡ position_of u v)
    (squares : (cost v w : ℕ) → cost < 2 → v < n → w < n → square_for s cost v w ≡ square_for u cost v w) where
  of_other : (m : Move) → Of s n m → Of u n m
  of_other m o = record {
    cost-below = o.cost-below;
    from-below = o.from-below;
    to_below = o.to_below;
    yes = sym (squares m.cost m.from m.to o.cost-below o.from-below o.to_below) ∙ o.yes;
  }

  other-of : (m : Move) → Of u n m → Of s n m
  other-of m o = record {
    cost-below = o.cost-below;
    from-below = o.from-below;
    to_below = o.to_below;
    yes = squares m.cost m.from m.to o.cost-below o.from-below o.to_below ∙ o.yes;
  }

  pub same-arena : square_arena s n ≡ square_arena u n
  unfolding square_arena
  same-arena = λ j. record { positions = same-positions j; moves = same-moves j }
    where
      same-positions : on_lines (position_of s) n 0 ≡ on_lines (position_of u) n 0
      same-positions =
          joined_same (λ k. position_of s (0 + k) ∷ []) (λ k. position_of u (0 + k) ∷ []) n (λ k l. ap (λ (q : Position). q ∷ []) (positions (0 + k) (omega arith)))

      same-moves : moves_of s n ≡ moves_of u n
      same-moves =
          ascends_same (moves_of s n) (moves_of u n) (moves-ascend s n few) (moves-ascend u n few)
          (λ m i. moves-of u n m (of_other m (of-moves s n m i))) (λ m i. moves-of s n m (other-of m (of-moves u n m i)))

-- The squares of an arena

unfoldable pub squares_in : Arena → Squares
squares_in a = record { lane = λ v. is_lane (owner_at a v); mark = λ v. (position_at a v).mark; meant = joins a 0; disturbances = joins a 1 }

owner-again : (o : Owner) → (o ≡ nobody → ⊥) → owner_by (is_lane o) ≡ o
unfolding is_lane
owner-again controller h = refl
owner-again environment h = refl
owner-again nobody h = absurd (h refl)

lane-owner : (o : Owner) → is_lane o ≡ true → o ≡ environment
unfolding is_lane
lane-owner controller e = absurd (true≢false (sym e))
lane-owner environment e = refl
lane-owner nobody e = absurd (true≢false (sym e))

module _ (a : Arena) (small : Small a) where
  wf : WellFormed a
  wf = small.chartable.well-formed

  pub small-proper : Proper (squares_in a) (size a)
  unfolding squares_in
  small-proper = record {
    mark = small.chartable.mark;
    meant = λ v l. let w = wf.meant v l (owned v l) in
        (w.0, wf.to-position (disturbance_move 0 v w.0) w.1, is_true (joins a 0 v w.0) ((joins-exactly a 0 v w.0).1 w.1));
    undisturbed = λ v w l k e. none v w e (joins a 1 v w) refl;
  }
    where
      owned : (v : ℕ) → v < size a → T (has_meant (owner_at a v))
      owned v l = go (owner_at a v) (small.without-rest v l)
        where
          go : (o : Owner) → (o ≡ nobody → ⊥) → T (has_meant o)
          go controller h = tt
          go environment h = tt
          go nobody h = absurd (h refl)

      none : (v w : ℕ) → is_lane (owner_at a v) ≡ true → (b : Bool) → joins a 1 v w ≡ b → joins a 1 v w ≡ false
      none v w e true f =
          absurd (subst (λ (o : Owner). T (may_be_disturbed o)) (lane-owner (owner_at a v) e) (wf.disturbed v w (0, (joins-exactly a 1 v w).0 (true-passes (joins a 1 v w) f))))
      none v w e false f = f

  in-square : (cost v w : ℕ) → cost < 2 → square_for (squares_in a) cost v w ≡ joins a cost v w
  unfolding squares_in square_for
  in-square zero v w l = refl
  in-square (suc zero) v w l = refl
  in-square (suc (suc cost)) v w l = absurd (omega arith)

  of-small : (m : Move) → Memᴰ m a.moves → Of (squares_in a) (size a) m
  of-small m i = record {
    cost-below = wf.kind m i;
    from-below = wf.from-position m i;
    to_below = wf.to-position m i;
    yes = in-square m.cost m.from m.to (wf.kind m i) ∙ is_true (joins a m.cost m.from m.to) ((joins-exactly a m.cost m.from m.to).1 i);
  }

  small_of : (m : Move) → Of (squares_in a) (size a) m → Memᴰ m a.moves
  small_of m o =
      (joins-exactly a m.cost m.from m.to).0
      (true-passes (joins a m.cost m.from m.to) (sym (in-square m.cost m.from m.to o.cost-below) ∙ o.yes))

  same-position : (v : ℕ) → v < size a → position_of (squares_in a) v ≡ position_at a v
  unfolding squares_in
  same-position v l = λ j. record { owner = owner-again (owner_at a v) (small.without-rest v l) j; mark = (position_at a v).mark }

  -- a small arena is that of its squares
  pub small-squares : square_arena (squares_in a) (size a) ≡ a
  unfolding square_arena
  small-squares = λ j. record { positions = same-positions j; moves = same-moves j }
    where
      same-positions : on_lines (position_of (squares_in a)) (size a) 0 ≡ a.positions
      same-positions =
          on-lines-list (position_of (squares_in a)) a.positions 0 nowhere
          (λ k l. let e : 0 + k ≡ k = omega arith in same-position (0 + k) (omega arith) ∙ ap (position_at a) e)

      same-moves : moves_of (squares_in a) (size a) ≡ a.moves
      same-moves =
          ascends_same (moves_of (squares_in a) (size a)) a.moves (moves-ascend (squares_in a) (size a) small.few)
          (rising-ascends a.moves (λ m i. of-placed (squares_in a) (size a) small.few m (of-small m i)) small.chartable.rising)
          (λ m i. small_of m (of-moves (squares_in a) (size a) m i)) (λ m i. moves-of (squares_in a) (size a) m (of-small m i))
