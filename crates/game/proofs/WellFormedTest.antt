-- Whether an arena is well-formed, as a test, so that a chart written out is seen to be so by computation.
use Rattle.std.specs.Prelude.{ℕ, zero, suc, ◌<◌, ◌≡◌, ◌⊎◌, Bool, true, false, ◌&&◌, ◌||◌, not, T, eqb, ltb}
use Rattle.std.proofs.Math.Decide.{dec_lt}
use Rattle.std.proofs.Common.{arith, subst, inl, inr, ltb→lt, T_not}
use mathlib.Core.List.Memᴰ
use mathlib.Core.List.{Memᴰ}
use Rattle.std.proofs.Math.Dec.{eqb-suc-zero, not_T}
use Rattle.search.specs.Below.{some_below}
use Rattle.game.specs.Arena.{Arena, Move, Owner, WellFormed, size, owner_at, may_be_disturbed, has_meant, Meant, meant_move, disturbance_move}
use Rattle.game.specs.Table.{some_move, every_move, meant_from}
use Rattle.game.proofs.MoveTests.{and_left, and_right, and_both, or_left, or_right, passes-or-fails, some-found, every-found, meant-move}

-- a move of this kind leaves positions of this owner
unfoldable pub leaves : (meant : Bool) → Owner → Bool
leaves true o = has_meant o
leaves false o = may_be_disturbed o

unfoldable pub fits : Arena → Move → Bool
fits a m = ltb m.cost 2 && (ltb m.from (size a) && (ltb m.to (size a) && leaves (eqb m.cost 0) (owner_at a m.from)))

unfoldable pub is_well_formed : Arena → Bool
is_well_formed a = every_move (fits a) a.moves && not (some_below (λ v. has_meant (owner_at a v) && not (some_move (meant_from v) a.moves)) (size a))

none_below : (p : ℕ → Bool) (n v : ℕ) → T (not (some_below p n)) → v < n → T (p v) → ⊥
unfolding some_below
none_below p zero v h l t = omega arith
none_below p (suc n) v h l t = go (dec_lt v n) (none_below p n v)
  where
    all : Bool
    all = some_below p n

    go : Dec (v < n) → (T (not all) → v < n → T (p v) → ⊥) → ⊥
    go (yes l') below = below (not_T all λ s. T_not (all || p n) h (or_left all (p n) s)) l' t
    go (no g) below = let e : v ≡ n = omega arith in T_not (all || p n) h (or_right all (p n) (subst (λ (x : ℕ). T (p x)) e t))

pub well-formed : (a : Arena) → T (is_well_formed a) → WellFormed a
unfolding is_well_formed fits leaves
well-formed a h =
    record {
      kind = λ m mem. ltb→lt m.cost 2 (and_left (c m) (f m && (t m && d m)) (each m mem));
      from-position = λ m mem. ltb→lt m.from (size a) (and_left (f m) (t m && d m) (rest m mem));
      to-position = λ m mem. ltb→lt m.to (size a) (and_left (t m) (d m) (and_right (f m) (t m && d m) (rest m mem)));
      disturbed = λ v w (k, mem).
          let m = disturbance_move (suc k) v w in
          rw (eqb-suc-zero k) at (and_right (t m) (d m) (and_right (f m) (t m && d m) (rest m mem)));
      resting = λ v w mem. let m = meant_move v w in and_right (t m) (d m) (and_right (f m) (t m && d m) (rest m mem));
      meant = λ v l h. target v (some-found (meant_from v) a.moves (has v l h (passes-or-fails (some_move (meant_from v) a.moves))));
    }
  where
    moves : Bool
    moves = every_move (fits a) a.moves

    lacks : ℕ → Bool
    lacks v = has_meant (owner_at a v) && not (some_move (meant_from v) a.moves)

    c : Move → Bool
    c m = ltb m.cost 2

    f : Move → Bool
    f m = ltb m.from (size a)

    t : Move → Bool
    t m = ltb m.to (size a)

    d : Move → Bool
    d m = leaves (eqb m.cost 0) (owner_at a m.from)

    each : (m : Move) → Memᴰ m a.moves → T (fits a m)
    each m mem = every-found (fits a) a.moves m (and_left moves (not (some_below lacks (size a))) h) mem

    rest : (m : Move) → Memᴰ m a.moves → T (f m && (t m && d m))
    rest m mem = and_right (c m) (f m && (t m && d m)) (each m mem)

    has : (v : ℕ) → v < size a → T (has_meant (owner_at a v)) → T (some_move (meant_from v) a.moves) ⊎ T (not (some_move (meant_from v) a.moves)) → T (some_move (meant_from v) a.moves)
    has v l o (inl s) = s
    has v l o (inr n) =
        absurd (none_below lacks (size a) v (and_right moves (not (some_below lacks (size a))) h) l
        (and_both (has_meant (owner_at a v)) (not (some_move (meant_from v) a.moves)) o n))

    target : (v : ℕ) → (m : Move) × Memᴰ m a.moves × T (meant_from v m) → (w : ℕ) × Meant a v w
    target v r = (r.0.to, Memᴰ.cast (meant-move v r.0 r.2) r.1)
