-- What the computed tests over moves say: a test that passes comes with a target, one that fails leaves none. One
-- search, `some_move`, stands under all of them.
use Rattle.std.specs.Prelude.{ℕ, zero, suc, ◌≡◌, refl, ◌⊎◌, ◌↔◌, Bool, cond, ◌&&◌, ◌||◌, eqb}
use Rattle.std.proofs.Common.{sym, inl, inr, ⊎_elim, eqb→eq, T_not}
use Rattle.std.proofs.Math.Path.{subst}
use Rattle.std.proofs.Math.Logic.{⊎_map}
use Rattle.std.specs.Bool.{beq}
use Rattle.std.proofs.Math.Bool.{true, false, not}
use mathlib.Core.List.Memᴰ
use mathlib.Core.List.{List, [], ◌∷◌, Memᴰ}
use Rattle.std.proofs.Math.Dec.{T, eqb_refl, eqb-suc-zero, not_T}
use Rattle.game.specs.Arena.{Arena, Move, Owner, nobody, owner_at, Meant, Disturbance, meant_move, disturbance_move, has_meant, WellFormed}
use Rattle.game.specs.Table.{some_move, every_move, meant_from, disturbance_from, of_kind}

-- the parts of a test
pub and_left : (p q : Bool) → T (p && q) → T p
and_left true q h = tt
and_left false q h = h

pub and_right : (p q : Bool) → T (p && q) → T q
and_right true q h = h
and_right false q h = absurd h

pub and_both : (p q : Bool) → T p → T q → T (p && q)
and_both true q hp hq = hq
and_both false q hp hq = hp

pub or_cases : (p q : Bool) → T (p || q) → T p ⊎ T q
or_cases true q h = inl tt
or_cases false q h = inr h

pub or_left : (p q : Bool) → T p → T (p || q)
or_left true q h = tt
or_left false q h = absurd h

pub or_right : (p q : Bool) → T q → T (p || q)
or_right true q h = tt
or_right false q h = h

-- tests of two conditions, joined
pub and-test : (p q : Bool) {A B : Type 0} → T p ↔ A → T q ↔ B → T (p && q) ↔ (A × B)
and-test p q a b = (λ h. (a.0 (and_left p q h), b.0 (and_right p q h)), λ h. and_both p q (a.1 h.0) (b.1 h.1))

pub or-test : (p q : Bool) {A B : Type 0} → T p ↔ A → T q ↔ B → T (p || q) ↔ (A ⊎ B)
or-test p q a b = (λ h. ⊎_map a.0 b.0 (or_cases p q h), ⊎_elim (λ x. or_left p q (a.1 x)) (λ y. or_right p q (b.1 y)))

pub is_true : (b : Bool) → T b → b ≡ true
is_true true h = refl
is_true false h = absurd h

pub is_false : (b : Bool) → T (not b) → b ≡ false
is_false true h = absurd h
is_false false h = refl

-- a test passes or fails
pub passes-or-fails : (b : Bool) → T b ⊎ T (not b)
passes-or-fails true = inl tt
passes-or-fails false = inr tt

-- the search
pub some-found : (p : Move → Bool) (ms : List Move) → T (some_move p ms) → (m : Move) × Memᴰ m ms × T (p m)
unfolding some_move
some-found p [] h = absurd h
some-found p (m ∷ ms) h = go (p m) refl h (some-found p ms)
  where
    go : (b : Bool) → p m ≡ b → T (cond b true (some_move p ms)) → (T (some_move p ms) → (x : Move) × Memᴰ x ms × T (p x))
        → (x : Move) × Memᴰ x (m ∷ ms) × T (p x)
    go true e t below = (m, Memᴰ.head refl, subst T (sym e) tt)
    go false e t below = let r = below t in (r.0, Memᴰ.tail r.1, r.2)

pub some_of : (p : Move → Bool) (ms : List Move) (m : Move) → Memᴰ m ms → T (p m) → T (some_move p ms)
unfolding some_move
some_of p [] m mem h = absurd (Memᴰ.not-nil mem)
some_of p (x ∷ ms) m mem h = go (Memᴰ.cases_cons mem) (λ mem'. some_of p ms m mem' h)
  where
    pass : (b : Bool) → T (some_move p ms) → T (cond b true (some_move p ms))
    pass true t = tt
    pass false t = t

    here : (b : Bool) → T b → T (cond b true (some_move p ms))
    here true t = tt
    here false t = absurd t

    go : (m ≡ x) ⊎ Memᴰ m ms → (Memᴰ m ms → T (some_move p ms)) → T (cond (p x) true (some_move p ms))
    go (inl e) below = here (p x) (subst (λ (y : Move). T (p y)) e h)
    go (inr mem') below = pass (p x) (below mem')

pub every-found : (p : Move → Bool) (ms : List Move) (m : Move) → T (every_move p ms) → Memᴰ m ms → T (p m)
unfolding every_move
every-found p ms m h mem = go (passes-or-fails (p m))
  where
    go : T (p m) ⊎ T (not (p m)) → T (p m)
    go (inl t) = t
    go (inr f) = absurd (T_not (some_move (λ x. not (p x)) ms) h (some_of (λ x. not (p x)) ms m mem f))

-- a meant move of v is the one to its target; a disturbance of v has a cost
pub meant-move : (v : ℕ) (m : Move) → T (meant_from v m) → meant_move v m.to ≡ m
unfolding meant_from
meant-move v m h =
    let e = eqb→eq m.cost 0 (and_left (eqb m.cost 0) (eqb m.from v) h) in
    let f = eqb→eq m.from v (and_right (eqb m.cost 0) (eqb m.from v) h) in
    λ i. record { cost = sym e i; from = sym f i; to = m.to }

pub meant-from : (v w : ℕ) → T (meant_from v (meant_move v w))
unfolding meant_from
meant-from v w = eqb_refl v

pub disturbance-move : (v : ℕ) (m : Move) → T (disturbance_from v m) → (c : ℕ) × (disturbance_move (suc c) v m.to ≡ m)
unfolding disturbance_from
disturbance-move v m h = go m.cost refl
  where
    go : (x : ℕ) → m.cost ≡ x → (c : ℕ) × (disturbance_move (suc c) v m.to ≡ m)
    go zero e = absurd (rw e at (and_left (not (eqb m.cost 0)) (eqb m.from v) h))
    go (suc c) e =
        let f = eqb→eq m.from v (and_right (not (eqb m.cost 0)) (eqb m.from v) h) in
        (c, λ i. record { cost = sym e i; from = sym f i; to = m.to })

pub disturbance-from : (c v w : ℕ) → T (disturbance_from v (disturbance_move (suc c) v w))
unfolding disturbance_from
disturbance-from c v w = rw (eqb-suc-zero c) (eqb_refl v)

-- the kind that is sought
pub of-meant : (cost : ℕ) → of_kind true cost ≡ eqb cost 0
of-meant cost = go (eqb cost 0)
  where
    go : (b : Bool) → beq b true ≡ b
    go true = refl
    go false = refl

pub of-disturbance : (cost : ℕ) → of_kind false cost ≡ not (eqb cost 0)
of-disturbance cost = go (eqb cost 0)
  where
    go : (b : Bool) → beq b false ≡ not b
    go true = refl
    go false = refl

-- tests on the targets of the moves that pass the test `of`; `Target` says which these are
module _
    (of : Move → Bool) (ms : List Move) (Target : ℕ → Type 0)
    (is-target : (m : Move) → Memᴰ m ms → T (of m) → Target m.to)
    (has_move : (w : ℕ) → Target w → (m : Move) × Memᴰ m ms × T (of m) × (m.to ≡ w))
    (q : ℕ → Bool)
  where
    some-target : T (some_move (λ m. of m && q m.to) ms) ↔ ((w : ℕ) × Target w × T (q w))
    some-target = (
      λ h.
          let r = some-found (λ m. of m && q m.to) ms h in
          let m : Move = r.0 in
          (m.to, is-target m r.1 (and_left (of m) (q m.to) r.2), and_right (of m) (q m.to) r.2),
      λ t.
          let r = has_move t.0 t.1 in
          let m : Move = r.0 in
          some_of (λ m. of m && q m.to) ms m r.1 (and_both (of m) (q m.to) r.2 (subst (λ (w : ℕ). T (q w)) (sym r.3) t.2)),
    )

    every_target : T (every_move (λ m. not (of m) || q m.to) ms) ↔ ((w : ℕ) → Target w → T (q w))
    unfolding every_move
    every_target = (each, all)
      where
        each : T (every_move (λ m. not (of m) || q m.to) ms) → (w : ℕ) → Target w → T (q w)
        each h w t =
            let r = has_move w t in
            let m : Move = r.0 in
            subst (λ (u : ℕ). T (q u)) r.3 (go (of m) (q m.to) r.2 (every-found (λ m. not (of m) || q m.to) ms m h r.1))
          where
            go : (b c : Bool) → T b → T (not b || c) → T c
            go true c t r = r
            go false c t r = absurd t

        fails : Move → Bool
        fails m = not (not (of m) || q m.to)

        all : ((w : ℕ) → Target w → T (q w)) → T (every_move (λ m. not (of m) || q m.to) ms)
        all h =
            not_T (some_move fails ms) λ t.
            let r = some-found fails ms t in
            go r.0 (of r.0) refl r.1 r.2
          where
            go : (m : Move) (b : Bool) → of m ≡ b → Memᴰ m ms → T (not (not b || q m.to)) → ⊥
            go m true e mem f = T_not (q m.to) f (h m.to (is-target m mem (subst T (sym e) tt)))
            go m false e mem f = f

-- some meant target, each meant target, some disturbance's and each disturbance's target passes the test
module _ (a : Arena) (v : ℕ) (q : ℕ → Bool) where
  meant-target : (m : Move) → Memᴰ m a.moves → T (meant_from v m) → Meant a v m.to
  meant-target m mem h = Memᴰ.cast (meant-move v m h) mem

  meant-has-move : (w : ℕ) → Meant a v w → (m : Move) × Memᴰ m a.moves × T (meant_from v m) × (m.to ≡ w)
  meant-has-move w mem = (meant_move v w, mem, meant-from v w, refl)

  disturbance-target : (m : Move) → Memᴰ m a.moves → T (disturbance_from v m) → Disturbance a v m.to
  disturbance-target m mem h = let r = disturbance-move v m h in (r.0, Memᴰ.cast r.1 mem)

  disturbance-has-move : (w : ℕ) → Disturbance a v w → (m : Move) × Memᴰ m a.moves × T (disturbance_from v m) × (m.to ≡ w)
  disturbance-has-move w d = (disturbance_move (suc d.0) v w, d.1, disturbance-from d.0 v w, refl)

  pub some-meant : T (some_move (λ m. meant_from v m && q m.to) a.moves) ↔ ((w : ℕ) × Meant a v w × T (q w))
  some-meant = some-target (meant_from v) a.moves (Meant a v) meant-target meant-has-move q

  pub every-meant : T (every_move (λ m. not (meant_from v m) || q m.to) a.moves) ↔ ((w : ℕ) → Meant a v w → T (q w))
  every-meant = every_target (meant_from v) a.moves (Meant a v) meant-target meant-has-move q

  pub some-disturbance : T (some_move (λ m. disturbance_from v m && q m.to) a.moves) ↔ ((w : ℕ) × Disturbance a v w × T (q w))
  some-disturbance = some-target (disturbance_from v) a.moves (Disturbance a v) disturbance-target disturbance-has-move q

  pub every-disturbance : T (every_move (λ m. not (disturbance_from v m) || q m.to) a.moves) ↔ ((w : ℕ) → Disturbance a v w → T (q w))
  every-disturbance = every_target (disturbance_from v) a.moves (Disturbance a v) disturbance-target disturbance-has-move q

-- an R has no meant move, so a search among its meant targets finds none
pub none-at-rest : (a : Arena) → WellFormed a → (v : ℕ) → owner_at a v ≡ nobody → (q : ℕ → Bool) → some_move (λ m. meant_from v m && q m.to) a.moves ≡ false
none-at-rest a wf v own q =
    is_false (some_move (λ m. meant_from v m && q m.to) a.moves)
    (not_T (some_move (λ m. meant_from v m && q m.to) a.moves)
    λ h. let r = (some-meant a v q).0 h in subst (λ (o : Owner). T (has_meant o)) own (wf.resting v r.0 r.1))
