-- The arena of tight moves: it is well-formed, its disturbances are the tight moves, and so its values are what the certificate of the rounds says of
-- moves that are left: no tight move leaves fewer than one less, and some tight move leaves one less.
use Rattle.std.specs.Prelude.{ℕ, zero, suc, ◌+◌, ◌<◌, ◌⊎◌, Bool, not, length, get_or, eqb}
use Rattle.std.proofs.Common.{arith, sym, subst₂, ◌∙◌, inl, inr, ⊎_elim, T_not, eq-eqb, ne_eqb}
use Rattle.std.proofs.Math.Path.{◌≡◌, refl, ap, subst}
use Rattle.std.proofs.Math.Bool.{true, false, cond}
use mathlib.Core.List.Memᴰ
use mathlib.Core.List.{List, [], ◌∷◌, map, Memᴰ}
use Rattle.std.proofs.Math.ListN.{length-map}
use Rattle.std.proofs.Math.Dec.{T}
use Rattle.game.specs.Value.{Value, fin, ever, ◌≼◌, ◌⊕◌, value_eq}
use Rattle.game.proofs.ValueLaws.{⊕fin, ⊕ever, ≼antisym, value_eq-sound}
use Rattle.game.specs.Arena.{Arena, Move, Position, Owner, nobody, WellFormed, size, unsafe, owner_at, position_at, nowhere, meant_move, disturbance_move, Meant, Disturbance}
use Rattle.game.specs.Play.{Trail, meant, disturbed, disturbance_cost}
use Rattle.game.proofs.PlayLaws.{disturbance-costs-one, disturbance-counts}
use Rattle.game.specs.Table.{round_value, round_step}
use Rattle.game.specs.Best.{best_at}
use Rattle.game.proofs.MoveTests.{and_left, and_right, is_true}
use Rattle.game.proofs.RoundCertificate.{rounds-have-a-certificate}
use Rattle.game.specs.Certificate.{CertifiedAt, DisturbanceRuins, MeantRuin}
use Rattle.way.specs.Along.{Exact}
use Rattle.way.specs.Tight.{tight, straightened, unowned, tightened, moves_left, onward}

-- The members of a mapped list, and what stands in it

mapped : {A B : Type 0} (f : A → B) (xs : List A) (x : A) → Memᴰ x xs → Memᴰ (f x) (map f xs)
mapped f [] x m = absurd (Memᴰ.not-nil m)
mapped f (y ∷ ys) x m = ⊎_elim (λ e. Memᴰ.head (ap f e)) (λ i. Memᴰ.tail (mapped f ys x i)) (Memᴰ.cases_cons m)

pub unmapped : {A B : Type 0} (f : A → B) (xs : List A) (y : B) → Memᴰ y (map f xs) → (x : A) × Memᴰ x xs × (y ≡ f x)
unmapped f [] y m = absurd (Memᴰ.not-nil m)
unmapped f (x ∷ xs) y m =
    ⊎_elim (λ e. (x, Memᴰ.head refl, e)) (λ i. let r = unmapped f xs y i in (r.0, Memᴰ.tail r.1, r.2)) (Memᴰ.cases_cons m)

pub mapped_at : {A B : Type 0} (f : A → B) (xs : List A) (i : ℕ) (d : A) (e : B) → i < length xs → get_or (map f xs) i e ≡ f (get_or xs i d)
mapped_at f [] i d e l = absurd (omega arith)
mapped_at f (x ∷ xs) zero d e l = refl
mapped_at f (x ∷ xs) (suc i) d e l = mapped_at f xs i d e (omega arith)

-- the moves of an arena, `true` a disturbance, and what they cost
abbrev pub Goes : Arena → Bool → ℕ → ℕ → Type 0
Goes a false v w = Meant a v w
Goes a true v w = Disturbance a v w

abbrev pub step_cost : Arena → Bool → ℕ → ℕ → ℕ
step_cost a false v w = 0
step_cost a true v w = disturbance_cost a v w

-- a move that is tight: it goes, and the value falls by its cost
abbrev pub Tight : Arena → Bool → ℕ → ℕ → Type 0
Tight a b v w = Goes a b v w × Exact (step_cost a) (round_value a) b v w

-- the kind of a tight move is told by the values: its cost is what they differ by
pub tight-onward : (a : Arena) (b : Bool) (t : Trail) (u w : ℕ) → Tight a b u w → onward (round_value a) t u w ≡ cond b (disturbed t w) (meant t w)
unfolding onward value_eq
tight-onward a false t u w (m, e) = rw (e.here, e.there, eq-eqb (e.left + 0) e.left (omega arith))
tight-onward a true t u w (d, e) = rw (e.here, e.there, disturbance-costs-one a u w, ne_eqb (e.left + 1) e.left (λ z. omega arith))

module _ (a : Arena) (wf : WellFormed a) where
  pub tightened-size : size (tightened a) ≡ size a
  unfolding tightened
  tightened-size = length-map a.positions unowned

  pub tightened-at : (v : ℕ) → v < size a → position_at (tightened a) v ≡ unowned (position_at a v)
  unfolding tightened
  tightened-at v l = mapped_at unowned a.positions v nowhere nowhere l

  pub tightened-unsafe : (v : ℕ) → v < size a → unsafe (tightened a) v ≡ unsafe a v
  tightened-unsafe v l = ap (λ (p : Position). eqb p.mark 1) (tightened-at v l)

  pub tightened-rests : (v : ℕ) → v < size a → owner_at (tightened a) v ≡ nobody
  tightened-rests v l = ap (λ (p : Position). p.owner) (tightened-at v l)

  -- a move there comes from a move here, from the same position
  origin : (m : Move) → Memᴰ m (tightened a).moves → (x : Move) × Memᴰ x a.moves × (m ≡ straightened a x)
  unfolding tightened
  origin m i = unmapped (straightened a) a.moves m i

  origin-ends : (x : Move) → Memᴰ x a.moves → ((straightened a x).from < size a) × ((straightened a x).to < size a)
  unfolding straightened
  origin-ends x i = (wf.from-position x i, go (tight a x))
    where
      go : (b : Bool) → cond b x.to x.from < size a
      go true = wf.to-position x i
      go false = wf.from-position x i

  -- each costs one
  pub tightened-costs-one : (m : Move) → Memᴰ m (tightened a).moves → m.cost ≡ 1
  unfolding straightened
  tightened-costs-one m i = ap (λ (x : Move). x.cost) (origin m i).2

  pub tightened-is-well-formed : WellFormed (tightened a)
  unfolding straightened
  tightened-is-well-formed =
      record {
        kind = λ m i. let o = origin m i in rw o.2 (omega arith);
        from-position = λ m i. let o = origin m i in rw (tightened-size, o.2) (origin-ends o.0 o.1).0;
        to-position = λ m i. let o = origin m i in rw (tightened-size, o.2) (origin-ends o.0 o.1).1;
        disturbed = λ v w d.
            let o = origin (disturbance_move (suc d.0) v w) d.1 in
            let inside : v < size a = subst (λ (x : ℕ). x < size a) (sym (ap (λ (m : Move). m.from) o.2)) (origin-ends o.0 o.1).0 in
            rw (tightened-rests v inside) tt;
        resting = λ v w m.
            let o = origin (meant_move v w) m in
            let z : ◌≡◌ {A = ℕ} 0 1 = ap (λ (x : Move). x.cost) o.2 in
            absurd (omega arith);
        meant = λ v inside has. absurd (rw (tightened-rests v (rw tightened-size at inside)) at has);
      }

  -- The test of tightness

  tight-passes : (m : Move) (j k : ℕ) → round_value a m.from ≡ fin k → round_value a m.to ≡ fin j → k ≡ j + m.cost → T (tight a m)
  unfolding tight value_eq
  tight-passes m j k here there sum = rw (here, there, ⊕fin j m.cost) ((value_eq-sound (fin k) (fin (j + m.cost))).1 (ap fin sum))

  tight-says : (m : Move) → T (tight a m) → (j : ℕ) × (round_value a m.to ≡ fin j) × (round_value a m.from ≡ fin (j + m.cost))
  unfolding tight
  tight-says m h =
      go (round_value a m.from) (round_value a m.to) refl refl
      (and_left (not (value_eq (round_value a m.from) ever)) (value_eq (round_value a m.from) (round_value a m.to ⊕ m.cost)) h)
      ((value_eq-sound (round_value a m.from) (round_value a m.to ⊕ m.cost)).0
      (and_right (not (value_eq (round_value a m.from) ever)) (value_eq (round_value a m.from) (round_value a m.to ⊕ m.cost)) h))
    where
      go : (x y : Value) → round_value a m.from ≡ x → round_value a m.to ≡ y → T (not (value_eq x ever)) → x ≡ y ⊕ m.cost
          → (j : ℕ) × (round_value a m.to ≡ fin j) × (round_value a m.from ≡ fin (j + m.cost))
      go x (fin j) e f finite sum = (j, f, e ∙ sum ∙ ⊕fin j m.cost)
      go x ever e f finite sum = absurd (T_not (value_eq x ever) finite ((value_eq-sound x ever).1 (sum ∙ ⊕ever m.cost)))

  -- a tight move is a disturbance there
  kept-tight : (m : Move) → Memᴰ m a.moves → T (tight a m) → Disturbance (tightened a) m.from m.to
  unfolding tightened straightened
  kept-tight m i h = (0, subst (λ (b : Bool). Memᴰ (disturbance_move 1 m.from (cond b m.to m.from)) (map (straightened a) a.moves)) (is_true (tight a m) h) (mapped (straightened a) a.moves m i))

  pub tight-disturbs : (b : Bool) (v w : ℕ) → Tight a b v w → Disturbance (tightened a) v w
  tight-disturbs false v w (m, e) = kept-tight (meant_move v w) m (tight-passes (meant_move v w) e.left (e.left + 0) e.here e.there refl)
  tight-disturbs true v w ((x, m), e) =
      let counts : disturbance_cost a v w ≡ suc x = disturbance-counts a wf (disturbance_move (suc x) v w) m (λ z. omega arith) in
      kept-tight (disturbance_move (suc x) v w) m (tight-passes (disturbance_move (suc x) v w) e.left (e.left + disturbance_cost a v w) e.here e.there (rw counts))

  -- and a disturbance there to another position is a tight move
  from-move : (m : Move) → Memᴰ m a.moves → T (tight a m) → (b : Bool) × Tight a b m.from m.to
  from-move m i h = let t = tight-says m h in go m.cost refl t
    where
      go : (x : ℕ) → m.cost ≡ x → (j : ℕ) × (round_value a m.to ≡ fin j) × (round_value a m.from ≡ fin (j + m.cost)) → (b : Bool) × Tight a b m.from m.to
      go zero e (j, there, here) = (
        false,
        (Memᴰ.cast (λ z. record { cost = sym e z; from = m.from; to = m.to }) i, record { left = j; there = there; here = rw e at here }),
      )
      go (suc x) e (j, there, here) = (
        true,
        (
          (x, Memᴰ.cast (λ z. record { cost = sym e z; from = m.from; to = m.to }) i),
          record { left = j; there = there; here = here ∙ ap (λ (y : ℕ). fin (j + y)) (sym (disturbance-counts a wf m i (λ z. omega (arith, e)))) },
        ),
      )

  pub disturbance-is-tight : (v w : ℕ) → Disturbance (tightened a) v w → (v ≡ w) ⊎ ((b : Bool) × Tight a b v w)
  unfolding straightened
  disturbance-is-tight v w (x, i) = go (tight a m) refl (ap (λ (y : Move). y.from) o.2) (ap (λ (y : Move). y.to) o.2)
    where
      o : (y : Move) × Memᴰ y a.moves × (disturbance_move (suc x) v w ≡ straightened a y)
      o = origin (disturbance_move (suc x) v w) i

      m : Move
      m = o.0

      go : (b : Bool) → tight a m ≡ b → v ≡ m.from → w ≡ cond b m.to m.from → (v ≡ w) ⊎ ((b : Bool) × Tight a b v w)
      go true e f g = inr (subst₂ (λ (y z : ℕ). (b : Bool) × Tight a b y z) (sym f) (sym g) (from-move m o.1 (subst T (sym e) tt)))
      go false e f g = inl (f ∙ sym g)

  -- The moves that are left, by the certificate of the rounds

  certified : (v : ℕ) → v < size a → CertifiedAt (tightened a) (moves_left a) (best_at (tightened a) (moves_left a)) (round_step (tightened a)) v
  certified v l = rounds-have-a-certificate (tightened a) tightened-is-well-formed v (rw tightened-size l)

  pub none_left : (v : ℕ) → v < size a → T (unsafe a v) → moves_left a v ≡ fin 0
  none_left v l u = (certified v l).unsafe-zero (rw (tightened-unsafe v l) u)

  -- no move shortens by more than one
  pub one_at_most : (v w : ℕ) → v < size a → Disturbance (tightened a) v w → moves_left a v ≼ moves_left a w ⊕ 1
  one_at_most v w l d = rw (disturbance-costs-one (tightened a) v w) at ((certified v l).holding.1 w d)

  -- and from a safe position some move does
  pub some-shortens : (v k : ℕ) → v < size a → unsafe a v ≡ false → moves_left a v ≡ fin k → (w : ℕ) × Disturbance (tightened a) v w × (moves_left a v ≡ moves_left a w ⊕ 1)
  some-shortens v k l safe e = go ((certified v l).ruin (rw (tightened-unsafe v l) safe) k e)
    where
      go : DisturbanceRuins (tightened a) (moves_left a) (best_at (tightened a) (moves_left a)) (round_step (tightened a)) v
          ⊎ MeantRuin (tightened a) (moves_left a) (best_at (tightened a) (moves_left a)) (round_step (tightened a)) (owner_at (tightened a) v) v
          → (w : ℕ) × Disturbance (tightened a) v w × (moves_left a v ≡ moves_left a w ⊕ 1)
      go (inl (w, d, less)) = (w, d, ≼antisym (moves_left a v) (moves_left a w ⊕ 1) (one_at_most v w l d) (rw (disturbance-costs-one (tightened a) v w) at less))
      go (inr none) = absurd (subst (λ (o : Owner). MeantRuin (tightened a) (moves_left a) (best_at (tightened a) (moves_left a)) (round_step (tightened a)) o v) (tightened-rests v l) none)
