-- The bounded table is the unbounded definition's: at every position the table has (k, s) exactly when round (k, s) has
-- the position, for all k and s. By induction on k: the sets that value k begins with are those of the table before it.
use Prim.Native.Nat.{ℕ, zero, suc, ◌<◌}
use Rattle.std.specs.Prelude.{◌≡◌, refl, ◌⊎◌, ◌↔◌, Bool, not, ◌&&◌, length, T}
use Rattle.std.proofs.Common.{sym, ◌∙◌, subst, inl, inr, eqb→eq, T_not}
use Rattle.std.proofs.Math.Path.{ap}
use Rattle.std.proofs.Math.Logic.Iff
use Rattle.std.proofs.Math.Dec.{eqb_refl, not_T}
use Rattle.game.specs.Value.{fin, ever}
use Rattle.game.specs.Arena.{Arena, Owner, controller, environment, nobody, WellFormed, size, owner_at, Meant, Disturbance, may_be_disturbed}
use Rattle.game.specs.Rounds.{Positions, JoinsAs, Joins, PlacedBy, JoinsIn, level, Round, NeverPlaced}
use Rattle.game.specs.Table.{Placement, unplaced, placed, Table, placement_at, is_placed, has_value, some_move, meant_from, place, ready_as, ready, begins, table_after, table_before, table, round_value, round_step}
use Rattle.game.proofs.MoveTests.{passes-or-fails, some-meant, some-disturbance}
use Rattle.game.proofs.ValueLaws.{fin-injective}
use Rattle.game.proofs.PlayLaws.{disturbance-leaves}
use Rattle.game.proofs.PlacementLaws.{is-placed, is-not-placed, placed-or-not, value-of-placed, step-of-placed, value-of-unplaced, step-of-unplaced, placed-of-value, unplaced-of-value}
use Rattle.game.proofs.TableLaws.{Takes, extends-placed, place-extends, place-takes, place-leaves}
use Rattle.game.proofs.RoundTables.{RoundTakes, after-length, before-length, before-all, before-from, taken-is-placed}
use Rattle.game.proofs.Stable.{after-before, table-has-the-taken}

-- the positions that a table has placed
abbrev pub PlacedIn : Table → Positions
PlacedIn t v = T (is_placed (placement_at t v))

-- the computed tests are the rounds' conditions
ready-joins-as : (o : Owner) (a : Arena) (t : Table) (v : ℕ) → T (ready_as o a t v) ↔ JoinsAs o a (PlacedIn t) v
unfolding ready_as
ready-joins-as controller a t v = (all, of-all)
  where
    free : ℕ → Bool
    free w = not (is_placed (placement_at t w))

    blocked : Bool
    blocked = some_move (λ m. meant_from v m && free m.to) a.moves

    all : T (ready_as controller a t v) → (w : ℕ) → Meant a v w → PlacedIn t w
    all h w m = go (passes-or-fails (is_placed (placement_at t w)))
      where
        go : PlacedIn t w ⊎ T (not (is_placed (placement_at t w))) → PlacedIn t w
        go (inl p) = p
        go (inr f) = absurd (T_not blocked h ((some-meant a v free).1 (w, m, f)))

    of-all : ((w : ℕ) → Meant a v w → PlacedIn t w) → T (ready_as controller a t v)
    of-all p = not_T blocked λ h. let r = (some-meant a v free).0 h in T_not (is_placed (placement_at t r.0)) r.2 (p r.0 r.1)
ready-joins-as environment a t v = some-meant a v (λ w. is_placed (placement_at t w))
ready-joins-as nobody a t v = (λ h. h, λ h. h)

pub ready-joins : (a : Arena) (t : Table) (v : ℕ) → T (ready a t v) ↔ JoinsAs (owner_at a v) a (PlacedIn t) v
unfolding ready
ready-joins a t v = ready-joins-as (owner_at a v) a t v

pub joins-map-as : (o : Owner) (a : Arena) (P Q : Positions) → ((w : ℕ) → P w → Q w) → (v : ℕ) → JoinsAs o a P v → JoinsAs o a Q v
joins-map-as controller a P Q f v all = λ w m. f w (all w m)
joins-map-as environment a P Q f v some = (some.0, some.1, f some.0 some.2)
joins-map-as nobody a P Q f v none = none

pub joins-map : (a : Arena) (P Q : Positions) → ((w : ℕ) → P w → Q w) → (v : ℕ) → Joins a P v → Joins a Q v
joins-map a P Q f v j = (j.0, joins-map-as (owner_at a v) a P Q f v j.1)

-- what a round leaves placed, and which positions it takes, where P is what was placed before it and C the condition to join
module _ (test : ℕ → Bool) (k s : ℕ) (t : Table) (P C : Positions)
    (p : (v : ℕ) → P v ↔ PlacedIn t v) (c : (v : ℕ) → C v ↔ ((v < length t) × T (test v))) where
  round-places : (v : ℕ) → (P v ⊎ C v) ↔ PlacedIn (place test (placed k s) 0 t) v
  round-places v = (to, λ h. from h (place-leaves test (placed k s) t v))
    where
      joins : (v < length t) × T (test v) → PlacedIn t v ⊎ (placement_at t v ≡ unplaced) → PlacedIn (place test (placed k s) 0 t) v
      joins j (inl h) = extends-placed (place-extends test (placed k s) t) v h
      joins j (inr e) = is-placed (place-takes test (placed k s) t v (record { inside = j.0; free = e; passes = j.1 }))

      to : P v ⊎ C v → PlacedIn (place test (placed k s) 0 t) v
      to (inl h) = extends-placed (place-extends test (placed k s) t) v ((p v).0 h)
      to (inr h) = joins ((c v).0 h) (placed-or-not (placement_at t v))

      from : PlacedIn (place test (placed k s) 0 t) v → (placement_at (place test (placed k s) 0 t) v ≡ placement_at t v) ⊎ Takes test t v → P v ⊎ C v
      from h (inl e) = inl ((p v).1 (subst (λ (x : Placement). T (is_placed x)) e h))
      from h (inr j) = inr ((c v).1 (j.inside, j.passes))

  round-takes : (v : ℕ) → ((¬ (P v)) × C v) ↔ Takes test t v
  round-takes v = (λ h. go ((c v).0 h.1) (placed-or-not (placement_at t v)) h.0, λ j. (λ h. is-not-placed j.free ((p v).0 h), (c v).1 (j.inside, j.passes)))
    where
      go : (v < length t) × T (test v) → PlacedIn t v ⊎ (placement_at t v ≡ unplaced) → ¬ (P v) → Takes test t v
      go j (inl h) free = absurd (free ((p v).1 h))
      go j (inr e) free = record { inside = j.0; free = e; passes = j.1 }

-- What the rounds of value k begin with are the table before them and the test of round (k, 0).
record LevelIs (a : Arena) (k : ℕ) : Type 0 where
  before : (v : ℕ) → (level a k).before v ↔ PlacedIn (table_before a k) v
  starting : (v : ℕ) → (level a k).starting v ↔ ((v < length (table_before a k)) × T (begins a k (table_before a k) v))

-- the condition to join in round (k, s + 1), where P is what the table t has placed
joins-is : (a : Arena) (P : Positions) (t : Table) → length t ≡ size a → ((w : ℕ) → P w ↔ PlacedIn t w)
    → (v : ℕ) → Joins a P v ↔ ((v < length t) × T (ready a t v))
joins-is a P t full p v = (
  λ j. (rw full j.0, (ready-joins a t v).1 (joins-map a P (PlacedIn t) (λ w. (p w).0) v j).1),
  λ h. joins-map a (PlacedIn t) P (λ w. (p w).1) v (rw full at h.0, (ready-joins a t v).0 h.1),
)

module _ (a : Arena) (k : ℕ) (is : LevelIs a k) where
  full : (s : ℕ) → length (table_after a (table_before a k) k s) ≡ size a
  full s = after-length a (table_before a k) k s ∙ before-length a k

  placed_by : (s v : ℕ) → PlacedBy a (level a k) s v ↔ PlacedIn (table_after a (table_before a k) k s) v
  unfolding PlacedBy table_after
  placed_by zero v = round-places (begins a k (table_before a k)) k 0 (table_before a k) (level a k).before (level a k).starting is.before is.starting v
  placed_by (suc s) v = step s (placed_by s) v
    where
      step : (s : ℕ) (p : (w : ℕ) → PlacedBy a (level a k) s w ↔ PlacedIn (table_after a (table_before a k) k s) w)
          (v : ℕ) → PlacedBy a (level a k) (suc s) v ↔ PlacedIn (table_after a (table_before a k) k (suc s)) v
      step s p v =
          let t = table_after a (table_before a k) k s in
          round-places (ready a t) k (suc s) t (PlacedBy a (level a k) s) (Joins a (PlacedBy a (level a k) s)) p
          (joins-is a (PlacedBy a (level a k) s) t (full s) p) v

  joins-in : (s v : ℕ) → JoinsIn a (level a k) s v ↔ RoundTakes a (table_before a k) k s v
  unfolding JoinsIn
  joins-in zero v = round-takes (begins a k (table_before a k)) k 0 (table_before a k) (level a k).before (level a k).starting is.before is.starting v
  joins-in (suc s) v =
      let t = table_after a (table_before a k) k s in
      round-takes (ready a t) k (suc s) t (PlacedBy a (level a k) s) (Joins a (PlacedBy a (level a k) s)) (placed_by s)
      (joins-is a (PlacedBy a (level a k) s) t (full s) (placed_by s)) v

-- value k in the table before value k + 1 is being taken by a round of value k
pub value_taken : (a : Arena) (k w : ℕ) → T (has_value k (placement_at (table_before a (suc k)) w)) ↔ ((s : ℕ) × RoundTakes a (table_before a k) k s w)
unfolding has_value
value_taken a k w = (look (placement_at (table_before a (suc k)) w) refl, taken)
  where
    look : (x : Placement) → placement_at (table_before a (suc k)) w ≡ x → T (has_value k x) → (s : ℕ) × RoundTakes a (table_before a k) k s w
    look unplaced e h = absurd h
    look (placed i r) e h =
        (r, subst (λ (x : ℕ). RoundTakes a (table_before a x) x r w) (eqb→eq i k h) (before-from a (suc k) w i r e).takes)

    taken : (s : ℕ) × RoundTakes a (table_before a k) k s w → T (has_value k (placement_at (table_before a (suc k)) w))
    taken t =
        let e = (after-before a k t.0).keeps w k t.0 (taken-is-placed a (table_before a k) k t.0 w t.1) in
        subst (λ (x : Placement). T (has_value k x)) (sym e) (eqb_refl k)

level-zero : (a : Arena) → LevelIs a zero
unfolding level begins
level-zero a =
    record {
      before = λ v. (λ h. absurd h, λ h. is-not-placed (before-all a v) h);
      starting = λ v. (λ h. (rw (before-length a 0) h.0, h.1), λ h. (rw (before-length a 0) at h.0, h.1));
    }

module _ (a : Arena) (wf : WellFormed a) where
  level-next : (k : ℕ) → LevelIs a k → LevelIs a (suc k)
  unfolding level begins table_before
  level-next k is =
      record {
        before = λ v. (λ h. extends-placed (after-before a k h.0) v ((placed_by a k is h.0 v).0 h.1), λ h. (size a, (placed_by a k is (size a) v).1 h));
        starting = λ v. (begin v, begun v);
      }
    where
      t : Table
      t = table_before a (suc k)

      into : ℕ → Bool
      into w = has_value k (placement_at t w)

      begin : (v : ℕ) → T (may_be_disturbed (owner_at a v)) × ((w : ℕ) × Disturbance a v w × ((s : ℕ) × JoinsIn a (level a k) s w)) → (v < length t) × T (begins a (suc k) t v)
      begin v (may, d) =
          let r = d.2 in
          let h = (value_taken a k d.0).1 (r.0, (joins-in a k is r.0 d.0).0 r.1) in
          (rw (before-length a (suc k)) (disturbance-leaves a wf v d.0 d.1), (some-disturbance a v into).1 (d.0, d.1, h))

      begun : (v : ℕ) → (v < length t) × T (begins a (suc k) t v) → T (may_be_disturbed (owner_at a v)) × ((w : ℕ) × Disturbance a v w × ((s : ℕ) × JoinsIn a (level a k) s w))
      begun v h =
          let d = (some-disturbance a v into).0 h.1 in
          let r = (value_taken a k d.0).0 d.2 in
          (wf.disturbed v d.0 d.1, (d.0, d.1, (r.0, (joins-in a k is r.0 d.0).1 r.1)))

  level-is : (k : ℕ) → LevelIs a k
  level-is zero = level-zero a
  level-is (suc k) = level-next k (level-is k)

  -- "Round (k, s) has v", as the table says it
  pub table-is-the-rounds : (k s v : ℕ) → Round a k s v ↔ (placement_at (table a) v ≡ placed k s)
  unfolding Round
  table-is-the-rounds k s v = Iff.trans (joins-in a k (level-is k) s v) (table-has-the-taken a k s v)

  -- "Positions never placed"
  pub table-has-the-never-placed : (v : ℕ) → NeverPlaced a v ↔ (placement_at (table a) v ≡ unplaced)
  table-has-the-never-placed v = (λ never. look never (placement_at (table a) v) refl, λ e k s r. is-not-placed e (is-placed ((table-is-the-rounds k s v).0 r)))
    where
      look : NeverPlaced a v → (x : Placement) → placement_at (table a) v ≡ x → placement_at (table a) v ≡ unplaced
      look never unplaced e = e
      look never (placed k s) e = absurd (never k s ((table-is-the-rounds k s v).1 e))

  -- the rows of values and steps that the table gives are those of the rounds
  pub rows-are-the-rounds : (k s v : ℕ) → Round a k s v ↔ ((round_value a v ≡ fin k) × (round_step a v ≡ fin s))
  unfolding round_value round_step
  rows-are-the-rounds k s v = (
    λ r. let e = (table-is-the-rounds k s v).0 r in (value-of-placed e, step-of-placed e),
    λ e.
        let p = placed-of-value (placement_at (table a) v) k e.0 in
        let same = fin-injective p.0 s (sym (step-of-placed p.1) ∙ e.1) in
        (table-is-the-rounds k s v).1 (p.1 ∙ ap (placed k) same),
  )

  pub rows-have-the-never-placed : (v : ℕ) → NeverPlaced a v ↔ ((round_value a v ≡ ever) × (round_step a v ≡ ever))
  unfolding round_value round_step
  rows-have-the-never-placed v = (
    λ never. let e = (table-has-the-never-placed v).0 never in (value-of-unplaced e, step-of-unplaced e),
    λ e. (table-has-the-never-placed v).1 (unplaced-of-value (placement_at (table a) v) e.0),
  )
