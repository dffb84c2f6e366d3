-- What one round does to a table: the positions that are not placed and pass its test are placed, and nothing else
-- changes: lengths and placements stay. A round that takes no position leaves the table as it is, and any other leaves fewer
-- positions not placed.
use Prim.Native.Nat.{ℕ, zero, suc, ◌+◌, ◌≤◌, ◌<◌}
use Rattle.std.proofs.Math.Decide.{dec_lt}
use Rattle.std.proofs.Common.{not-suc-le-zero, le_of_suc-le-suc, arith, sym, ◌∙◌, ext_get_or}
use Rattle.std.specs.Prelude.{◌≡◌, ◌⊎◌, Bool, ◌&&◌, not}
use Rattle.std.proofs.Math.Path.{refl, ap, subst}
use Rattle.std.proofs.Math.Logic.{inl, inr}
use Rattle.std.proofs.Math.Bool.{true, false, cond}
use mathlib.Core.List.{[], ◌∷◌}
use Rattle.std.proofs.Math.ListN.{length, get_or-eq_default}
use Rattle.std.proofs.Math.Dec.{T}
use Rattle.game.proofs.PlacementLaws.{is-placed, is-not-placed, placed-where}
use Rattle.game.specs.Table.{Placement, unplaced, placed, Table, placement_at, is_placed, place}

-- a placed position is a position
pub placed-inside : (t : Table) (v : ℕ) → T (is_placed (placement_at t v)) → v < length t
placed-inside t v h = go (dec_lt v (length t))
  where
    go : Dec (v < length t) → v < length t
    go (yes l) = l
    go (no g) = absurd (is-not-placed (get_or-eq_default t unplaced (omega arith)) h)

-- the second table has the placements of the first
pub record Extends (t t' : Table) : Type 0 where
  pub keeps : (v k s : ℕ) → placement_at t v ≡ placed k s → placement_at t' v ≡ placed k s

pub extends-refl : (t : Table) → Extends t t
extends-refl t = record { keeps = λ v k s e. e }

pub extends-trans : {t t' t'' : Table} → Extends t t' → Extends t' t'' → Extends t t''
extends-trans p q = record { keeps = λ v k s e. q.keeps v k s (p.keeps v k s e) }

pub extends-placed : {t t' : Table} → Extends t t' → (v : ℕ) → T (is_placed (placement_at t v)) → T (is_placed (placement_at t' v))
extends-placed {t} {t'} x v h =
    let w = placed-where (placement_at t v) h in
    is-placed (x.keeps v w.0 w.1 w.2)

-- a round with this test takes v
pub record Takes (test : ℕ → Bool) (t : Table) (v : ℕ) : Type 0 where
  pub inside : v < length t
  pub free : placement_at t v ≡ unplaced
  pub passes : T (test v)

-- one round on a table
module _ (test : ℕ → Bool) (p : Placement) where
  pub place-length : (u : ℕ) (t : Table) → length (place test p u t) ≡ length t
  unfolding place
  place-length u [] = refl
  place-length u (x ∷ t) = ap suc (place-length (u + 1) t)

  place-from : (u : ℕ) (t : Table) (v : ℕ) → v < length t
      → placement_at (place test p u t) v ≡ cond (not (is_placed (placement_at t v)) && test (u + v)) p (placement_at t v)
  unfolding place
  place-from u [] v h = absurd (not-suc-le-zero h)
  place-from u (x ∷ t) zero h = ap (λ (i : ℕ). cond (not (is_placed x) && test i) p x) (omega arith)
  place-from u (x ∷ t) (suc v) h =
      place-from (u + 1) t v (le_of_suc-le-suc h)
      ∙ ap (λ (i : ℕ). cond (not (is_placed (placement_at t v)) && test i) p (placement_at t v)) (omega arith)

  pub place_at : (t : Table) (v : ℕ) → v < length t
      → placement_at (place test p 0 t) v ≡ cond (not (is_placed (placement_at t v)) && test v) p (placement_at t v)
  place_at t v h =
      place-from 0 t v h ∙ ap (λ (i : ℕ). cond (not (is_placed (placement_at t v)) && test i) p (placement_at t v)) (omega arith)

  pub place-past : (t : Table) (v : ℕ) → length t ≤ v → placement_at (place test p 0 t) v ≡ unplaced
  place-past t v h = get_or-eq_default (place test p 0 t) unplaced (rw place-length h)

  pub place-takes : (t : Table) (v : ℕ) → Takes test t v → placement_at (place test p 0 t) v ≡ p
  unfolding is_placed
  place-takes t v h = place_at t v h.inside ∙ go (placement_at t v) (test v) h.free h.passes
    where
      go : (x : Placement) (b : Bool) → x ≡ unplaced → T b → cond (not (is_placed x) && b) p x ≡ p
      go unplaced true e t = refl
      go unplaced false e t = absurd t
      go (placed k s) b e t = absurd (is-not-placed e tt)

  -- what the round leaves as it was
  pub place-leaves : (t : Table) (v : ℕ) → (placement_at (place test p 0 t) v ≡ placement_at t v) ⊎ Takes test t v
  unfolding is_placed
  place-leaves t v = look (dec_lt v (length t))
    where
      go : v < length t → (x : Placement) (b : Bool) → placement_at t v ≡ x → test v ≡ b
          → (cond (not (is_placed x) && b) p x ≡ x) ⊎ Takes test t v
      go l unplaced true e f = inr (record { inside = l; free = e; passes = subst T (sym f) tt })
      go l unplaced false e f = inl refl
      go l (placed k s) b e f = inl refl

      found : v < length t → (cond (not (is_placed (placement_at t v)) && test v) p (placement_at t v) ≡ placement_at t v) ⊎ Takes test t v
          → (placement_at (place test p 0 t) v ≡ placement_at t v) ⊎ Takes test t v
      found l (inl e) = inl (place_at t v l ∙ e)
      found l (inr h) = inr h

      look : Dec (v < length t) → (placement_at (place test p 0 t) v ≡ placement_at t v) ⊎ Takes test t v
      look (yes l) = found l (go l (placement_at t v) (test v) refl refl)
      look (no g) = inl (place-past t v (omega arith) ∙ sym (get_or-eq_default t unplaced (omega arith)))

  pub place-extends : (t : Table) → Extends t (place test p 0 t)
  place-extends t = record { keeps = λ v k s e. go v k s e (place-leaves t v) }
    where
      go : (v k s : ℕ) → placement_at t v ≡ placed k s → (placement_at (place test p 0 t) v ≡ placement_at t v) ⊎ Takes test t v
          → placement_at (place test p 0 t) v ≡ placed k s
      go v k s e (inl f) = f ∙ e
      go v k s e (inr h) = absurd (is-not-placed h.free (is-placed e))

  -- a round that takes no position changes nothing
  pub place_none : (t : Table) → ((v : ℕ) → Takes test t v → ⊥) → place test p 0 t ≡ t
  place_none t none = ext_get_or unplaced (place test p 0 t) t (place-length 0 t) (λ v h. go v (place-leaves t v))
    where
      go : (v : ℕ) → (placement_at (place test p 0 t) v ≡ placement_at t v) ⊎ Takes test t v → placement_at (place test p 0 t) v ≡ placement_at t v
      go v (inl e) = e
      go v (inr h) = absurd (none v h)

-- how many positions are not placed
unfoldable pub free_count : Table → ℕ
free_count [] = 0
free_count (x ∷ t) = cond (is_placed x) 0 1 + free_count t

pub free-count-bound : (t : Table) → free_count t ≤ length t
unfolding free_count
free-count-bound [] = omega arith
free-count-bound (x ∷ t) = go (is_placed x) (free-count-bound t)
  where
    go : (b : Bool) → free_count t ≤ length t → cond b 0 1 + free_count t ≤ suc (length t)
    go true h = omega arith
    go false h = omega arith

pub none_free : (t : Table) (v : ℕ) → free_count t ≡ 0 → v < length t → placement_at t v ≡ unplaced → ⊥
unfolding free_count is_placed
none_free [] v z h e = not-suc-le-zero h
none_free (unplaced ∷ t) v z h e = omega arith
none_free (placed k s ∷ t) zero z h e = is-not-placed e tt
none_free (placed k s ∷ t) (suc v) z h e = none_free t v (omega arith) (le_of_suc-le-suc h) e

module _ (test : ℕ → Bool) (k s : ℕ) where
  pub place-none-or-fewer : (u : ℕ) (t : Table)
      → (place test (placed k s) u t ≡ t) ⊎ (free_count (place test (placed k s) u t) < free_count t)
  unfolding place free_count is_placed
  place-none-or-fewer u [] = inl refl
  place-none-or-fewer u (placed i r ∷ t) = go (place-none-or-fewer (u + 1) t)
    where
      rest : Table
      rest = place test (placed k s) (u + 1) t

      go : (rest ≡ t) ⊎ (free_count rest < free_count t) → (◌≡◌ {A = Table} (placed i r ∷ rest) (placed i r ∷ t)) ⊎ (0 + free_count rest < 0 + free_count t)
      go (inl e) = inl (ap {B = Table} (λ r'. placed i r ∷ r') e)
      go (inr h) = inr (omega arith)
  place-none-or-fewer u (unplaced ∷ t) = go (test u) (place-none-or-fewer (u + 1) t)
    where
      rest : Table
      rest = place test (placed k s) (u + 1) t

      now : Bool → Placement
      now b = cond b (placed k s) unplaced

      go : (b : Bool) → (rest ≡ t) ⊎ (free_count rest < free_count t)
          → (◌≡◌ {A = Table} (now b ∷ rest) (unplaced ∷ t)) ⊎ (cond (is_placed (now b)) 0 1 + free_count rest < 1 + free_count t)
      go true (inl e) = inr (rw e (omega arith))
      go true (inr h) = inr (omega arith)
      go false (inl e) = inl (ap {B = Table} (λ r'. unplaced ∷ r') e)
      go false (inr h) = inr (omega arith)

  -- no position was taken where nothing has changed
  pub unchanged-takes-none : (t : Table) → place test (placed k s) 0 t ≡ t → (v : ℕ) → Takes test t v → ⊥
  unchanged-takes-none t e v h =
      is-not-placed h.free (is-placed (subst (λ (x : Table). placement_at x v ≡ placed k s) e (place-takes test (placed k s) t v h)))
