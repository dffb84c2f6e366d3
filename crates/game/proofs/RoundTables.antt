-- The tables of the rounds, one after the other: each has the placements of those before it, and a position at
-- (k, s) was taken by round (k, s).
use Prim.Native.Nat.{ℕ, zero, suc, ◌≤◌, ◌<◌}
use Rattle.std.proofs.Math.Decide.{le_ind, dec_lt}
use Rattle.std.proofs.Common.{arith, sym, ◌∙◌, subst}
use Rattle.std.specs.Prelude.{◌≡◌, ◌⊎◌, Bool, length, replicate}
use Rattle.std.proofs.Math.Logic.{inl, inr}
use Rattle.std.proofs.lemmas.List.{length-replicate, get_or-replicate}
use Rattle.std.proofs.Math.ListN.{get_or-eq_default}
use Rattle.game.specs.Arena.{Arena, size}
use Rattle.game.specs.Table.{unplaced, placed, Table, placement_at, ready, begins, table_after, table_before}
use Rattle.game.proofs.PlacementLaws.{is-not-placed, is-placed}
use Rattle.game.proofs.TableLaws.{Extends, extends-refl, extends-trans, Takes, place-length, place-extends, place-leaves, place-takes}

-- Round (k, s), where `start` is the table before round (k, 0): the table that it meets, and its test
abbrev pub table_for : Arena → Table → ℕ → ℕ → Table
table_for a start k zero = start
table_for a start k (suc s) = table_after a start k s

abbrev pub test_for : Arena → Table → ℕ → ℕ → ℕ → Bool
test_for a start k zero = begins a k start
test_for a start k (suc s) = ready a (table_after a start k s)

-- it takes v
abbrev pub RoundTakes : Arena → Table → ℕ → ℕ → ℕ → Type 0
RoundTakes a start k s v = Takes (test_for a start k s) (table_for a start k s) v

module _ (a : Arena) (start : Table) (k : ℕ) where
  pub after-length : (s : ℕ) → length (table_after a start k s) ≡ length start
  unfolding table_after
  after-length zero = place-length (begins a k start) (placed k 0) 0 start
  after-length (suc s) = place-length (ready a (table_after a start k s)) (placed k (suc s)) 0 (table_after a start k s) ∙ after-length s

  pub after_next : (s : ℕ) → Extends (table_after a start k s) (table_after a start k (suc s))
  unfolding table_after
  after_next s = place-extends (ready a (table_after a start k s)) (placed k (suc s)) (table_after a start k s)

  pub after-later : (s j : ℕ) → s ≤ j → Extends (table_after a start k s) (table_after a start k j)
  after-later s j h =
      le_ind (λ (i : ℕ). Extends (table_after a start k s) (table_after a start k i)) (extends-refl (table_after a start k s))
      (λ i l x. extends-trans x (after_next i)) j h

  pub after-start : (s : ℕ) → Extends start (table_after a start k s)
  unfolding table_after
  after-start zero = place-extends (begins a k start) (placed k 0) start
  after-start (suc s) = extends-trans (after-start s) (after_next s)

  -- a position that a round takes is placed by it
  pub taken-is-placed : (s v : ℕ) → RoundTakes a start k s v → placement_at (table_after a start k s) v ≡ placed k s
  unfolding table_after
  taken-is-placed zero v h = place-takes (begins a k start) (placed k 0) start v h
  taken-is-placed (suc s) v h = place-takes (ready a (table_after a start k s)) (placed k (suc s)) (table_after a start k s) v h

  -- a position that is placed was placed before, or taken by a round of this value
  pub record TakenAt (s v i r : ℕ) : Type 0 where
    pub this-value : i ≡ k
    pub by-now : r ≤ s
    pub takes : RoundTakes a start k r v

  now-taken : (s v i r : ℕ) → placement_at (table_after a start k s) v ≡ placed i r → RoundTakes a start k s v → TakenAt s v i r
  now-taken s v i r e h =
      let p = taken-is-placed s v h in
      let q : i ≡ k = cc in
      let now : s ≡ r = cc in
      record { this-value = q; by-now = omega arith; takes = subst (λ (x : ℕ). RoundTakes a start k x v) now h }

  pub after-from : (s v i r : ℕ) → placement_at (table_after a start k s) v ≡ placed i r → (placement_at start v ≡ placed i r) ⊎ TakenAt s v i r
  unfolding table_after
  after-from zero v i r e = go (place-leaves (begins a k start) (placed k 0) start v)
    where
      go : (placement_at (table_after a start k zero) v ≡ placement_at start v) ⊎ RoundTakes a start k zero v
          → (placement_at start v ≡ placed i r) ⊎ TakenAt zero v i r
      go (inl f) = inl (sym f ∙ e)
      go (inr h) = inr (now-taken zero v i r e h)
  after-from (suc s) v i r e = go (place-leaves (ready a (table_after a start k s)) (placed k (suc s)) (table_after a start k s) v) (after-from s v i r)
    where
      later : (placement_at start v ≡ placed i r) ⊎ TakenAt s v i r → (placement_at start v ≡ placed i r) ⊎ TakenAt (suc s) v i r
      later (inl f) = inl f
      later (inr t) = inr (record { this-value = t.this-value; by-now = omega (arith, t.by-now); takes = t.takes })

      go : (placement_at (table_after a start k (suc s)) v ≡ placement_at (table_after a start k s) v) ⊎ RoundTakes a start k (suc s) v
          → (placement_at (table_after a start k s) v ≡ placed i r → (placement_at start v ≡ placed i r) ⊎ TakenAt s v i r)
          → (placement_at start v ≡ placed i r) ⊎ TakenAt (suc s) v i r
      go (inl f) below = later (below (sym f ∙ e))
      go (inr h) below = inr (now-taken (suc s) v i r e h)

pub before-length : (a : Arena) (k : ℕ) → length (table_before a k) ≡ size a
unfolding table_before
before-length a zero = length-replicate (size a) unplaced
before-length a (suc k) = after-length a (table_before a k) k (size a) ∙ before-length a k

before-next : (a : Arena) (k : ℕ) → Extends (table_before a k) (table_before a (suc k))
unfolding table_before
before-next a k = after-start a (table_before a k) k (size a)

pub before-later : (a : Arena) (k j : ℕ) → k ≤ j → Extends (table_before a k) (table_before a j)
before-later a k j h =
    le_ind (λ (i : ℕ). Extends (table_before a k) (table_before a i)) (extends-refl (table_before a k))
    (λ i l x. extends-trans x (before-next a i)) j h

-- no position is placed before the first round
pub before-all : (a : Arena) (v : ℕ) → placement_at (table_before a zero) v ≡ unplaced
unfolding table_before
before-all a v = go (dec_lt v (size a))
  where
    go : Dec (v < size a) → placement_at (table_before a zero) v ≡ unplaced
    go (yes h) = get_or-replicate (size a) v unplaced unplaced h
    go (no g) = get_or-eq_default (replicate (size a) unplaced) unplaced (rw (length-replicate (size a) unplaced) (omega arith))

-- a position placed before the rounds of value k was taken by a round of a smaller value
pub record TakenBefore (a : Arena) (k v i r : ℕ) : Type 0 where
  pub smaller : i < k
  pub by_size : r ≤ size a
  pub takes : RoundTakes a (table_before a i) i r v

pub before-from : (a : Arena) (k v i r : ℕ) → placement_at (table_before a k) v ≡ placed i r → TakenBefore a k v i r
unfolding table_before
before-from a zero v i r e = absurd (is-not-placed (before-all a v) (is-placed e))
before-from a (suc k) v i r e = go (after-from a (table_before a k) k (size a) v i r e) (before-from a k v i r)
  where
    go : (placement_at (table_before a k) v ≡ placed i r) ⊎ TakenAt a (table_before a k) k (size a) v i r
        → (placement_at (table_before a k) v ≡ placed i r → TakenBefore a k v i r) → TakenBefore a (suc k) v i r
    go (inl f) below = let t = below f in record { smaller = omega (arith, t.smaller); by_size = t.by_size; takes = t.takes }
    go (inr t) below =
        record {
          smaller = omega (arith, t.this-value);
          by_size = t.by-now;
          takes = subst (λ (x : ℕ). RoundTakes a (table_before a x) x r v) (sym t.this-value) t.takes;
        }
