-- In a well-formed arena every value begins with a settled table, so each of its rounds up to the last takes a position:
-- finite values and steps are at most n − 1.
use Rattle.std.specs.Prelude.{ℕ, zero, suc, ◌<◌, ◌≡◌, refl, ◌⊎◌, T}
use Rattle.std.proofs.Common.{arith, sym, subst, inl, inr}
use Rattle.game.specs.Value.{fin}
use Rattle.game.specs.Arena.{Arena, Owner, controller, environment, nobody, WellFormed, size, owner_at, Meant, has_meant}
use Rattle.game.specs.Rounds.{JoinsAs}
use Rattle.game.specs.Table.{placed, Table, placement_at, table_after, table_before, table, round_value, round_step}
use Rattle.game.specs.FirstLine.{highest}
use Rattle.game.proofs.PlacementLaws.{is-not-placed, placed-of-value, placed-of-step}
use Rattle.game.proofs.TableLaws.{free_count, free-count-bound, none_free}
use Rattle.game.proofs.RoundTables.{RoundTakes, before-all, before-length, before-from}
use Rattle.game.proofs.Stable.{Settled, SettledOrFewer, settles, unchanged-or-fewer, before-settled, table-has-the-taken}
use Rattle.game.proofs.TableIsRounds.{PlacedIn, ready-joins}
use Rattle.game.proofs.FirstLineLaws.{highest-occurs}

module _ (a : Arena) (wf : WellFormed a) where
  -- no position joins before one is placed, since each O and L has a meant move and R never joins
  pub settled_before : (k : ℕ) → Settled a (table_before a k)
  settled_before zero v t = alone (owner_at a v) (wf.meant v inside) ((ready-joins a (table_before a zero) v).0 t.passes)
    where
      inside : v < size a
      inside = subst (λ (n : ℕ). v < n) (before-length a zero) t.inside

      alone : (o : Owner) → (T (has_meant o) → (w : ℕ) × Meant a v w) → JoinsAs o a (PlacedIn (table_before a zero)) v → ⊥
      alone controller some all = let m = some tt in is-not-placed (before-all a m.0) (all m.0 m.1)
      alone environment some joins = is-not-placed (before-all a joins.0) joins.2
      alone nobody some none = none
  settled_before (suc k) v t = before-settled a k v t

  -- a round (k, s) that takes a position has s below n
  pub step-within-size : (k s v : ℕ) → RoundTakes a (table_before a k) k s v → s < size a
  step-within-size k zero v t = let l = before-length a k in let h = t.inside in omega arith
  step-within-size k (suc s) v t = go (settles a (table_before a k) k 1 (first (unchanged-or-fewer a (table_before a k) k 0)) s)
    where
      after : ℕ → Table
      after = table_after a (table_before a k) k

      first : (after 0 ≡ table_before a k) ⊎ (free_count (after 0) < free_count (table_before a k)) → SettledOrFewer a (table_before a k) k 1 0
      first (inl e) = inl (subst (Settled a) (sym e) (settled_before k))
      first (inr h) = inr (let b = free-count-bound (table_before a k) in omega arith)

      some-free : (n : ℕ) → free_count (after s) ≡ n → 0 < n
      some-free zero z = absurd (none_free (after s) v z t.inside t.free)
      some-free (suc n) z = omega arith

      go : SettledOrFewer a (table_before a k) k 1 s → suc s < size a
      go (inl set) = absurd (set v t)
      go (inr h) = let l = before-length a k in let f = some-free (free_count (after s)) refl in omega arith

  -- "A finite value is at most n−1", and so is a step
  pub pair-within-size : (v k s : ℕ) → placement_at (table a) v ≡ placed k s → (k < size a) × (s < size a)
  unfolding table
  pair-within-size v k s e = ((before-from a (size a) v k s e).smaller, step-within-size k s v ((table-has-the-taken a k s v).1 e))

  pub round-value-within-size : (v k : ℕ) → round_value a v ≡ fin k → k < size a
  unfolding round_value
  round-value-within-size v k h = let p = placed-of-value (placement_at (table a) v) k h in (pair-within-size v k p.0 p.1).0

  pub round-step-within-size : (v s : ℕ) → round_step a v ≡ fin s → s < size a
  unfolding round_step
  round-step-within-size v s h = let p = placed-of-step (placement_at (table a) v) s h in (pair-within-size v p.0 s p.1).1

  pub highest-within-size : (k : ℕ) → highest (round_value a) (size a) ≡ fin k → k < size a
  highest-within-size k e = let r = highest-occurs (round_value a) (size a) k e in round-value-within-size r.0 k r.2
