-- The rounds end. A round that takes no position leaves the table, and then every later round of the value does; each other
-- round leaves fewer positions free, so after n steps a value is settled, and after n values no more are placed.
use Prim.Native.Nat.{ℕ, zero, suc, ◌+◌, ◌≤◌, ◌<◌}
use Rattle.std.proofs.Math.Decide.{le_ind, dec_le}
use Rattle.std.proofs.Common.{arith, ◌∙◌}
use Rattle.std.specs.Prelude.{◌≡◌, refl, ◌⊎◌, ◌↔◌}
use Rattle.std.proofs.Math.Path.{sym, subst}
use Rattle.std.proofs.Math.Logic.{inl, inr}
use Rattle.std.proofs.Math.ListN.{length}
use Rattle.std.proofs.Math.Dec.{T, eqb→eq}
use Rattle.game.specs.Arena.{Arena, size}
use Rattle.game.specs.Table.{Placement, unplaced, placed, Table, placement_at, has_value, ready, begins, table_after, table_before, table}
use Rattle.game.proofs.MoveTests.{some-disturbance}
use Rattle.game.proofs.TableLaws.{Extends, extends-refl, Takes, place_none, place-none-or-fewer, unchanged-takes-none, free_count, free-count-bound, none_free}
use Rattle.game.proofs.RoundTables.{RoundTakes, after-length, after-later, before-length, before-later, before-from, taken-is-placed}

-- no position is free and ready
abbrev pub Settled : Arena → Table → Type 0
Settled a t = (v : ℕ) → Takes (ready a t) t v → ⊥

module _ (a : Arena) (start : Table) (k : ℕ) where
  settled-next : (s : ℕ) → Settled a (table_after a start k s) → table_after a start k (suc s) ≡ table_after a start k s
  unfolding table_after
  settled-next s h = place_none (ready a (table_after a start k s)) (placed k (suc s)) (table_after a start k s) h

  -- a settled table stays
  pub settled-stays : (s j : ℕ) → s ≤ j → Settled a (table_after a start k s) → table_after a start k j ≡ table_after a start k s
  settled-stays s j h set =
      le_ind (λ (i : ℕ). table_after a start k i ≡ table_after a start k s) refl
      (λ i l e. settled-next i (subst (Settled a) (sym e) set) ∙ e) j h

  -- settled, or at least d + s fewer positions are free than there are
  abbrev pub SettledOrFewer : ℕ → ℕ → Type 0
  SettledOrFewer d s = Settled a (table_after a start k s) ⊎ (free_count (table_after a start k s) + (d + s) ≤ length start)

  pub settles : (d : ℕ) → SettledOrFewer d 0 → (s : ℕ) → SettledOrFewer d s
  unfolding table_after
  settles d first zero = first
  settles d first (suc s) = go (settles d first s)
    where
      rest : (table_after a start k (suc s) ≡ table_after a start k s) ⊎ (free_count (table_after a start k (suc s)) < free_count (table_after a start k s))
          → free_count (table_after a start k s) + (d + s) ≤ length start → SettledOrFewer d (suc s)
      rest (inl e) h = inl (subst (Settled a) (sym e) (unchanged-takes-none (ready a (table_after a start k s)) k (suc s) (table_after a start k s) e))
      rest (inr l) h = inr (omega arith)

      go : SettledOrFewer d s → SettledOrFewer d (suc s)
      go (inl set) = inl (subst (Settled a) (sym (settled-next s set)) set)
      go (inr h) = rest (place-none-or-fewer (ready a (table_after a start k s)) k (suc s) 0 (table_after a start k s)) h

  -- "after at most n steps a value is stable"
  pub value-settles : length start ≡ size a → Settled a (table_after a start k (size a))
  value-settles full = go (settles 0 (inr first) (size a))
    where
      first : free_count (table_after a start k 0) + (0 + 0) ≤ length start
      first = let b = free-count-bound (table_after a start k 0) in let l = after-length a start k 0 in omega arith

      go : SettledOrFewer 0 (size a) → Settled a (table_after a start k (size a))
      go (inl set) = set
      go (inr h) = λ v t. none_free (table_after a start k (size a)) v (omega arith) t.inside t.free

  -- the steps of a value may stop at the first round that takes no position
  pub steps-stop-early : length start ≡ size a → (s : ℕ) → Settled a (table_after a start k s) → table_after a start k (size a) ≡ table_after a start k s
  steps-stop-early full s set = go (dec_le s (size a))
    where
      go : Dec (s ≤ size a) → table_after a start k (size a) ≡ table_after a start k s
      go (yes h) = settled-stays s (size a) h set
      go (no g) = sym (settled-stays (size a) s (omega arith) (value-settles full))

  -- the rounds of a value change nothing, or take a position
  pub unchanged-or-fewer : (s : ℕ) → (table_after a start k s ≡ start) ⊎ (free_count (table_after a start k s) < free_count start)
  unfolding table_after
  unchanged-or-fewer zero = place-none-or-fewer (begins a k start) k 0 0 start
  unchanged-or-fewer (suc s) = go (unchanged-or-fewer s) (place-none-or-fewer (ready a t) k (suc s) 0 t)
    where
      t : Table
      t = table_after a start k s

      t' : Table
      t' = table_after a start k (suc s)

      go : (t ≡ start) ⊎ (free_count t < free_count start) → (t' ≡ t) ⊎ (free_count t' < free_count t) → (t' ≡ start) ⊎ (free_count t' < free_count start)
      go (inl e) (inl f) = inl (f ∙ e)
      go (inl e) (inr h) = inr (subst (λ (x : Table). free_count t' < free_count x) e h)
      go (inr l) (inl f) = inr (subst (λ (x : Table). free_count x < free_count start) (sym f) l)
      go (inr l) (inr h) = inr (omega arith)

-- the rounds of value k take no position
abbrev pub Idle : Arena → ℕ → Type 0
Idle a k = table_before a (suc k) ≡ table_before a k

module _ (a : Arena) where
  pub before-settled : (k : ℕ) → Settled a (table_before a (suc k))
  unfolding table_before
  before-settled k = value-settles a (table_before a k) k (before-length a k)

  -- so the next value begins with the table of the first settled step
  pub next-value-begins : (k s : ℕ) → Settled a (table_after a (table_before a k) k s) → table_before a (suc k) ≡ table_after a (table_before a k) k s
  unfolding table_before
  next-value-begins k s set = steps-stop-early a (table_before a k) k (before-length a k) s set

  -- a value is idle if its first round takes no position and the table before it is settled
  pub quiet-value-is-idle : (k : ℕ) → Settled a (table_before a k) → ((v : ℕ) → Takes (begins a k (table_before a k)) (table_before a k) v → ⊥) → Idle a k
  unfolding table_before table_after
  quiet-value-is-idle k set quiet =
      settled-stays a (table_before a k) k 0 (size a) (omega arith) (subst (Settled a) (sym first) set) ∙ first
    where
      first : table_after a (table_before a k) k 0 ≡ table_before a k
      first = place_none (begins a k (table_before a k)) (placed k 0) (table_before a k) quiet

  -- after an idle value no position has it, so none begins the next one
  idle-next : (k : ℕ) → Idle a k → Idle a (suc k)
  unfolding begins has_value
  idle-next k idle = quiet-value-is-idle (suc k) (before-settled k) quiet
    where
      no_value : (x : Placement) → (w : ℕ) → placement_at (table_before a k) w ≡ x → T (has_value k x) → ⊥
      no_value unplaced w e h = h
      no_value (placed i r) w e h = let b = before-from a k w i r e in let q = eqb→eq i k h in omega (arith, b.smaller)

      quiet : (v : ℕ) → Takes (begins a (suc k) (table_before a (suc k))) (table_before a (suc k)) v → ⊥
      quiet v t =
          let r = (some-disturbance a v (λ w. has_value k (placement_at (table_before a (suc k)) w))).0 t.passes in
          no_value (placement_at (table_before a k) r.0) r.0 refl (subst (λ (x : Table). T (has_value k (placement_at x r.0))) idle r.2)

  pub idle-stays : (k j : ℕ) → k ≤ j → Idle a k → table_before a j ≡ table_before a k
  idle-stays k j h idle =
      (le_ind (λ (i : ℕ). Idle a i × (table_before a i ≡ table_before a k)) (idle, refl)
      (λ i l e. (idle-next i e.0, e.0 ∙ e.1)) j h).1

  -- a value is idle or takes a position
  idle-or-takes : (k : ℕ) → Idle a k ⊎ (free_count (table_before a (suc k)) < free_count (table_before a k))
  unfolding table_before
  idle-or-takes k = unchanged-or-fewer a (table_before a k) k (size a)

  idle-or-fewer : (k : ℕ) → Idle a k ⊎ (free_count (table_before a k) + k ≤ size a)
  idle-or-fewer zero =
      inr (let b = free-count-bound (table_before a zero) in let l = before-length a zero in omega arith)
  idle-or-fewer (suc k) = go (idle-or-fewer k) (idle-or-takes k)
    where
      go : Idle a k ⊎ (free_count (table_before a k) + k ≤ size a) → Idle a k ⊎ (free_count (table_before a (suc k)) < free_count (table_before a k))
          → Idle a (suc k) ⊎ (free_count (table_before a (suc k)) + suc k ≤ size a)
      go (inl idle) d = inl (idle-next k idle)
      go (inr h) (inl idle) = inl (idle-next k idle)
      go (inr h) (inr fewer) = inr (omega arith)

  idle-at-size : Idle a (size a)
  idle-at-size = go (idle-or-fewer (size a)) (idle-or-takes (size a))
    where
      go : Idle a (size a) ⊎ (free_count (table_before a (size a)) + size a ≤ size a)
          → Idle a (size a) ⊎ (free_count (table_before a (suc (size a))) < free_count (table_before a (size a))) → Idle a (size a)
      go (inl idle) d = idle
      go (inr h) (inl idle) = idle
      go (inr h) (inr fewer) = absurd (omega arith)

  -- "after at most n values nothing is placed"
  pub values-end : (k : ℕ) → size a ≤ k → table_before a k ≡ table a
  unfolding table
  values-end k h = idle-stays (size a) k h idle-at-size

  -- the values may stop at the first that is idle
  pub values-stop-early : (k : ℕ) → Idle a k → table a ≡ table_before a k
  unfolding table
  values-stop-early k idle = go (dec_le k (size a))
    where
      go : Dec (k ≤ size a) → table_before a (size a) ≡ table_before a k
      go (yes h) = idle-stays k (size a) h idle
      go (no g) = sym (values-end k (omega arith))

  -- from value 1 on it is idle if its first round takes no position
  pub values-stop-at-a-quiet-round : (k : ℕ)
      → ((v : ℕ) → Takes (begins a (suc k) (table_before a (suc k))) (table_before a (suc k)) v → ⊥) → table a ≡ table_before a (suc k)
  values-stop-at-a-quiet-round k quiet = values-stop-early (suc k) (quiet-value-is-idle (suc k) (before-settled k) quiet)

  pub table-settled : Settled a (table a)
  table-settled = subst (Settled a) (values-end (suc (size a)) (omega arith)) (before-settled (size a))

  -- every table of a round is extended by the next value's first, and by the last of all
  pub after-before : (k s : ℕ) → Extends (table_after a (table_before a k) k s) (table_before a (suc k))
  unfolding table_before
  after-before k s = go (dec_le s (size a))
    where
      go : Dec (s ≤ size a) → Extends (table_after a (table_before a k) k s) (table_after a (table_before a k) k (size a))
      go (yes h) = after-later a (table_before a k) k s (size a) h
      go (no g) =
          subst (Extends (table_after a (table_before a k) k s))
          (settled-stays a (table_before a k) k (size a) s (omega arith) (value-settles a (table_before a k) k (before-length a k)))
          (extends-refl (table_after a (table_before a k) k s))

  pub before-table : (k : ℕ) → Extends (table_before a k) (table a)
  before-table k = subst (Extends (table_before a k)) (values-end (k + size a) (omega arith)) (before-later a k (k + size a) (omega arith))

  -- The table has v at (k, s) exactly when round (k, s) takes v.
  pub table-has-the-taken : (k s v : ℕ) → RoundTakes a (table_before a k) k s v ↔ (placement_at (table a) v ≡ placed k s)
  unfolding table
  table-has-the-taken k s v = (
    λ t. (before-table (suc k)).keeps v k s ((after-before k s).keeps v k s (taken-is-placed a (table_before a k) k s v t)),
    λ e. (before-from a (size a) v k s e).takes,
  )
