-- The journal's resilience is the value. A controller is k-resilient exactly when no trail of an unending play that costs less than k is
-- unsafe, and ω-resilient exactly when (ω+1)-resilient: prefixes of unending plays are such trails, and these extend to unending plays. Plays are
-- such trails, so no controller is more resilient than it is worth; and a steady one, which takes no notice of stays at R, is as resilient.
-- Strategies of the journal are blind to the bits; a positional controller is one, and that of the rounds' choices attains the
-- value. So the supremum is a maximum, in every well-formed arena.
use Prim.Native.Nat.{ℕ, zero, suc, ◌≤◌, ◌<◌, suc-le-suc}
use native.Mathlib.Omega.{arith}
use Rattle.std.proofs.Math.Decide.{dec_le, dec_lt}
use Rattle.std.proofs.Common.{lt_of_le_of_lt, ap, subst, inl, inr}
use Rattle.std.proofs.Math.Nat.{not-le_of_lt}
use Rattle.std.specs.Prelude.{◌≡◌, ◌⊎◌, ◌↔◌, Bool}
use Rattle.std.proofs.Math.Path.{refl, sym}
use Rattle.std.proofs.Math.Bool.{true, false, cond}
use Rattle.std.proofs.Math.Dec.{T}
use Rattle.game.specs.Value.{Value, fin, ever, ◌≼◌}
use Rattle.game.specs.Arena.{Arena, size, unsafe, WellFormed}
use Rattle.game.specs.Play.{Trail, still, meant, disturbed, last, cost, Controller, Unsafe, Legal, positional}
use Rattle.game.specs.Worth.{AtMost, IsValue}
use Rattle.game.specs.Table.{round_value}
use Rattle.game.specs.Best.{best_at}
use Rattle.game.specs.Journal.{Unending, prefix, Consistent, Safe, Ordinal, finite, ω, ω+1, disturbances, Resilient, forget, Strategy, ◌⊑◌, UpperBound, ResilienceIs, ordinal_of}
use Rattle.game.proofs.ValueLaws.{fin≼, ≼fin, ever≼, fin-is-not-ever}
use Rattle.game.proofs.PlayLaws.{disturbance-costs-one, stands-unsafe}
use Rattle.game.proofs.Bounds.{AtLeast, bounds-in-order, worth-is-both-bounds, value-is-bounds}
use Rattle.game.proofs.Ways.{Way, Steady, play-is-way, awake, awake-cost, awake-unsafe, awake-is-play, positional-is-steady}
use Rattle.game.proofs.Extend.{moved, moved-last, moved-unsafe, moved-way, Extension, way-can-be-extended}
use Rattle.game.proofs.BestLaws.{best-is-legal}
use Rattle.game.proofs.RoundValues.{rounds-give-the-values, the-value-is-the-rounds, round-choices-are-worth-the-values}

-- the order of ordinals is that of values, with ω below "ever" alone
ordinals-in-order : (x y : Value) → x ≼ y → ordinal_of x ⊑ ordinal_of y
unfolding ◌≼◌ ◌⊑◌ ordinal_of
ordinals-in-order (fin j) (fin k) h = suc-le-suc h
ordinals-in-order (fin j) ever h = tt
ordinals-in-order ever (fin k) h = absurd h
ordinals-in-order ever ever h = tt

ordinal-injective : (x y : Value) → ordinal_of x ≡ ordinal_of y → x ≡ y
unfolding ordinal_of
ordinal-injective (fin j) (fin k) e = ap fin (finite-injective j k e)
  where
    finite-injective : (j k : ℕ) → finite j ≡ finite k → j ≡ k
    finite-injective j k e = cc
ordinal-injective (fin j) ever e = let z : ◌≡◌ {A = ℕ} 0 1 = cc in absurd (omega arith)
ordinal-injective ever (fin k) e = let z : ◌≡◌ {A = ℕ} 0 1 = cc in absurd (omega arith)
ordinal-injective ever ever e = refl

ω-below : (x : Value) → ever ≼ x → ω ⊑ ordinal_of x
unfolding ◌≼◌ ◌⊑◌ ordinal_of
ω-below (fin k) h = absurd h
ω-below ever h = tt

⊑antisym : (α β : Ordinal) → α ⊑ β → β ⊑ α → α ≡ β
unfolding ◌⊑◌
⊑antisym (finite j) (finite k) p q = ap finite (omega arith)
⊑antisym (finite j) ω p q = absurd q
⊑antisym (finite j) ω+1 p q = absurd q
⊑antisym ω (finite k) p q = absurd p
⊑antisym ω ω p q = refl
⊑antisym ω ω+1 p q = absurd q
⊑antisym ω+1 (finite k) p q = absurd p
⊑antisym ω+1 ω p q = absurd p
⊑antisym ω+1 ω+1 p q = refl

forget-last : (v : ℕ) (t : Trail) → last v (forget t) ≡ last v t
unfolding last forget
forget-last v still = refl
forget-last v (meant t w) = refl
forget-last v (disturbed t w) = refl

module _ (a : Arena) (v : ℕ) (ρ : Unending a v) where
  -- the journal counts the bits, document 01 adds up what the disturbances count: the same while each counts one
  pub bits-are-the-cost : (j : ℕ) → disturbances ρ j ≡ cost a v (prefix ρ j)
  unfolding disturbances prefix cost
  bits-are-the-cost zero = refl
  bits-are-the-cost (suc j) = go (ρ.bit j) (bits-are-the-cost j)
    where
      go :
          (b : Bool) → disturbances ρ j ≡ cost a v (prefix ρ j)
          → cond b (suc (disturbances ρ j)) (disturbances ρ j) ≡ cost a v (moved b (prefix ρ j) (ρ.position (suc j)))
      go true e = let one = disturbance-costs-one a (last v (prefix ρ j)) (ρ.position (suc j)) in omega arith
      go false e = e

  prefix-last : (j : ℕ) → last v (prefix ρ j) ≡ ρ.position j
  unfolding prefix last
  prefix-last zero = sym ρ.starts
  prefix-last (suc j) = moved-last v (ρ.bit j) (prefix ρ j) (ρ.position (suc j))

  -- the prefixes of a consistent unending play are trails of the controller
  pub prefix-is-way : (σ : Controller a) → Consistent σ ρ → (j : ℕ) → Way a σ v (prefix ρ j)
  unfolding prefix Way
  prefix-is-way σ consistent zero = ρ.inside
  prefix-is-way σ consistent (suc j) =
      moved-way
      a σ v (ρ.bit j) (prefix ρ j) (ρ.position (suc j))
      (prefix-is-way σ consistent j)
      (rw (prefix-last j) (ρ.edge j))
      (λ bit own. consistent j (rw (prefix-last j) at own) bit)

  -- an unsafe prefix has an unsafe position; so a play whose prefixes are safe is safe
  unsafe-prefix : (j : ℕ) → Unsafe a v (prefix ρ j) → (i : ℕ) × T (unsafe a (ρ.position i))
  unfolding prefix Unsafe
  unsafe-prefix zero u = (0, rw ρ.starts u)
  unsafe-prefix (suc j) u = go (unsafe-prefix j) (moved-unsafe a v (ρ.bit j) (prefix ρ j) (ρ.position (suc j)) u)
    where
      go :
          (Unsafe a v (prefix ρ j) → (i : ℕ) × T (unsafe a (ρ.position i)))
          → Unsafe a v (prefix ρ j) ⊎ T (unsafe a (ρ.position (suc j)))
          → (i : ℕ) × T (unsafe a (ρ.position i))
      go earlier (inl u) = earlier u
      go earlier (inr u) = (suc j, u)

  safe-prefixes : ((j : ℕ) → Unsafe a v (prefix ρ j) → ⊥) → Safe ρ
  safe-prefixes safe j u = safe j (stands-unsafe a v (prefix ρ j) (rw (prefix-last j) u))

-- a trail whose extension is safe is safe
safe-extension : (a : Arena) (σ : Controller a) (v : ℕ) (t : Trail) (e : Extension a σ v t) → Safe e.play → Unsafe a v t → ⊥
safe-extension a σ v t e safe u =
    let bad = unsafe-prefix a v e.play e.length (rw e.extends u) in
    safe bad.0 bad.1

-- every unsafe trail of the controller from v costs x or more
abbrev WaysAtLeast : (a : Arena) → Controller a → ℕ → Value → Type 0
WaysAtLeast a σ v x = (t : Trail) → Way a σ v t → Unsafe a v t → x ≼ fin (cost a v t)

module _ (a : Arena) (wf : WellFormed a) (σ : Controller a) (v : ℕ) where
  -- an unending play with an unsafe prefix is not safe, and each trail is a prefix of one that costs no more
  costs-at-least : (k : ℕ) → Resilient a σ v (finite k) → WaysAtLeast a σ v (fin k)
  costs-at-least k resilient t p u = fin≼ _ _ (go (dec_le k (cost a v t)))
    where
      go : Dec (k ≤ cost a v t) → k ≤ cost a v t
      go (yes h) = h
      go (no g) =
          let e = way-can-be-extended a σ v wf t p in
          let few : (j : ℕ) → disturbances e.play j < k = λ j. rw (bits-are-the-cost a v e.play j) (lt_of_le_of_lt (e.no_more j) (omega arith)) in
          absurd (safe-extension a σ v t e (resilient e.play e.consistent few) u)

  -- ω-resilient already: no trail is unsafe
  never-unsafe : Resilient a σ v ω → WaysAtLeast a σ v ever
  never-unsafe resilient t p u =
      let e = way-can-be-extended a σ v wf t p in
      let few : (j : ℕ) → disturbances e.play j < suc (cost a v t) = λ j. rw (bits-are-the-cost a v e.play j) (suc-le-suc (e.no_more j)) in
      absurd (safe-extension a σ v t e (resilient e.play e.consistent (suc (cost a v t), few)) u)

  resilient-on-ways : (x : Value) → Resilient a σ v (ordinal_of x) ↔ WaysAtLeast a σ v x
  unfolding ordinal_of
  resilient-on-ways (fin k) = (
    costs-at-least k,
    λ low ρ consistent fewer. safe-prefixes a v ρ λ j u.
        not-le_of_lt (rw (bits-are-the-cost a v ρ j) at (fewer j)) (≼fin _ _ (low (prefix ρ j) (prefix-is-way a v ρ σ consistent j) u)),
  )
  resilient-on-ways ever = (
    λ resilient. never-unsafe (λ ρ consistent fewer. resilient ρ consistent tt),
    λ low ρ consistent fewer. safe-prefixes a v ρ λ j u. fin-is-not-ever _ (ever≼ _ (low (prefix ρ j) (prefix-is-way a v ρ σ consistent j) u)),
  )

  pub ω-resilience : Resilient a σ v ω ↔ Resilient a σ v ω+1
  unfolding ordinal_of
  ω-resilience = (
    λ resilient. (resilient-on-ways ever).1 (never-unsafe resilient),
    λ resilient ρ consistent fewer. resilient ρ consistent tt,
  )

  -- resilient is worth at least
  pub resilient-gives-at-least : (x : Value) → Resilient a σ v (ordinal_of x) → AtLeast a σ v x
  resilient-gives-at-least x resilient t p u = (resilient-on-ways x).0 resilient t (play-is-way a σ v t p) u

  -- and of a steady controller the other way: without its stays a trail is a play
  pub resilient-is-at-least : Steady a σ v → (x : Value) → Resilient a σ v (ordinal_of x) ↔ AtLeast a σ v x
  resilient-is-at-least steady x = (
    resilient-gives-at-least x,
    λ low. (resilient-on-ways x).1 λ t p u.
        subst (λ (k : ℕ). x ≼ fin k) (awake-cost a σ v t p) (low (awake a v t) (awake-is-play a σ v steady t p) (awake-unsafe a σ v t p u)),
  )

  -- no controller is more resilient than it is worth at most
  below : (y x : Value) → Resilient a σ v (ordinal_of y) → AtMost a σ v x → y ≼ x
  below y x resilient most = bounds-in-order a σ v y x (resilient-gives-at-least y resilient) most

  resilience-bounded : (x : Value) (β : Ordinal) → AtMost a σ v x → Resilient a σ v β → β ⊑ ordinal_of x
  unfolding ordinal_of
  resilience-bounded x (finite j) most resilient = ordinals-in-order (fin j) x (below (fin j) x resilient most)
  resilience-bounded x ω most resilient = ω-below x (below ever x (ω-resilience.0 resilient) most)
  resilience-bounded x ω+1 most resilient = ordinals-in-order ever x (below ever x resilient most)

-- a positional controller is blind to the bits
pub positional-strategy : (a : Arena) (choice : ℕ → Value) → Legal a choice → Strategy a
unfolding positional
positional-strategy a choice legal = record { acts = positional a choice legal; blind = λ v t. rw (forget-last v t) }

pub resilience-is-unique : (a : Arena) (v : ℕ) (α β : Ordinal) → ResilienceIs a v α → ResilienceIs a v β → α ≡ β
resilience-is-unique a v α β p q = ⊑antisym α β (p.least β q.bound) (q.least α p.bound)

-- the supremum as a maximum: α is the greatest for which there is an α-resilient strategy from v
pub record AttainedResilience (a : Arena) (v : ℕ) (α : Ordinal) : Type 0 where
  pub strategy : Strategy a
  pub attained : Resilient a strategy.acts v α
  pub bound : UpperBound a v α

pub attained-is-resilience : (a : Arena) (v : ℕ) (α : Ordinal) → AttainedResilience a v α → ResilienceIs a v α
attained-is-resilience a v α r = record { bound = r.bound; least = λ β bound. bound r.strategy α r.attained }

-- the rounds' choices
round-strategy : (a : Arena) → WellFormed a → Strategy a
round-strategy a wf = positional-strategy a (best_at a (round_value a)) (best-is-legal a (round_value a) wf)

module _ (a : Arena) (wf : WellFormed a) (v : ℕ) (inside : v < size a) where
  rounds-attain-the-resilience : AttainedResilience a v (ordinal_of (round_value a v))
  unfolding round-strategy positional-strategy
  rounds-attain-the-resilience =
      let σ = round-strategy a wf in
      let worth = round-choices-are-worth-the-values a wf v inside in
      let at_most = ((value-is-bounds a v (round_value a v)).0 (rounds-give-the-values a wf v inside)).1 in
      record {
        strategy = σ;
        attained = (resilient-is-at-least a wf σ.acts v (positional-is-steady a (best_at a (round_value a)) (best-is-legal a (round_value a) wf) v) (round_value a v)).1 ((worth-is-both-bounds a σ.acts v (round_value a v)).0 worth).0;
        bound = λ τ β resilient. resilience-bounded a wf τ.acts v (round_value a v) β (at_most τ.acts) resilient;
      }

  rounds-give-the-resilience : ResilienceIs a v (ordinal_of (round_value a v))
  rounds-give-the-resilience = attained-is-resilience a v (ordinal_of (round_value a v)) rounds-attain-the-resilience

  the-resilience-is-the-rounds : (α : Ordinal) → ResilienceIs a v α → ordinal_of (round_value a v) ≡ α
  the-resilience-is-the-rounds α r = resilience-is-unique a v (ordinal_of (round_value a v)) α rounds-give-the-resilience r

  pub resilience-is-attained : (α : Ordinal) → ResilienceIs a v α → AttainedResilience a v α
  resilience-is-attained α r = subst (AttainedResilience a v) (the-resilience-is-the-rounds α r) rounds-attain-the-resilience

  -- a value is the journal's resilience
  pub value-is-resilience : (x : Value) → IsValue a v x ↔ ResilienceIs a v (ordinal_of x)
  value-is-resilience x = (
    λ i. rw (the-value-is-the-rounds a wf v x inside i) rounds-give-the-resilience,
    λ r. subst (IsValue a v) (ordinal-injective (round_value a v) x (the-resilience-is-the-rounds (ordinal_of x) r)) (rounds-give-the-values a wf v inside),
  )

-- "The journal's value ω can't occur for safety"
pub ω-does-not-occur : (a : Arena) → WellFormed a → (v : ℕ) → ResilienceIs a v ω → ⊥
unfolding ◌⊑◌
ω-does-not-occur a wf v r = go (dec_lt v (size a))
  where
    go : Dec (v < size a) → ⊥
    go (yes inside) =
        let here = resilience-is-attained a wf v inside ω r in
        r.bound here.strategy ω+1 ((ω-resilience a wf here.strategy.acts v).0 here.attained)
    -- no play starts outside the arena
    go (no outside) = r.bound (round-strategy a wf) ω+1 (λ ρ consistent fewer. absurd (outside ρ.inside))
