-- Worth and value by bounds: a controller is worth at least x from v if every unsafe play costs x or more, and at most x
-- (`AtMost`) if some unsafe play costs x or less. A worth is both bounds at once, and a value is the lower bound for some
-- controller and the upper bound for every one. So the laws below and most later ones need no cases on the value.
use Rattle.std.specs.Prelude.{ℕ, ◌≤◌, ◌↔◌}
use Rattle.std.proofs.Common.{arith, not-le_of_lt}
use Rattle.std.proofs.Math.Decide.{dec_le}
use Rattle.std.proofs.Math.Nat.{le_of_eq, le_antisymm}
use Rattle.game.specs.Value.{Value, fin, ever, ◌≼◌}
use Rattle.game.specs.Arena.{Arena}
use Rattle.game.specs.Play.{Trail, Controller, Play, Unsafe, cost}
use Rattle.game.specs.Worth.{UnsafePlay, AlwaysSafe, SafeBelow, WorthIs, AtMost, IsValue}
use Rattle.game.proofs.ValueLaws.{fin≼, ≼fin, ≼ever, ever≼, ≼trans, fin-is-not-ever}

-- every unsafe play of the controller from v costs x or more
abbrev pub AtLeast : (a : Arena) → Controller a → ℕ → Value → Type 0
AtLeast a σ v x = (t : Trail) → Play a σ v t → Unsafe a v t → x ≼ fin (cost a v t)

module _ (a : Arena) (σ : Controller a) (v : ℕ) where
  pub safe-below-is-at-least : (k : ℕ) → SafeBelow a σ v k ↔ AtLeast a σ v (fin k)
  safe-below-is-at-least k = (
    λ safe t p u. fin≼ _ _ (go safe t p u (dec_le k (cost a v t))),
    λ low t p less u. not-le_of_lt less (≼fin _ _ (low t p u)),
  )
    where
      go : SafeBelow a σ v k → (t : Trail) → Play a σ v t → Unsafe a v t → Dec (k ≤ cost a v t) → k ≤ cost a v t
      go safe t p u (yes h) = h
      go safe t p u (no h) = absurd (safe t p (omega arith) u)

  pub always-safe-is-at-least : AlwaysSafe a σ v ↔ AtLeast a σ v ever
  always-safe-is-at-least = (λ safe t p u. absurd (safe t p u), λ low t p u. fin-is-not-ever _ (ever≼ _ (low t p u)))

  pub at-most-ever : AtMost a σ v ever
  unfolding AtMost
  at-most-ever = tt

  -- an unsafe play of cost x or less
  pub at-most-from-play : (x : Value) (u : UnsafePlay a σ v) → fin (cost a v u.trail) ≼ x → AtMost a σ v x
  unfolding AtMost
  at-most-from-play (fin k) u h = (u, ≼fin (cost a v u.trail) k h)
  at-most-from-play ever u h = tt

  -- the bounds are in order
  pub bounds-in-order : (x y : Value) → AtLeast a σ v x → AtMost a σ v y → x ≼ y
  unfolding AtMost
  bounds-in-order x (fin k) low (u, h) = ≼trans _ _ _ (low u.trail u.play u.ends) (fin≼ _ _ h)
  bounds-in-order x ever low h = ≼ever x

  pub worth-is-both-bounds : (x : Value) → WorthIs a σ v x ↔ (AtLeast a σ v x × AtMost a σ v x)
  unfolding WorthIs AtMost
  worth-is-both-bounds (fin k) = (λ h. (λ t p u. fin≼ _ _ (h.1 t p u), (h.0.0, le_of_eq h.0.1)), both)
    where
      both : AtLeast a σ v (fin k) × AtMost a σ v (fin k) → WorthIs a σ v (fin k)
      both (low, (u, h)) = ((u, le_antisymm h (least u.trail u.play u.ends)), least)
        where
          least : (t : Trail) → Play a σ v t → Unsafe a v t → k ≤ cost a v t
          least t p u = ≼fin _ _ (low t p u)
  worth-is-both-bounds ever = (λ h. (always-safe-is-at-least.0 h, tt), λ h. always-safe-is-at-least.1 h.0)

pub value-is-bounds :
    (a : Arena) (v : ℕ) (x : Value)
    → IsValue a v x ↔ (((σ : Controller a) × AtLeast a σ v x) × ((σ : Controller a) → AtMost a σ v x))
unfolding IsValue AtMost
value-is-bounds a v (fin k) = (
  λ h. ((h.0.0, (safe-below-is-at-least a h.0.0 v k).0 h.0.1), h.1),
  λ h. ((h.0.0, (safe-below-is-at-least a h.0.0 v k).1 h.0.1), h.1),
)
value-is-bounds a v ever = (
  λ h. ((h.0, (always-safe-is-at-least a h.0 v).0 h.1), λ σ. tt),
  λ h. (h.0.0, (always-safe-is-at-least a h.0.0 v).1 h.0.1),
)
