-- Trails and a function of positions that no move lowers by more than its length. Along a trail it falls by no more than the trail's length; where
-- it falls by all of it, it falls by the whole length of each move. Disturbances with their costs are one such length, moves another.
use Rattle.std.specs.Prelude.{ℕ, ◌+◌, ◌≤◌, ◌≡◌, Bool}
use Rattle.std.proofs.Common.{arith, sym, ◌∙◌}
use Rattle.std.proofs.Math.Path.{ap}
use Rattle.std.proofs.Math.Bool.{true, false}
use Rattle.game.specs.Value.{Value, fin, ◌≼◌, ◌⊕◌}
use Rattle.game.proofs.ValueLaws.{fin-injective, ≼refl, ≼fin, ⊕zero, ⊕fin, ⊕≼trans, below-is-finite}
use Rattle.game.specs.Play.{Trail, still, meant, disturbed, last}

-- every move of the trail from v is one of these; `true` is a disturbance
unfoldable pub Along : (Bool → ℕ → ℕ → Type 0) → ℕ → Trail → Type 0
Along Goes v still = Unit {0}
Along Goes v (meant t w) = Along Goes v t × Goes false (last v t) w
Along Goes v (disturbed t w) = Along Goes v t × Goes true (last v t) w

-- the sum of the moves' lengths
unfoldable pub total : (Bool → ℕ → ℕ → ℕ) → ℕ → Trail → ℕ
total len v still = 0
total len v (meant t w) = total len v t + len false (last v t) w
total len v (disturbed t w) = total len v t + len true (last v t) w

pub along-map : {P Q : Bool → ℕ → ℕ → Type 0} → ((b : Bool) (u w : ℕ) → P b u w → Q b u w) → (v : ℕ) (t : Trail) → Along P v t → Along Q v t
unfolding Along
along-map f v still p = tt
along-map f v (meant t w) (p, q) = (along-map f v t p, f false (last v t) w q)
along-map f v (disturbed t w) (p, q) = (along-map f v t p, f true (last v t) w q)

-- the function falls by the whole length of the move
pub record Exact (len : Bool → ℕ → ℕ → ℕ) (f : ℕ → Value) (b : Bool) (u w : ℕ) : Type 0 where
  pub left : ℕ
  pub there : f w ≡ fin left
  pub here : f u ≡ fin (left + len b u w)

module _ (Goes : Bool → ℕ → ℕ → Type 0) (len : Bool → ℕ → ℕ → ℕ) (f : ℕ → Value) (holds : (b : Bool) (u w : ℕ) → Goes b u w → f u ≼ f w ⊕ len b u w) where
  pub bounded : (v : ℕ) (t : Trail) → Along Goes v t → f v ≼ f (last v t) ⊕ total len v t
  unfolding Along total last
  bounded v still p = rw (⊕zero (f v)) (≼refl (f v))
  bounded v (meant t w) (p, q) = ⊕≼trans _ _ _ (total len v t) (len false (last v t) w) (bounded v t p) (holds false (last v t) w q)
  bounded v (disturbed t w) (p, q) = ⊕≼trans _ _ _ (total len v t) (len true (last v t) w) (bounded v t p) (holds true (last v t) w q)

  abbrev ExactGoes : Bool → ℕ → ℕ → Type 0
  ExactGoes b u w = Goes b u w × Exact len f b u w

  -- the last move of a trail along which it falls by all of its length
  module _ (v : ℕ) (t : Trail) (p : Along Goes v t) (b : Bool) (w : ℕ) (q : Goes b (last v t) w)
      (k j : ℕ) (start : f v ≡ fin k) (end : f w ≡ fin j) (most : total len v t + len b (last v t) w + j ≤ k) where
    abbrev u : ℕ
    u = last v t

    before : (i : ℕ) × (f u ≡ fin i) × (i ≤ j + len b u w)
    before = below-is-finite (f u) (j + len b u w) (rw (end, ⊕fin j (len b u w)) at (holds b u w q))

    at_least : k ≤ before.0 + total len v t
    at_least = ≼fin _ _ (rw (start, before.1, ⊕fin before.0 (total len v t)) at (bounded v t p))

    last-exact : Exact len f b (last v t) w
    last-exact = record { left = j; there = end; here = before.1 ∙ ap fin (omega (arith, before.2, at_least)) }

    rest-most : total len v t + before.0 ≤ k
    rest-most = omega (arith, before.2)

  pub exact : (v : ℕ) (t : Trail) → Along Goes v t → (k j : ℕ) → f v ≡ fin k → f (last v t) ≡ fin j → total len v t + j ≤ k → Along ExactGoes v t
  unfolding Along total last
  exact v still p k j start end most = tt
  exact v (meant t w) (p, q) k j start end most =
      let i = before v t p false w q k j start end most in
      (exact v t p k i.0 start i.1 (rest-most v t p false w q k j start end most), (q, last-exact v t p false w q k j start end most))
  exact v (disturbed t w) (p, q) k j start end most =
      let i = before v t p true w q k j start end most in
      (exact v t p k i.0 start i.1 (rest-most v t p true w q k j start end most), (q, last-exact v t p true w q k j start end most))

-- where it falls by the whole length of each move, it falls by the sum
module _ (len : Bool → ℕ → ℕ → ℕ) (f : ℕ → Value) (v : ℕ) where
  pub summed : (t : Trail) → Along (Exact len f) v t → (j : ℕ) → f (last v t) ≡ fin j → f v ≡ fin (j + total len v t)
  unfolding Along total last
  summed still p j end = end ∙ ap fin (omega arith)
  summed (meant t w) (p, q) j end =
      let same = fin-injective q.left j (sym q.there ∙ end) in
      summed t p (q.left + len false (last v t) w) q.here ∙ ap fin (omega arith)
  summed (disturbed t w) (p, q) j end =
      let same = fin-injective q.left j (sym q.there ∙ end) in
      summed t p (q.left + len true (last v t) w) q.here ∙ ap fin (omega arith)
