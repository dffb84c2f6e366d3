-- The line of a chart's refusal is one of the chart's lines, of which there are 4,609 at most: so the five places of the program's
-- field hold it whole. A refusal that gives a line above 0 comes after 3 in the order, so the counts are within their limits.
use Rattle.std.specs.Prelude.{ℕ, ◌+◌, ◌≤◌, ◌<◌, ◌≡◌, refl, Bool, true, false, List, [], ◌∷◌, ltb, Err}
use native.Mathlib.Omega.{arith}
use Rattle.std.proofs.Common.{mod-eq_of_lt, inr, ltb-true, ltb-false}
use Rattle.std.proofs.Math.Logic.{inl}
use Rattle.line.specs.Text.{line_text}
use Rattle.line.specs.declared.Entry.TheVariants.{Number}
use Rattle.refusal.specs.Numbers.{misdrawn_line, numbers_of}
use Rattle.refusal.specs.declared.Misdrawn.{Misdrawn}
use Rattle.refusal.specs.declared.Misdrawn.TheVariants.{Length, Form, Limits, Count, Sequence, Endpoint, Disturbed, Resting, Order, NoMeant}
use Rattle.refusal.specs.declared.Refusal.TheVariants.{Chart as OfChart}
use Rattle.chart.specs.Text.{positions_of, moves_of}
use Rattle.chart.specs.Examined.{examined}
use Rattle.chart.specs.Exact.{refused-exactly}
use Rattle.chart.specs.Refusals.{BadDisturbance, BadEndpoint, BadForm, First, MeantAtRest, OutOfOrder, OutOfSequence, OutsideLimits, WithoutMeant}
use Rattle.response.specs.Response.{refusal_text}

module _ (text : List ℕ) where
  within-limits : (OutsideLimits text → ⊥) → positions_of text + moves_of text ≤ 4608
  unfolding OutsideLimits
  within-limits none =
      let n : 512 < positions_of text → ⊥ = λ l. none (inr (inl l)) in
      let m : 4096 < moves_of text → ⊥ = λ l. none (inr (inr (inr l))) in
      omega arith

  -- line 0, or a line after the first, where 3 does not apply
  one-of-the-lines : (line : ℕ) → line ≤ positions_of text + moves_of text → (0 < line → OutsideLimits text → ⊥) → line ≤ 4608
  one-of-the-lines line l none = go (ltb 0 line) refl
    where
      go : (b : Bool) → ltb 0 line ≡ b → line ≤ 4608
      go true e = omega (arith, within-limits (none (ltb-true 0 line e)))
      go false e = omega (arith, ltb-false 0 line e)

  line-within : (r : Misdrawn) → First text r → misdrawn_line r ≤ 4608
  unfolding BadForm OutOfSequence BadEndpoint BadDisturbance MeantAtRest OutOfOrder WithoutMeant
  line-within Length f = omega arith
  line-within Limits f = omega arith
  line-within Count f = omega arith
  line-within (Form line) f = one-of-the-lines line f.applies.0 (λ p. f.none_before Limits (inr (refl, inl p)))
  line-within (Sequence line) f = one-of-the-lines line (omega (arith, f.applies.0.1)) (λ p. f.none_before Limits (inr (refl, inl p)))
  line-within (Endpoint line) f = one-of-the-lines line f.applies.0.1 (λ p. f.none_before Limits (inr (refl, inl p)))
  line-within (Disturbed line) f = one-of-the-lines line f.applies.0.1 (λ p. f.none_before Limits (inr (refl, inl p)))
  line-within (Resting line) f = one-of-the-lines line f.applies.0.1 (λ p. f.none_before Limits (inr (refl, inl p)))
  line-within (Order line) f = one-of-the-lines line f.applies.0.1 (λ p. f.none_before Limits (inr (refl, inl p)))
  line-within (NoMeant line) f = one-of-the-lines line (omega (arith, f.applies.0.1)) (λ p. f.none_before Limits (inl (omega arith)))

  -- the program writes the refusal's own line
  pub refusal-line-whole : (r : Misdrawn) → examined text ≡ Err r →
      refusal_text (OfChart r) ≡ line_text 82 (Number (numbers_of (OfChart r)).number ∷ Number (numbers_of (OfChart r)).line ∷ [])
  refusal-line-whole r e = rw (mod-eq_of_lt {n = misdrawn_line r} {m = 100000} (omega (arith, line-within r ((refused-exactly text r).0 e))))
