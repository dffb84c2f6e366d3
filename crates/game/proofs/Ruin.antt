-- The upper half of what a certificate gives: against every controller some play, along which the value plus the cost never rises, comes to an
-- unsafe position, where the value is 0. So it costs at most the value at the start. The play is found by condition 5: each
-- move of it is a disturbance to a smaller value, or leads to an earlier position; so the search ends, by induction on
-- a bound of the value and, within it, on a bound of the step.
use Rattle.std.specs.Prelude.{ℕ, zero, suc, ◌<◌, ◌≡◌, refl, ◌⊎◌, false, T}
use Rattle.std.proofs.Common.{arith, zero-add, sym, subst, ◌∙◌, inl, inr, ⊎_elim}
use Rattle.game.specs.Value.{Value, fin, ever, ◌≼◌, ◌≺◌, ◌⊕◌}
use Rattle.game.specs.Arena.{Arena, Owner, controller, environment, nobody, size, owner_at, unsafe, Meant, Disturbance, WellFormed}
use Rattle.game.specs.Play.{Trail, still, meant, disturbed, last, cost, disturbance_cost, Controller, Allows, Play}
use Rattle.game.specs.Worth.{AtMost}
use Rattle.game.specs.Certificate.{CertifiedAt, Certificate, Earlier, MeantRuin}
use Rattle.game.proofs.ValueLaws.{≼refl, ≡→≼, ≼trans, ≺≼trans, ≺→≼, ⊕zero, ⊕mono, ≼⊕trans, ⊕fin, below-is-finite, fin-is-not-ever, fin≺, ≺-suc, ≺-below-suc, ⊕≺, ⊀zero}
use Rattle.game.proofs.PlayLaws.{by-test, disturbance-costs, stands-unsafe, stays-inside}
use Rattle.game.proofs.Bounds.{at-most-from-play, at-most-ever}

-- along the trail from v the value plus the cost never rises
unfoldable pub NeverRises : Arena → (ℕ → Value) → ℕ → Trail → Type 0
NeverRises a value v still = Unit {0}
NeverRises a value v (meant t w) = NeverRises a value v t × (value w ≼ value (last v t))
NeverRises a value v (disturbed t w) = NeverRises a value v t × (value w ⊕ disturbance_cost a (last v t) w ≼ value (last v t))

pub never-rises : (a : Arena) (value : ℕ → Value) (v : ℕ) (t : Trail) → NeverRises a value v t → value (last v t) ⊕ cost a v t ≼ value v
unfolding last cost NeverRises
never-rises a value v still h = rw (⊕zero (value v)) (≼refl (value v))
never-rises a value v (meant t w) (h, less) =
    ≼trans _ _ _ (⊕mono _ _ (cost a v t) (cost a v t) less (omega arith)) (never-rises a value v t h)
never-rises a value v (disturbed t w) (h, less) =
    ≼⊕trans _ _ _ (disturbance_cost a (last v t) w) (cost a v t) less (never-rises a value v t h)

-- a play of the controller along which the value plus the cost never rises
pub record Falling (a : Arena) (value : ℕ → Value) (σ : Controller a) (v : ℕ) (t : Trail) : Type 0 where
  pub play : Play a σ v t
  pub falls : NeverRises a value v t

-- one that stands at an unsafe position
pub record Ruin (a : Arena) (value : ℕ → Value) (σ : Controller a) (v : ℕ) : Type 0 where
  pub trail : Trail
  pub falling : Falling a value σ v trail
  pub stands : T (unsafe a (last v trail))

module _
    (a : Arena) (wf : WellFormed a) (value choice step : ℕ → Value) (certificate : Certificate a value choice step)
    (σ : Controller a) (v : ℕ)
  where
    -- where such a play stands, the conditions hold
    here : (t : Trail) → Falling a value σ v t → CertifiedAt a value choice step (last v t)
    here t f = certificate (last v t) (stays-inside a wf σ v t f.play)

    pub ruin-gives-at-most : Ruin a value σ v → AtMost a σ v (value v)
    ruin-gives-at-most r =
        let t = r.trail in
        let f = r.falling in
        let zero-there = (here t f).unsafe-zero r.stands in
        let bound = rw (zero-there, ⊕fin 0 (cost a v t), zero-add (cost a v t)) at (never-rises a value v t f.falls) in
        at-most-from-play a σ v (value v) (record { trail = t; play = f.play; ends = stands-unsafe a v t r.stands }) bound

    -- one more move
    then-meant :
        (t : Trail) → Falling a value σ v t
        → (w : ℕ) → Meant a (last v t) w
        → Allows (owner_at a (last v t)) (σ.pick v t) w
        → value w ≼ value (last v t)
        → Falling a value σ v (meant t w)
    unfolding Play NeverRises
    then-meant t f w m allowed less = record { play = (f.play, m, allowed); falls = (f.falls, less) }

    then-disturbed :
        (t : Trail) → Falling a value σ v t
        → (w : ℕ) → Disturbance a (last v t) w
        → value w ⊕ disturbance_cost a (last v t) w ≼ value (last v t)
        → Falling a value σ v (disturbed t w)
    unfolding Play NeverRises
    then-disturbed t f w d less = record { play = (f.play, d); falls = (f.falls, less) }

    -- every such play that stands below the bound of the value goes on to ruin; the same with a bound of the step
    abbrev BelowValue : ℕ → Type 0
    BelowValue k = (t : Trail) → Falling a value σ v t → value (last v t) ≺ fin k → Ruin a value σ v

    abbrev BelowStep : ℕ → ℕ → Type 0
    BelowStep k s = (t : Trail) → Falling a value σ v t → value (last v t) ≼ fin k → step (last v t) ≺ fin s → Ruin a value σ v

    -- the next move of a play that stands within both bounds: whichever move condition 5 offers leads to a play within a smaller one
    module _
        (k s : ℕ) (values : BelowValue k) (steps : BelowStep k s)
        (t : Trail) (f : Falling a value σ v t) (small : value (last v t) ≼ fin k) (early : step (last v t) ≺ fin (suc s))
      where
        by-earlier :
            (w : ℕ) → Meant a (last v t) w
            → Allows (owner_at a (last v t)) (σ.pick v t) w
            → Earlier a value choice step w (last v t)
            → Ruin a value σ v
        unfolding last
        by-earlier w m allowed (inl less) = values (meant t w) (then-meant t f w m allowed (≺→≼ _ _ less)) (≺≼trans _ _ _ less small)
        by-earlier w m allowed (inr (same, less)) =
            let low = ≡→≼ (value w) (value (last v t)) same in
            steps (meant t w) (then-meant t f w m allowed low) (≼trans _ _ _ low small) (≺-below-suc _ _ s less early)

        by-disturbance : (w : ℕ) → Disturbance a (last v t) w → value w ⊕ disturbance_cost a (last v t) w ≼ value (last v t) → Ruin a value σ v
        unfolding last
        by-disturbance w d less =
            values (disturbed t w) (then-disturbed t f w d less) (⊕≺ _ _ k (disturbance-costs a (last v t) w) (≼trans _ _ _ less small))

        by-owner-of : (o : Owner) → owner_at a (last v t) ≡ o → MeantRuin a value choice step o (last v t) → Ruin a value σ v
        by-owner-of controller own all =
            let w = σ.pick v t in
            let m = σ.legal v t own in
            by-earlier w m (subst (λ (o : Owner). Allows o w w) (sym own) refl) (all w m)
        by-owner-of environment own (w, m, less) = by-earlier w m (subst (λ (o : Owner). Allows o (σ.pick v t) w) (sym own) tt) less
        by-owner-of nobody own none = absurd none

        one-move : T (unsafe a (last v t)) ⊎ (unsafe a (last v t) ≡ false) → Ruin a value σ v
        one-move (inl bad) = record { trail = t; falling = f; stands = bad }
        one-move (inr safe) =
            let (j, e, le) = below-is-finite (value (last v t)) k small in
            ⊎_elim (λ r. by-disturbance r.0 r.1 r.2) (by-owner-of (owner_at a (last v t)) refl) ((here t f).ruin safe j e)

    by-steps : (k : ℕ) → BelowValue k → (s : ℕ) → BelowStep k s
    by-steps k values zero t f small early = absurd (⊀zero _ early)
    by-steps k values (suc s) t f small early = one-move k s values (by-steps k values s) t f small early (by-test (unsafe a (last v t)))

    -- a finite value has a step
    step-at : (u k : ℕ) → CertifiedAt a value choice step u → value u ≼ fin k → (s : ℕ) × (step u ≡ fin s)
    step-at u k at small = go (step u) refl
      where
        go : (x : Value) → step u ≡ x → (s : ℕ) × (step u ≡ fin s)
        go (fin s) e = (s, e)
        go ever e =
            let (j, f, le) = below-is-finite (value u) k small in
            absurd (fin-is-not-ever j (sym f ∙ at.dash.0 e))

    by_values : (k : ℕ) → BelowValue k
    by_values zero t f less = absurd (⊀zero _ less)
    by_values (suc k) t f less =
        let small = ≺-suc _ k less in
        let (s, e) = step-at (last v t) k (here t f) small in
        by-steps k (by_values k) (suc s) t f small (rw e (fin≺ s (suc s) (omega arith)))

    -- from a position of finite value against every controller
    pub ruin-from : (k : ℕ) → v < size a → value v ≡ fin k → Ruin a value σ v
    unfolding last Play NeverRises
    ruin-from k inside e = by_values (suc k) still (record { play = inside; falls = tt }) (rw e (fin≺ k (suc k) (omega arith)))

    -- every controller is worth at most the value
    pub certificate-gives-at-most : v < size a → AtMost a σ v (value v)
    certificate-gives-at-most inside = go (value v) refl
      where
        go : (x : Value) → value v ≡ x → AtMost a σ v (value v)
        go (fin k) e = ruin-gives-at-most (ruin-from k inside e)
        go ever e = rw e (at-most-ever a σ v)
