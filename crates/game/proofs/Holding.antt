-- The lower half of what a certificate gives: no move of a play takes the value plus the cost so far below what it was. It is shown for one
-- move, from the conditions at the one position that it leaves; then for every play of a controller, with any memory, that
-- keeps the values. So such a controller is worth at least the value where it starts.
use Rattle.std.specs.Prelude.{ℕ, ◌+◌, ◌≡◌, refl, T}
use Rattle.std.proofs.Common.{arith, zero-add, inl, inr}
use Rattle.game.specs.Value.{Value, fin, ◌≼◌, ◌≺◌, ◌⊕◌}
use Rattle.game.specs.Arena.{Arena, Owner, controller, environment, nobody, owner_at, unsafe, Meant, Disturbance, WellFormed}
use Rattle.game.specs.Play.{Trail, still, meant, disturbed, last, cost, disturbance_cost, Controller, Allows, Play, Unsafe, LegalAs, Legal, positional, target_of}
use Rattle.game.specs.Certificate.{CertifiedAt, Certificate, MeantHold}
use Rattle.game.proofs.ValueLaws.{fin≼, ≼refl, ≼trans, ≺-not-≼, ⊕zero, ⊕mono, ⊕≼trans, ⊕fin}
use Rattle.game.proofs.PlayLaws.{environment-is-not-controller, nobody-is-not-controller, target-is-named, stays-inside, positional-pick}
use Rattle.game.proofs.Bounds.{AtLeast}

-- Wherever a play of the controller from v stands at a position of its own, the pick's value is at least the value there.
abbrev pub Keeps : (a : Arena) → (ℕ → Value) → Controller a → ℕ → Type 0
Keeps a value σ v = (t : Trail) → Play a σ v t → owner_at a (last v t) ≡ controller → value (last v t) ≼ value (σ.pick v t)

module _ (a : Arena) (value choice step : ℕ → Value) where
  -- Across the meant move that follows where p is picked, a bound x from below stays one.
  pub meant-move-holds :
      (v p w c : ℕ) (x : Value)
      → CertifiedAt a value choice step v
      → (owner_at a v ≡ controller → value v ≼ value p)
      → Meant a v w
      → Allows (owner_at a v) p w
      → x ≼ value v ⊕ c
      → x ≼ value w ⊕ c
  meant-move-holds v p w c x at keeps m allowed h =
      ≼trans _ _ _ h (⊕mono _ _ c c (go (owner_at a v) keeps allowed at.holding.0) (omega arith))
    where
      go : (o : Owner) → (o ≡ controller → value v ≼ value p) → Allows o p w → MeantHold a value choice step o v → value v ≼ value w
      go controller keeps e holding = rw e (keeps refl)
      go environment keeps e holding = holding w m
      go nobody keeps e holding = absurd e

  -- the row's choice keeps the values
  pub choice-keeps : (v : ℕ) → CertifiedAt a value choice step v → owner_at a v ≡ controller → value v ≼ value (target_of (choice v))
  choice-keeps v at = go (owner_at a v) at.legal at.holding.0
    where
      go : (o : Owner) → LegalAs o a v (choice v) → MeantHold a value choice step o v → o ≡ controller → value v ≼ value (target_of (choice v))
      go controller (w, e, m) holding own = holding _ (target-is-named (choice v) w e)
      go environment dash holding own = absurd (environment-is-not-controller own)
      go nobody dash holding own = absurd (nobody-is-not-controller own)

  -- the same bound across the row's own choice (at L, any meant move)
  pub chosen-move-holds :
      (v w c : ℕ) (x : Value)
      → CertifiedAt a value choice step v
      → Meant a v w
      → Allows (owner_at a v) (target_of (choice v)) w
      → x ≼ value v ⊕ c
      → x ≼ value w ⊕ c
  chosen-move-holds v w c x at m allowed h = meant-move-holds v (target_of (choice v)) w c x at (choice-keeps v at) m allowed h

  -- and across a disturbance, with its cost
  pub disturbance-holds :
      (v w c : ℕ) (x : Value)
      → CertifiedAt a value choice step v
      → Disturbance a v w
      → x ≼ value v ⊕ c
      → x ≼ value w ⊕ (c + disturbance_cost a v w)
  disturbance-holds v w c x at d h = ⊕≼trans _ _ _ c (disturbance_cost a v w) h (at.holding.1 w d)

module _ (a : Arena) (wf : WellFormed a) (value choice step : ℕ → Value) (certificate : Certificate a value choice step) where
  module _ (σ : Controller a) (v : ℕ) (keeps : Keeps a value σ v) where
    -- where a play stands, the conditions hold
    here : (t : Trail) → Play a σ v t → CertifiedAt a value choice step (last v t)
    here t p = certificate (last v t) (stays-inside a wf σ v t p)

    -- on every play the value plus the cost is at least the value at the start
    pub plays-hold : (t : Trail) → Play a σ v t → value v ≼ value (last v t) ⊕ cost a v t
    unfolding last cost Play
    plays-hold still p = rw (⊕zero (value v)) (≼refl (value v))
    plays-hold (meant t w) (p, m, allowed) =
        meant-move-holds a value choice step (last v t) _ w (cost a v t) (value v) (here t p) (keeps t p) m allowed (plays-hold t p)
    plays-hold (disturbed t w) (p, d) =
        disturbance-holds a value choice step (last v t) w (cost a v t) (value v) (here t p) d (plays-hold t p)

    -- where a play stands at an unsafe position, it has cost that value at least
    standing-unsafe-costs : (t : Trail) → Play a σ v t → T (unsafe a (last v t)) → value v ≼ fin (cost a v t)
    standing-unsafe-costs t p u = rw ((here t p).unsafe-zero u, ⊕fin 0 (cost a v t), zero-add (cost a v t)) at (plays-hold t p)

    -- so the controller is worth at least the value: no unsafe play costs less
    pub keeping-gives-at-least : AtLeast a σ v (value v)
    unfolding last cost Play Unsafe
    keeping-gives-at-least still p u = standing-unsafe-costs still p u
    keeping-gives-at-least (meant t w) p (inl u) = keeping-gives-at-least t p.0 u
    keeping-gives-at-least (meant t w) p (inr u) = standing-unsafe-costs (meant t w) p u
    keeping-gives-at-least (disturbed t w) p (inl u) = ≼trans _ _ _ (keeping-gives-at-least t p.0 u) (fin≼ _ _ (omega arith))
    keeping-gives-at-least (disturbed t w) p (inr u) = standing-unsafe-costs (disturbed t w) p u

    -- said of the plays: safe while the cost is below the value, and always where the value is "ever"
    pub keeping-is-safe : (t : Trail) → Play a σ v t → fin (cost a v t) ≺ value v → Unsafe a v t → ⊥
    keeping-is-safe t p less u = ≺-not-≼ _ _ less (keeping-gives-at-least t p u)

  -- the row's controller is one that keeps the values
  pub choices-keep : (legal : Legal a choice) (v : ℕ) → Keeps a value (positional a choice legal) v
  choices-keep legal v t p own =
      let at = certificate (last v t) (stays-inside a wf (positional a choice legal) v t p) in
      rw (positional-pick a choice legal v t) (choice-keeps a value choice step (last v t) at own)
