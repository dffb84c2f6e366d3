-- The trails that unending plays pass. They are plays, but for stays at R, which a play doesn't have: there it stops or is disturbed. Without its
-- stays such a trail stands where it did, costs the same and is as unsafe; and it is a play, if the controller's picks don't depend on the stays.
use Rattle.std.specs.Prelude.{ℕ, ◌<◌, ◌≡◌, ◌⊎◌}
use Rattle.std.proofs.Math.Path.{refl, sym, subst}
use Rattle.std.proofs.Common.{ap, ◌∙◌, inl, inr}
use Rattle.std.proofs.Math.Logic.{⊎_map}
use Rattle.std.proofs.Math.Dec.{T}
use Rattle.game.specs.Value.{Value}
use Rattle.game.specs.Arena.{Arena, Owner, controller, environment, nobody, size, owner_at, unsafe, Disturbance, WellFormed}
use Rattle.game.specs.Play.{Trail, still, meant, disturbed, last, cost, Controller, Allows, Play, Unsafe, Legal, positional}
use Rattle.game.specs.Journal.{Onward}
use Rattle.game.proofs.PlayLaws.{environment-is-not-controller, stands-unsafe, meant-inside, disturbance-inside}

-- an unending play of the controller from v may pass the trail
unfoldable pub Way : (a : Arena) → Controller a → ℕ → Trail → Type 0
Way a σ v still = v < size a
Way a σ v (meant t w) = Way a σ v t × Onward (owner_at a (last v t)) a (last v t) w × (owner_at a (last v t) ≡ controller → w ≡ σ.pick v t)
Way a σ v (disturbed t w) = Way a σ v t × Disturbance a (last v t) w

-- the trail without its stays
unfoldable pub awake_as : Owner → Trail → ℕ → Trail
awake_as controller t w = meant t w
awake_as environment t w = meant t w
awake_as nobody t w = t

unfoldable pub awake : Arena → ℕ → Trail → Trail
awake a v still = still
awake a v (meant t w) = awake_as (owner_at a (last v t)) (awake a v t) w
awake a v (disturbed t w) = disturbed (awake a v t) w

-- the controller's picks don't depend on how long the play stayed
abbrev pub Steady : (a : Arena) → Controller a → ℕ → Type 0
Steady a σ v = (t : Trail) → Way a σ v t → σ.pick v t ≡ σ.pick v (awake a v t)

module _ (a : Arena) (σ : Controller a) (v : ℕ) where
  pub way-starts-inside : (t : Trail) → Way a σ v t → v < size a
  unfolding Way
  way-starts-inside still p = p
  way-starts-inside (meant t w) p = way-starts-inside t p.0
  way-starts-inside (disturbed t w) p = way-starts-inside t p.0

  pub way-stays-inside : WellFormed a → (t : Trail) → Way a σ v t → last v t < size a
  unfolding Way last
  way-stays-inside wf still p = p
  way-stays-inside wf (meant t w) p = go (owner_at a (last v t)) p.1 (way-stays-inside wf t p.0)
    where
      go : (o : Owner) → Onward o a (last v t) w → last v t < size a → w < size a
      go controller m h = meant-inside a wf (last v t) w m
      go environment m h = meant-inside a wf (last v t) w m
      go nobody e h = subst (λ (u : ℕ). u < size a) (sym e) h
  way-stays-inside wf (disturbed t w) p = disturbance-inside a wf (last v t) w p.1

  -- plays are such trails
  pub play-is-way : (t : Trail) → Play a σ v t → Way a σ v t
  unfolding Play Way
  play-is-way still p = p
  play-is-way (meant t w) p = let step = go (owner_at a (last v t)) p.2 in (play-is-way t p.0, step.0, step.1)
    where
      go : (o : Owner) → Allows o (σ.pick v t) w → Onward o a (last v t) w × (o ≡ controller → w ≡ σ.pick v t)
      go controller e = (p.1, λ own. e)
      go environment h = (p.1, λ own. absurd (environment-is-not-controller own))
      go nobody h = absurd h
  play-is-way (disturbed t w) p = (play-is-way t p.0, p.1)

  -- without its stays the trail stands where it did
  pub awake-last : (t : Trail) → Way a σ v t → last v (awake a v t) ≡ last v t
  unfolding Way awake awake_as last
  awake-last still p = refl
  awake-last (meant t w) p = go (owner_at a (last v t)) p.1 (awake-last t p.0)
    where
      go : (o : Owner) → Onward o a (last v t) w → last v (awake a v t) ≡ last v t → last v (awake_as o (awake a v t) w) ≡ w
      go controller m h = refl
      go environment m h = refl
      go nobody e h = h ∙ sym e
  awake-last (disturbed t w) p = refl

  pub awake-cost : (t : Trail) → Way a σ v t → cost a v (awake a v t) ≡ cost a v t
  unfolding Way awake awake_as cost
  awake-cost still p = refl
  awake-cost (meant t w) p = go (owner_at a (last v t)) (awake-cost t p.0)
    where
      go : (o : Owner) → cost a v (awake a v t) ≡ cost a v t → cost a v (awake_as o (awake a v t) w) ≡ cost a v t
      go controller h = h
      go environment h = h
      go nobody h = h
  awake-cost (disturbed t w) p = rw (awake-cost t p.0, awake-last t p.0)

  pub awake-unsafe : (t : Trail) → Way a σ v t → Unsafe a v t → Unsafe a v (awake a v t)
  unfolding Way awake awake_as Unsafe
  awake-unsafe still p u = u
  awake-unsafe (meant t w) p u = go (owner_at a (last v t)) p.1 (⊎_map (awake-unsafe t p.0) (λ h. h) u)
    where
      go : (o : Owner) → Onward o a (last v t) w → Unsafe a v (awake a v t) ⊎ T (unsafe a w) → Unsafe a v (awake_as o (awake a v t) w)
      go controller m u = u
      go environment m u = u
      go nobody e (inl u) = u
      go nobody e (inr u) = stands-unsafe a v (awake a v t) (subst (λ (x : ℕ). T (unsafe a x)) (e ∙ sym (awake-last t p.0)) u)
  awake-unsafe (disturbed t w) p u = ⊎_map (awake-unsafe t p.0) (λ h. h) u

  pub awake-is-play : Steady a σ v → (t : Trail) → Way a σ v t → Play a σ v (awake a v t)
  unfolding Way Play awake awake_as
  awake-is-play steady still p = p
  awake-is-play steady (meant t w) p = go (owner_at a (last v t)) refl p.1 p.2 (awake-is-play steady t p.0)
    where
      go :
          (o : Owner) → owner_at a (last v t) ≡ o
          → Onward o a (last v t) w
          → (o ≡ controller → w ≡ σ.pick v t)
          → Play a σ v (awake a v t)
          → Play a σ v (awake_as o (awake a v t) w)
      go controller own m picked h = (h, rw (awake-last t p.0) m, rw (awake-last t p.0, own) (picked refl ∙ steady t p.0))
      go environment own m picked h = (h, rw (awake-last t p.0) m, rw (awake-last t p.0, own) tt)
      go nobody own e picked h = h
  awake-is-play steady (disturbed t w) p = (awake-is-play steady t p.0, rw (awake-last t p.0) p.1)

-- a positional controller is steady
pub positional-is-steady : (a : Arena) (choice : ℕ → Value) (legal : Legal a choice) (v : ℕ) → Steady a (positional a choice legal) v
unfolding positional
positional-is-steady a choice legal v t p = rw (awake-last a (positional a choice legal) v t p)

-- and so is every controller where nothing rests
nothing-dropped : (a : Arena) → ((u : ℕ) → owner_at a u ≡ nobody → ⊥) → (v : ℕ) (t : Trail) → awake a v t ≡ t
unfolding awake awake_as
nothing-dropped a none v still = refl
nothing-dropped a none v (meant t w) = go (owner_at a (last v t)) refl (nothing-dropped a none v t)
  where
    go : (o : Owner) → owner_at a (last v t) ≡ o → awake a v t ≡ t → awake_as o (awake a v t) w ≡ meant t w
    go controller own h = ap (λ (s : Trail). meant s w) h
    go environment own h = ap (λ (s : Trail). meant s w) h
    go nobody own h = absurd (none (last v t) own)
nothing-dropped a none v (disturbed t w) = ap (λ (s : Trail). disturbed s w) (nothing-dropped a none v t)

pub steady-without-rest : (a : Arena) → ((u : ℕ) → owner_at a u ≡ nobody → ⊥) → (σ : Controller a) (v : ℕ) → Steady a σ v
steady-without-rest a none σ v t p = ap (σ.pick v) (sym (nothing-dropped a none v t))
