-- in the arena restricted to a legal row of choices, every controller has exactly the plays that the row's controller has
-- in the whole arena, safe or unsafe alike and at the same cost. So a value there is that controller's worth here.
use Rattle.std.specs.Prelude.{ℕ, suc, ◌≡◌, ◌↔◌, ◌||◌, not, T}
use Rattle.std.proofs.Math.Path.{refl, subst}
use Rattle.std.proofs.Common.{sym, ap, ◌∙◌}
use Rattle.std.proofs.Math.Logic.{⊎_map}
use mathlib.Core.List.{Memᴰ}
use Rattle.std.proofs.Math.Dec.{eqb-suc-zero}
use Rattle.game.specs.Value.{Value, fin, ever, value_eq}
use Rattle.game.specs.Arena.{Arena, Move, Owner, controller, environment, nobody, owner_at, meant_move, disturbance_move, Meant, Disturbance, WellFormed}
use Rattle.game.specs.Play.{Trail, still, meant, disturbed, last, cost, disturbance_cost, Controller, Allows, Play, Unsafe, LegalAs, Legal, positional, target_of}
use Rattle.game.specs.Worth.{UnsafePlay, WorthIs, AtMost, IsValue}
use Rattle.game.specs.Keep.{kept, passed}
use Rattle.game.specs.Restrict.{stays, restricted, is_controller}
use Rattle.game.proofs.ValueLaws.{value_eq-sound, fin-injective}
use Rattle.game.proofs.Bounds.{AtLeast, worth-is-both-bounds, value-is-bounds}
use Rattle.game.proofs.Memory.{some-controller}
use Rattle.game.proofs.PlayLaws.{disturbance-costs-one, target-is-named}

module _ (a : Arena) (choice : ℕ → Value) where
  -- A meant move stays where it is the choice or the position isn't the controller's; a disturbance stays.
  abbrev pub StaysAs : Owner → ℕ → ℕ → Type 0
  StaysAs controller v w = choice v ≡ fin w
  StaysAs environment v w = Unit {0}
  StaysAs nobody v w = Unit {0}

  stays-as : (o : Owner) (v w : ℕ) → T (not (is_controller o) || value_eq (choice v) (fin w)) ↔ StaysAs o v w
  stays-as controller v w = value_eq-sound (choice v) (fin w)
  stays-as environment v w = (λ h. tt, λ h. tt)
  stays-as nobody v w = (λ h. tt, λ h. tt)

  pub restricted-meant : (v w : ℕ) → Meant (restricted a choice) v w ↔ (Meant a v w × StaysAs (owner_at a v) v w)
  unfolding restricted stays
  restricted-meant v w = (
    λ i. let k = kept (stays a choice) a.moves (meant_move v w) i in (k.0, (stays-as (owner_at a v) v w).0 k.1),
    λ h. passed (stays a choice) a.moves (meant_move v w) h.0 ((stays-as (owner_at a v) v w).1 h.1),
  )

  pub restricted-disturbance : (v w : ℕ) → Disturbance (restricted a choice) v w ↔ Disturbance a v w
  unfolding restricted stays
  restricted-disturbance v w = (
    λ (c, i). (c, (kept (stays a choice) a.moves (disturbance_move (suc c) v w) i).0),
    λ (c, i). (c, passed (stays a choice) a.moves (disturbance_move (suc c) v w) i (rw (eqb-suc-zero c) tt)),
  )

  -- no move is added
  pub restricted-moves : (m : Move) → Memᴰ m (restricted a choice).moves → Memᴰ m a.moves
  unfolding restricted
  restricted-moves m i = (kept (stays a choice) a.moves m i).0

  -- the moves' costs are those of the whole arena
  restricted-disturbance-cost : (v w : ℕ) → disturbance_cost (restricted a choice) v w ≡ disturbance_cost a v w
  restricted-disturbance-cost v w = disturbance-costs-one (restricted a choice) v w ∙ sym (disturbance-costs-one a v w)

  pub restricted-cost : (v : ℕ) (t : Trail) → cost (restricted a choice) v t ≡ cost a v t
  unfolding cost
  restricted-cost v still = refl
  restricted-cost v (meant t w) = restricted-cost v t
  restricted-cost v (disturbed t w) = rw (restricted-cost v t, restricted-disturbance-cost (last v t) w)

  pub restricted-unsafe : (v : ℕ) (t : Trail) → Unsafe (restricted a choice) v t ↔ Unsafe a v t
  unfolding restricted Unsafe
  restricted-unsafe v still = (λ u. u, λ u. u)
  restricted-unsafe v (meant t w) = (⊎_map (restricted-unsafe v t).0 (λ u. u), ⊎_map (restricted-unsafe v t).1 (λ u. u))
  restricted-unsafe v (disturbed t w) = (⊎_map (restricted-unsafe v t).0 (λ u. u), ⊎_map (restricted-unsafe v t).1 (λ u. u))

  -- where the choice of the controller is q, a move that is allowed where q is picked stays
  allowed-stays : (o : Owner) (v q w : ℕ) → (o ≡ controller → choice v ≡ fin q) → Allows o q w → StaysAs o v w
  allowed-stays controller v q w chosen e = chosen refl ∙ ap fin (sym e)
  allowed-stays environment v q w chosen h = tt
  allowed-stays nobody v q w chosen h = tt

  -- and is allowed where the choice has another name
  allowed-again : (o : Owner) (v q p w : ℕ) → (o ≡ controller → choice v ≡ fin q) → (o ≡ controller → choice v ≡ fin p) → Allows o q w → Allows o p w
  allowed-again controller v q p w chosen named e = e ∙ fin-injective q p (sym (chosen refl) ∙ named refl)
  allowed-again environment v q p w chosen named h = tt
  allowed-again nobody v q p w chosen named h = h

  -- some meant move stays
  some-stays : (o : Owner) (v : ℕ) → LegalAs o a v (choice v) → (w : ℕ) × Meant a v w → (w : ℕ) × (Meant a v w × StaysAs o v w)
  some-stays controller v (w, e, m) some = (w, (m, e))
  some-stays environment v dash (w, m) = (w, (m, tt))
  some-stays nobody v dash (w, m) = (w, (m, tt))

  module _ (wf : WellFormed a) (legal : Legal a choice) where
    pub restricted-is-well-formed : WellFormed (restricted a choice)
    unfolding restricted
    restricted-is-well-formed =
        record {
          kind = λ m i. wf.kind m (restricted-moves m i);
          from-position = λ m i. wf.from-position m (restricted-moves m i);
          to-position = λ m i. wf.to-position m (restricted-moves m i);
          disturbed = λ v w d. wf.disturbed v w ((restricted-disturbance v w).0 d);
          resting = λ v w m. wf.resting v w ((restricted-meant v w).0 m).0;
          meant =
              λ v inside has.
              let m = some-stays (owner_at a v) v (legal v inside) (wf.meant v inside has) in
              (m.0, (restricted-meant v m.0).1 m.1);
        }

    module _ (τ : Controller (restricted a choice)) where
      -- the restricted arena leaves its controllers no other pick
      pick-is-choice : (v : ℕ) (t : Trail) → owner_at a (last v t) ≡ controller → choice (last v t) ≡ fin (τ.pick v t)
      unfolding restricted
      pick-is-choice v t own =
          subst (λ (o : Owner). StaysAs o (last v t) (τ.pick v t)) own ((restricted-meant (last v t) (τ.pick v t)).0 (τ.legal v t own)).1

      pub restricted-play : (v : ℕ) (t : Trail) → Play (restricted a choice) τ v t ↔ Play a (positional a choice legal) v t
      unfolding restricted Play positional
      restricted-play v still = (λ p. p, λ p. p)
      restricted-play v (meant t w) =
          let u = last v t in
          let q = τ.pick v t in
          let c = target_of (choice u) in
          let picked : owner_at a u ≡ controller → choice u ≡ fin q = pick-is-choice v t in
          let named : owner_at a u ≡ controller → choice u ≡ fin c = λ own. target-is-named (choice u) _ (picked own) in (
            λ p. ((restricted-play v t).0 p.0, ((restricted-meant u w).0 p.1).0, allowed-again (owner_at a u) u q c w picked named p.2),
            λ p. (
              (restricted-play v t).1 p.0,
              (restricted-meant u w).1 (p.1, allowed-stays (owner_at a u) u c w named p.2),
              allowed-again (owner_at a u) u c q w named picked p.2,
            ),
          )
      restricted-play v (disturbed t w) = (
        λ p. ((restricted-play v t).0 p.0, (restricted-disturbance (last v t) w).0 p.1),
        λ p. ((restricted-play v t).1 p.0, (restricted-disturbance (last v t) w).1 p.1),
      )

      restricted-at-least : (v : ℕ) (x : Value) → AtLeast (restricted a choice) τ v x ↔ AtLeast a (positional a choice legal) v x
      restricted-at-least v x = (
        λ low t p u. rw (restricted-cost v t) at (low t ((restricted-play v t).1 p) ((restricted-unsafe v t).1 u)),
        λ low t p u. rw (restricted-cost v t) (low t ((restricted-play v t).0 p) ((restricted-unsafe v t).0 u)),
      )

      restricted-at-most : (v : ℕ) (x : Value) → AtMost (restricted a choice) τ v x ↔ AtMost a (positional a choice legal) v x
      unfolding AtMost
      restricted-at-most v (fin k) = (
        λ h. (there v h.0, rw (restricted-cost v h.0.trail) at h.1),
        λ h. (back v h.0, rw (restricted-cost v h.0.trail) h.1),
      )
        where
          there : (v : ℕ) → UnsafePlay (restricted a choice) τ v → UnsafePlay a (positional a choice legal) v
          there v u = record { trail = u.trail; play = (restricted-play v u.trail).0 u.play; ends = (restricted-unsafe v u.trail).0 u.ends }

          back : (v : ℕ) → UnsafePlay a (positional a choice legal) v → UnsafePlay (restricted a choice) τ v
          back v u = record { trail = u.trail; play = (restricted-play v u.trail).1 u.play; ends = (restricted-unsafe v u.trail).1 u.ends }
      restricted-at-most v ever = (λ h. tt, λ h. tt)

    -- the values there are the worths of the row's controller in the whole arena
    pub restricted-value-is-worth : (v : ℕ) (x : Value) → IsValue (restricted a choice) v x ↔ WorthIs a (positional a choice legal) v x
    restricted-value-is-worth v x =
        let σ = positional a choice legal in
        let τ = some-controller (restricted a choice) restricted-is-well-formed in (
          λ h.
              let ((ρ, low), most) = (value-is-bounds (restricted a choice) v x).0 h in
              (worth-is-both-bounds a σ v x).1 ((restricted-at-least ρ v x).0 low, (restricted-at-most ρ v x).0 (most ρ)),
          λ h.
              let (low, most) = (worth-is-both-bounds a σ v x).0 h in
              (value-is-bounds (restricted a choice) v x).1 ((τ, (restricted-at-least τ v x).1 low), λ ρ. (restricted-at-most ρ v x).1 most),
        )
