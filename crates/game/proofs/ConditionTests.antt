-- Each test of `fault_at` is its condition of the certificate, both ways.
use Prim.Native.Nat.{ℕ}
use Rattle.std.specs.Prelude.{◌≡◌, ◌⊎◌, ◌↔◌, true, false, cond, ◌&&◌, ◌||◌, not}
use Rattle.std.proofs.Math.Path.{refl, subst}
use Rattle.std.proofs.Common.{sym, inl, inr, true≢false, T_not}
use Rattle.std.proofs.Math.Bool.{Bool}
use Rattle.std.proofs.Math.Dec.{T}
use Rattle.game.specs.Value.{Value, fin, ever, ◌⊕◌, value_le, value_lt, value_eq}
use Rattle.game.specs.Arena.{Arena, Owner, controller, environment, nobody, owner_at, unsafe}
use Rattle.game.specs.Play.{disturbance_cost, target_of, LegalAs, LegalAt}
use Rattle.game.specs.Certificate.{UnsafeZeroAt, DashAt, MeantHold, DisturbancesHold, HoldingAt, Earlier, MeantRuin, DisturbanceRuins, RuinAt}
use Rattle.game.specs.Fault.{earlier, unsafe_zero, dashed, legal_as, meant_hold, disturbances_hold, holds, meant_ruin, disturbance_ruins, ruined}
use Rattle.game.proofs.ValueLaws.{value_le-sound, value_lt-sound, value_eq-sound, fin-is-not-ever}
use Rattle.game.proofs.MoveTests.{and-test, or-test, or_cases, or_left, or_right, passes-or-fails, some-meant, every-meant, some-disturbance, every-disturbance}

module _ (a : Arena) (value choice step : ℕ → Value) where
  -- condition 1
  pub unsafe-zero-test : (v : ℕ) → T (unsafe_zero a value choice step v) ↔ UnsafeZeroAt a value choice step v
  unfolding unsafe_zero
  unsafe-zero-test v = (to, from (passes-or-fails (unsafe a v)))
    where
      to : T (not (unsafe a v) || value_eq (value v) (fin 0)) → T (unsafe a v) → value v ≡ fin 0
      to h u = go (or_cases (not (unsafe a v)) (value_eq (value v) (fin 0)) h)
        where
          go : T (not (unsafe a v)) ⊎ T (value_eq (value v) (fin 0)) → value v ≡ fin 0
          go (inl safe) = absurd (T_not (unsafe a v) safe u)
          go (inr e) = (value_eq-sound (value v) (fin 0)).0 e

      from : T (unsafe a v) ⊎ T (not (unsafe a v)) → (T (unsafe a v) → value v ≡ fin 0) → T (not (unsafe a v) || value_eq (value v) (fin 0))
      from (inl u) h = or_right (not (unsafe a v)) (value_eq (value v) (fin 0)) ((value_eq-sound (value v) (fin 0)).1 (h u))
      from (inr s) h = or_left (not (unsafe a v)) (value_eq (value v) (fin 0)) s

  -- condition 2
  pub dash-test : (v : ℕ) → T (dashed a value choice step v) ↔ DashAt a value choice step v
  unfolding dashed value_eq
  dash-test v = go (value v) (step v)
    where
      go : (x y : Value) → T (cond (value_eq x ever) (value_eq y ever) (not (value_eq y ever))) ↔ ((y ≡ ever) ↔ (x ≡ ever))
      go (fin j) (fin k) = (λ h. (λ e. absurd (fin-is-not-ever k e), λ e. absurd (fin-is-not-ever j e)), λ h. tt)
      go (fin j) ever = (λ h. absurd h, λ h. fin-is-not-ever j (h.0 refl))
      go ever (fin k) = (λ h. absurd h, λ h. fin-is-not-ever k (h.1 refl))
      go ever ever = (λ h. (λ e. refl, λ e. refl), λ h. tt)

  -- condition 3
  pub legal-test : (o : Owner) (v : ℕ) → T (legal_as a value choice step o v) ↔ LegalAs o a v (choice v)
  unfolding legal_as
  legal-test controller v = (
    λ h. let r = (some-meant a v q).0 h in (r.0, (value_eq-sound (choice v) (fin r.0)).0 r.2, r.1),
    λ l. (some-meant a v q).1 (l.0, l.2, (value_eq-sound (choice v) (fin l.0)).1 l.1),
  )
    where
      q : ℕ → Bool
      q w = value_eq (choice v) (fin w)
  legal-test environment v = value_eq-sound (choice v) ever
  legal-test nobody v = value_eq-sound (choice v) ever

  -- condition 4, where 3 holds
  meant-hold-test : (o : Owner) (v : ℕ) → LegalAs o a v (choice v) → T (meant_hold a value choice step o v) ↔ MeantHold a value choice step o v
  unfolding meant_hold target_of
  meant-hold-test controller v l = (
    λ h w e. (value_le-sound (value v) (value w)).0 (subst (λ (x : Value). T (value_le (value v) (value (target_of x)))) e h),
    λ h. subst (λ (x : Value). T (value_le (value v) (value (target_of x)))) (sym l.1) ((value_le-sound (value v) (value l.0)).1 (h l.0 l.1)),
  )
  meant-hold-test environment v l = (
    λ h w m. (value_le-sound (value v) (value w)).0 ((every-meant a v (λ u. value_le (value v) (value u))).0 h w m),
    λ h. (every-meant a v (λ u. value_le (value v) (value u))).1 (λ w m. (value_le-sound (value v) (value w)).1 (h w m)),
  )
  meant-hold-test nobody v l = (λ h. tt, λ h. tt)

  disturbances-hold-test : (v : ℕ) → T (disturbances_hold a value choice step v) ↔ DisturbancesHold a value choice step v
  unfolding disturbances_hold
  disturbances-hold-test v = (
    λ h w d. (value_le-sound (value v) (value w ⊕ disturbance_cost a v w)).0 ((every-disturbance a v q).0 h w d),
    λ h. (every-disturbance a v q).1 (λ w d. (value_le-sound (value v) (value w ⊕ disturbance_cost a v w)).1 (h w d)),
  )
    where
      q : ℕ → Bool
      q w = value_le (value v) (value w ⊕ disturbance_cost a v w)

  pub holding-test : (v : ℕ) → LegalAt a choice v → T (holds a value choice step v) ↔ HoldingAt a value choice step v
  unfolding holds
  holding-test v l =
      and-test (meant_hold a value choice step (owner_at a v) v) (disturbances_hold a value choice step v) (meant-hold-test (owner_at a v) v l) (disturbances-hold-test v)

  -- condition 5
  pub earlier-test : (w v : ℕ) → T (earlier a value choice step w v) ↔ Earlier a value choice step w v
  unfolding earlier
  earlier-test w v =
      or-test (value_lt (value w) (value v)) (value_eq (value w) (value v) && value_lt (step w) (step v)) (value_lt-sound (value w) (value v))
      (and-test (value_eq (value w) (value v)) (value_lt (step w) (step v)) (value_eq-sound (value w) (value v)) (value_lt-sound (step w) (step v)))

  meant-ruin-test : (o : Owner) (v : ℕ) → T (meant_ruin a value choice step o v) ↔ MeantRuin a value choice step o v
  unfolding meant_ruin
  meant-ruin-test controller v = (
    λ h w m. (earlier-test w v).0 ((every-meant a v (λ w. earlier a value choice step w v)).0 h w m),
    λ all. (every-meant a v (λ w. earlier a value choice step w v)).1 (λ w m. (earlier-test w v).1 (all w m)),
  )
  meant-ruin-test environment v = (
    λ h. let r = (some-meant a v (λ w. earlier a value choice step w v)).0 h in (r.0, r.1, (earlier-test r.0 v).0 r.2),
    λ r. (some-meant a v (λ w. earlier a value choice step w v)).1 (r.0, r.1, (earlier-test r.0 v).1 r.2),
  )
  meant-ruin-test nobody v = (λ h. h, λ h. h)

  disturbance-ruins-test : (v : ℕ) → T (disturbance_ruins a value choice step v) ↔ DisturbanceRuins a value choice step v
  unfolding disturbance_ruins
  disturbance-ruins-test v = (
    λ h. let r = (some-disturbance a v q).0 h in (r.0, r.1, (value_le-sound (value r.0 ⊕ disturbance_cost a v r.0) (value v)).0 r.2),
    λ (w, d, h). (some-disturbance a v q).1 (w, d, (value_le-sound (value w ⊕ disturbance_cost a v w) (value v)).1 h),
  )
    where
      q : ℕ → Bool
      q w = value_le (value w ⊕ disturbance_cost a v w) (value v)

  pub ruin-test : (v : ℕ) → T (ruined a value choice step v) ↔ RuinAt a value choice step v
  unfolding ruined value_eq
  ruin-test v =
      go (unsafe a v) (value v) (or-test (disturbance_ruins a value choice step v) (meant_ruin a value choice step (owner_at a v) v) (disturbance-ruins-test v) (meant-ruin-test (owner_at a v) v))
    where
      test : Bool
      test = disturbance_ruins a value choice step v || meant_ruin a value choice step (owner_at a v) v

      go : (u : Bool) (x : Value) {C : Type 0} → T test ↔ C → T (u || value_eq x ever || test) ↔ (u ≡ false → (k : ℕ) → x ≡ fin k → C)
      go true x c = (λ h e. absurd (true≢false e), λ h. tt)
      go false ever c = (λ h e k f. absurd (fin-is-not-ever k (sym f)), λ h. tt)
      go false (fin k) c = (λ h e j f. c.0 h, λ h. c.1 (h refl k refl))
