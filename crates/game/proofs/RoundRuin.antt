-- Ruin, of the rounds: a position placed at (k, s) was taken by round (k, s), and what that round saw was placed before.
use Prim.Native.Nat.{ℕ, zero, suc}
use Rattle.std.proofs.Common.{arith, ap₂, ◌∙◌, subst}
use Rattle.std.specs.Prelude.{◌≡◌, ◌⊎◌, false}
use Rattle.std.proofs.Math.Path.{sym, ap, subst₂}
use Rattle.std.proofs.Math.Logic.{inl, inr}
use Rattle.std.proofs.Math.Dec.{T}
use Rattle.game.specs.Value.{fin, ◌≼◌, ◌≺◌, ◌⊕◌}
use Rattle.game.specs.Arena.{Arena, Owner, controller, environment, nobody, WellFormed, owner_at, unsafe}
use Rattle.game.specs.Play.{disturbance_cost}
use Rattle.game.specs.Rounds.{JoinsAs}
use Rattle.game.specs.Certificate.{Earlier, MeantRuin, DisturbanceRuins}
use Rattle.game.specs.Table.{placed, placement_at, begins, table_after, table_before, table, round_value, round_step}
use Rattle.game.specs.Best.{best_at}
use Rattle.game.proofs.ValueLaws.{fin≺, ≡→≼}
use Rattle.game.proofs.PlayLaws.{disturbance-costs-one}
use Rattle.game.proofs.PlacementLaws.{placed-where, value-of-placed, step-of-placed}
use Rattle.game.proofs.RoundTables.{RoundTakes, TakenAt, after-from, before-from}
use Rattle.game.proofs.Stable.{after-before, before-table}
use Rattle.game.proofs.TableIsRounds.{PlacedIn, ready-joins, joins-map-as}
use Rattle.game.proofs.RoundHolding.{disturbance-of-begins}

module _ (a : Arena) (wf : WellFormed a) where
  abbrev pub Before : ℕ → ℕ → Type 0
  Before w v = Earlier a (round_value a) (best_at a (round_value a)) (round_step a) w v

  -- a position placed by round (k, r) is earlier than (k, r + 1)
  placed-is-earlier : (k r v w : ℕ) → placement_at (table a) v ≡ placed k (suc r) → PlacedIn (table_after a (table_before a k) k r) w
      → Before w v
  unfolding round_value round_step
  placed-is-earlier k r v w e h =
      let p = placed-where (placement_at (table_after a (table_before a k) k r) w) h in
      let now = (before-table a (suc k)).keeps w p.0 p.1 ((after-before a k r).keeps w p.0 p.1 p.2) in
      go p.0 p.1 now (after-from a (table_before a k) k r w p.0 p.1 p.2)
    where
      go : (i q : ℕ) → placement_at (table a) w ≡ placed i q
          → (placement_at (table_before a k) w ≡ placed i q) ⊎ TakenAt a (table_before a k) k r w i q
          → Before w v
      go i q now (inl f) =
          inl (subst₂ ◌≺◌ (sym (value-of-placed now)) (sym (value-of-placed e)) (fin≺ i k (before-from a k w i q f).smaller))
      go i q now (inr t) =
          let l = t.by-now in
          inr (value-of-placed now ∙ ap fin t.this-value ∙ sym (value-of-placed e), subst₂ ◌≺◌ (sym (step-of-placed now)) (sym (step-of-placed e)) (fin≺ q (suc r) (omega arith)))

  abbrev pub Ruined : Owner → ℕ → Type 0
  Ruined o v = DisturbanceRuins a (round_value a) (best_at a (round_value a)) (round_step a) v ⊎ MeantRuin a (round_value a) (best_at a (round_value a)) (round_step a) o v

  ruined-by-joining : (o : Owner) (v : ℕ) → JoinsAs o a (λ w. Before w v) v → Ruined o v
  ruined-by-joining controller v all = inr all
  ruined-by-joining environment v some = inr some
  ruined-by-joining nobody v none = inr none

  disturbance-is-smaller : (v w j : ℕ) → round_value a w ≡ fin j → round_value a v ≡ fin (suc j) → round_value a w ⊕ disturbance_cost a v w ≼ round_value a v
  unfolding ◌⊕◌
  disturbance-is-smaller v w j e f =
      ≡→≼ (round_value a w ⊕ disturbance_cost a v w) (round_value a v) (ap₂ ◌⊕◌ e (disturbance-costs-one a v w) ∙ ap fin (omega arith) ∙ sym f)

  pub ruined : (v k s : ℕ) → unsafe a v ≡ false → placement_at (table a) v ≡ placed k s → RoundTakes a (table_before a k) k s v → Ruined (owner_at a v) v
  unfolding begins round_value
  ruined v zero zero safe e t = absurd (subst T safe t.passes)
  ruined v (suc j) zero safe e t =
      let r = disturbance-of-begins a v j t.passes in
      inl (r.0, r.1, disturbance-is-smaller v r.0 j r.2 (value-of-placed e))
  ruined v k (suc r) safe e t =
      ruined-by-joining (owner_at a v) v
      (joins-map-as (owner_at a v) a (PlacedIn (table_after a (table_before a k) k r)) (λ w. Before w v)
      (λ w h. placed-is-earlier k r v w e h) v ((ready-joins a (table_after a (table_before a k) k r) v).0 t.passes))
