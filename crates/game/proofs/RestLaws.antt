-- What the rounds give a position of rest (document 02, order 4). It is placed only by a disturbance, in the first round of a value; so its
-- step is 0, and where no disturbance leads from it into a finite value it is "ever".
use Prim.Native.Nat.{ℕ, zero, suc, ◌<◌}
use Rattle.std.specs.Prelude.{◌≡◌, refl, false}
use Rattle.std.proofs.Common.{sym, subst, ◌∙◌}
use Rattle.std.proofs.Math.Dec.{T}
use Rattle.game.specs.Value.{Value, fin, ever}
use Rattle.game.specs.Arena.{Arena, Owner, nobody, size, owner_at, unsafe, Disturbance, WellFormed}
use Rattle.game.specs.Worth.{IsValue}
use Rattle.game.specs.Rounds.{JoinsAs}
use Rattle.game.specs.Table.{placement_at, begins, table_after, table_before, table, round_value, round_step}
use Rattle.game.proofs.ValueLaws.{fin-is-not-ever}
use Rattle.game.proofs.PlayLaws.{disturbance-inside}
use Rattle.game.proofs.PlacementLaws.{placed-of-value, placed-of-step}
use Rattle.game.proofs.RoundTables.{RoundTakes}
use Rattle.game.proofs.Stable.{table-has-the-taken}
use Rattle.game.proofs.TableIsRounds.{PlacedIn, ready-joins}
use Rattle.game.proofs.RoundHolding.{disturbance-of-begins}
use Rattle.game.proofs.RoundValues.{rounds-give-the-values, the-value-is-the-rounds}

module _ (a : Arena) (v : ℕ) (rests : owner_at a v ≡ nobody) where
  -- no later round of a value takes it
  taken-at-once : (k s : ℕ) → RoundTakes a (table_before a k) k s v → s ≡ 0
  taken-at-once k zero t = refl
  taken-at-once k (suc s) t =
      let joined = table_after a (table_before a k) k s in
      absurd (subst (λ (o : Owner). JoinsAs o a (PlacedIn joined) v) rests ((ready-joins a joined v).0 t.passes))

  pub rest-has-step-zero : (s : ℕ) → round_step a v ≡ fin s → s ≡ 0
  unfolding round_step
  rest-has-step-zero s e =
      let p = placed-of-step (placement_at (table a) v) s e in
      taken-at-once p.0 s ((table-has-the-taken a p.0 s v).1 p.1)

  -- and the first round of a value takes it by a disturbance, if it is safe
  pub rest-is-disturbed : unsafe a v ≡ false → (k : ℕ) → round_value a v ≡ fin k → (j w : ℕ) × Disturbance a v w × (round_value a w ≡ fin j)
  unfolding round_value begins
  rest-is-disturbed safe k e =
      let p = placed-of-value (placement_at (table a) v) k e in
      let t = (table-has-the-taken a k p.0 v).1 p.1 in
      go k (subst (λ (s : ℕ). RoundTakes a (table_before a k) k s v) (taken-at-once k p.0 t) t)
    where
      go : (k : ℕ) → RoundTakes a (table_before a k) k 0 v → (j w : ℕ) × Disturbance a v w × (round_value a w ≡ fin j)
      go zero t = absurd (subst T safe t.passes)
      go (suc j) t = let r = disturbance-of-begins a v j t.passes in (j, r.0, r.1, r.2)

  -- "A safe R is placed only by a disturbance, so without one it is "ever""
  pub rest-is-ever : WellFormed a → v < size a → unsafe a v ≡ false → ((w : ℕ) → Disturbance a v w → IsValue a w ever) → IsValue a v ever
  rest-is-ever wf inside safe evers = subst (IsValue a v) (go (round_value a v) refl) (rounds-give-the-values a wf v inside)
    where
      go : (x : Value) → round_value a v ≡ x → round_value a v ≡ ever
      go ever e = e
      go (fin k) e =
          let (j, w, d, f) = rest-is-disturbed safe k e in
          absurd (fin-is-not-ever j (sym f ∙ sym (the-value-is-the-rounds a wf w ever (disturbance-inside a wf v w d) (evers w d))))
