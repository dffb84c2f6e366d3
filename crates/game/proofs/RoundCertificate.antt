-- The rounds' values and steps, with document 01's choice, have the certificate.
use Rattle.std.specs.Prelude.{ℕ, ◌<◌, ◌≡◌, T}
use Rattle.game.specs.Value.{fin}
use Rattle.game.specs.Arena.{Arena, WellFormed, size, owner_at, unsafe}
use Rattle.game.specs.Certificate.{Certificate}
use Rattle.game.specs.Table.{placement_at, begins, table, round_value, round_step}
use Rattle.game.specs.Best.{best_at}
use Rattle.game.proofs.PlacementLaws.{value-of-placed, value-of-unplaced, step-of-unplaced, placed-of-value, unplaced-of-value, unplaced-of-step}
use Rattle.game.proofs.RoundTables.{before-all, before-length}
use Rattle.game.proofs.Stable.{table-has-the-taken}
use Rattle.game.proofs.BestLaws.{best-is-the-choice, best-is-legal}
use Rattle.game.proofs.RoundHolding.{disturbance-held, holds_as, no-joining-below}
use Rattle.game.proofs.RoundRuin.{ruined}

module _ (a : Arena) (wf : WellFormed a) where
  -- "Round (0, 0) has the unsafe positions."
  unsafe-has-zero : (v : ℕ) → v < size a → T (unsafe a v) → round_value a v ≡ fin 0
  unfolding begins round_value
  unsafe-has-zero v h u =
      value-of-placed ((table-has-the-taken a 0 0 v).0 (record { inside = rw (before-length a 0) h; free = before-all a v; passes = u }))

  pub rounds-have-a-certificate : Certificate a (round_value a) (best_at a (round_value a)) (round_step a)
  unfolding round_value round_step
  rounds-have-a-certificate v h =
      let x = placement_at (table a) v in
      record {
        unsafe-zero = unsafe-has-zero v h;
        dash = (λ e. value-of-unplaced (unplaced-of-step x e), λ e. step-of-unplaced (unplaced-of-value x e));
        legal = best-is-legal a (round_value a) wf v h;
        holding = (holds_as a wf (owner_at a v) v (no-joining-below a wf v h) (best-is-the-choice a (round_value a) wf v h), disturbance-held a wf v);
        ruin = λ safe k e. let p = placed-of-value x k e in ruined a wf v k p.0 safe p.1 ((table-has-the-taken a k p.0 v).1 p.1);
      }
