-- Where a disturbance counts one, what conditions 4 and 5 say of disturbances is document 01's: "at least this value less one
-- ("ever" less one is "ever")" and "has a smaller value".
use Rattle.std.specs.Prelude.{ℕ, ◌≡◌, ◌↔◌}
use Rattle.game.specs.Value.{Value, fin, ◌≼◌, ◌≺◌}
use Rattle.game.specs.Arena.{Arena, Disturbance}
use Rattle.game.specs.Certificate.{DisturbancesHold, DisturbanceRuins}
use Rattle.game.proofs.ValueLaws.{less_one, at-least-less-one, smaller}
use Rattle.game.proofs.PlayLaws.{disturbance-costs-one}

module _ (a : Arena) (value choice step : ℕ → Value) (v : ℕ) where
  pub disturbances-hold-less-one : DisturbancesHold a value choice step v ↔ ((w : ℕ) → Disturbance a v w → less_one (value v) ≼ value w)
  disturbances-hold-less-one = (
    λ h w d. (at-least-less-one (value v) (value w)).0 (rw (disturbance-costs-one a v w) at (h w d)),
    λ h w d. rw (disturbance-costs-one a v w) ((at-least-less-one (value v) (value w)).1 (h w d)),
  )

  pub disturbance-ruins-smaller : (k : ℕ) → value v ≡ fin k → DisturbanceRuins a value choice step v ↔ ((w : ℕ) × Disturbance a v w × (value w ≺ value v))
  disturbance-ruins-smaller k e = (
    λ (w, d, h). (w, d, rw e ((smaller (value w) k).0 (rw (disturbance-costs-one a v w, e) at h))),
    λ (w, d, h). (w, d, rw (disturbance-costs-one a v w, e) ((smaller (value w) k).1 (rw e at h))),
  )
