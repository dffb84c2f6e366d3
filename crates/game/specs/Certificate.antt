-- Conditions 1 to 5 of Checking (document 01, "The jobs"), at a position and everywhere: a certificate of three rows,
-- values, choices and steps. Disturbances leave O and R only, so where conditions 4 and 5 speak of disturbances at O, the clause
-- asks nothing at L, and stands beside what is asked of the meant moves. At R, which has none, it is all that they ask.
use Rattle.std.specs.Prelude.{ℕ, ◌<◌, ◌≡◌, ◌⊎◌, ◌↔◌, false, T}
use Rattle.game.specs.Value.{Value, fin, ever, ◌≼◌, ◌≺◌, ◌⊕◌}
use Rattle.game.specs.Arena.{Arena, Owner, controller, environment, nobody, size, owner_at, unsafe, Meant, Disturbance}
use Rattle.game.specs.Play.{disturbance_cost, LegalAt}

module _ (a : Arena) (value choice step : ℕ → Value) where
  -- 1. "An unsafe position has value 0."
  abbrev pub UnsafeZeroAt : ℕ → Type 0
  UnsafeZeroAt v = T (unsafe a v) → value v ≡ fin 0

  -- 2. "The step is `-` exactly when the value is "ever"."
  abbrev pub DashAt : ℕ → Type 0
  DashAt v = (step v ≡ ever) ↔ (value v ≡ ever)

  -- 3. "The choice is a meant target at O, `-` at L", and at R, is `LegalAt`.

  -- 4. "Holding: at O the choice has at least this value", "At L each meant target has at least this value."
  abbrev pub MeantHold : Owner → ℕ → Type 0
  MeantHold controller v = (w : ℕ) → choice v ≡ fin w → value v ≼ value w
  MeantHold environment v = (w : ℕ) → Meant a v w → value v ≼ value w
  MeantHold nobody v = Unit {0}

  -- "and each disturbance's target at least this value less one ("ever" less one is "ever")": less one stands on the other
  -- side, as the cost more (`LessOne` says that it is the same)
  abbrev pub DisturbancesHold : ℕ → Type 0
  DisturbancesHold v = (w : ℕ) → Disturbance a v w → value v ≼ value w ⊕ disturbance_cost a v w

  abbrev pub HoldingAt : ℕ → Type 0
  HoldingAt v = MeantHold (owner_at a v) v × DisturbancesHold v

  -- 5. "Earlier means smaller value, or equal value and smaller step; `-` is above each step."
  abbrev pub Earlier : ℕ → ℕ → Type 0
  Earlier w v = (value w ≺ value v) ⊎ ((value w ≡ value v) × (step w ≺ step v))

  -- "at O .. all meant targets are earlier; at L some meant target is earlier."
  abbrev pub MeantRuin : Owner → ℕ → Type 0
  MeantRuin controller v = (w : ℕ) → Meant a v w → Earlier w v
  MeantRuin environment v = (w : ℕ) × Meant a v w × Earlier w v
  MeantRuin nobody v = ⊥

  -- "some disturbance's target has a smaller value": smaller is said as the cost more being at most this value (again `LessOne`)
  abbrev pub DisturbanceRuins : ℕ → Type 0
  DisturbanceRuins v = (w : ℕ) × Disturbance a v w × (value w ⊕ disturbance_cost a v w ≼ value v)

  -- "Ruin, for a safe position of finite value"
  abbrev pub RuinAt : ℕ → Type 0
  RuinAt v = unsafe a v ≡ false → (k : ℕ) → value v ≡ fin k → DisturbanceRuins v ⊎ MeantRuin (owner_at a v) v

  pub record CertifiedAt (v : ℕ) : Type 0 where
    pub unsafe-zero : UnsafeZeroAt v
    pub dash : DashAt v
    pub legal : LegalAt a choice v
    pub holding : HoldingAt v
    pub ruin : RuinAt v

  abbrev pub Certificate : Type 0
  Certificate = (v : ℕ) → v < size a → CertifiedAt v
