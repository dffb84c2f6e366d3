-- Worth and value (document 01, "Plays, worth, value"; the mission's demand 2). They are relations: the worth of a
-- controller with memory can't be computed.
use Rattle.std.specs.Prelude.{ℕ, ◌≤◌, ◌<◌, ◌≡◌}
use Rattle.game.specs.Value.{Value, fin, ever, ◌≼◌}
use Rattle.game.specs.Arena.{Arena}
use Rattle.game.specs.Play.{Trail, Controller, Play, Unsafe, cost}

-- an unsafe play of the controller from v
pub record UnsafePlay (a : Arena) (σ : Controller a) (v : ℕ) : Type 0 where
  pub trail : Trail
  pub play : Play a σ v trail
  pub ends : Unsafe a v trail

-- "some controller is safe in all plays"
abbrev pub AlwaysSafe : (a : Arena) → Controller a → ℕ → Type 0
AlwaysSafe a σ v = (t : Trail) → Play a σ v t → Unsafe a v t → ⊥

-- "some controller stays safe in every play from it with fewer than k disturbances"
abbrev pub SafeBelow : (a : Arena) → Controller a → ℕ → ℕ → Type 0
SafeBelow a σ v k = (t : Trail) → Play a σ v t → cost a v t < k → Unsafe a v t → ⊥

-- "The worth of a controller at a position is the least count of disturbances on an unsafe play from there, "ever" if there is none."
unfoldable pub WorthIs : (a : Arena) → Controller a → ℕ → Value → Type 0
WorthIs a σ v (fin k) = ((u : UnsafePlay a σ v) × (cost a v u.trail ≡ k)) × ((t : Trail) → Play a σ v t → Unsafe a v t → k ≤ cost a v t)
WorthIs a σ v ever = AlwaysSafe a σ v

-- "some play with at most k becomes unsafe"; nothing is above "ever"
unfoldable pub AtMost : (a : Arena) → Controller a → ℕ → Value → Type 0
AtMost a σ v (fin k) = (u : UnsafePlay a σ v) × (cost a v u.trail ≤ k)
AtMost a σ v ever = Unit {0}

-- demand 2: the position reads k "exactly when some controller stays safe in every play from it with fewer than k disturbances,
-- and against each controller some play with at most k becomes unsafe; it reads "ever" exactly when some controller is safe in all plays"
unfoldable pub IsValue : Arena → ℕ → Value → Type 0
IsValue a v (fin k) = ((σ : Controller a) × SafeBelow a σ v k) × ((σ : Controller a) → AtMost a σ v (fin k))
IsValue a v ever = (σ : Controller a) × AlwaysSafe a σ v

-- "The value is the greatest worth any controller has there"
pub record Greatest (a : Arena) (v : ℕ) (x : Value) : Type 0 where
  pub best : Controller a
  pub attained : WorthIs a best v x
  pub greatest : (σ : Controller a) (y : Value) → WorthIs a σ v y → y ≼ x
