-- Positions of rest (document 02, order 4), said of what the jobs ensure: when an R is "ever", its choice on a plate, the choice that is weighed
-- there, what a run takes there, and that no good move leaves it. That "Worths and values count plays through R as any others" is the second demand,
-- which names no owner.
use Rattle.std.specs.Prelude.{ℕ, ◌<◌, ◌≡◌, false, List, Ok}
use Rattle.rows.specs.Numbers.{row_value}
use Rattle.rows.specs.declared.Chart.{Chart}
use Rattle.game.specs.Value.{ever}
use Rattle.game.specs.Arena.{nobody, size, owner_at, unsafe, Disturbance}
use Rattle.game.specs.Worth.{IsValue}
use Rattle.chart.specs.Meaning.{arena_of}
use Rattle.chart.specs.Examined.{examined}
use Rattle.plate.specs.Read.{choice_in_plate}
use Rattle.weighing.specs.Weighing.{WeighedIs}
use Rattle.listing.specs.Listing.{ListedIs}
use Rattle.run.specs.Running.{reported}
use Rattle.run.specs.declared.Run.{Run}
use Rattle.run.specs.declared.Advice.{Advice}
use Rattle.demands.specs.Sanctioned.{Sanctioned}
use Rattle.demands.specs.GoodMoves.{OnSheet}

-- of the position v of a chart
pub record Rest (text : List ℕ) (v : ℕ) : Type 0 where
  -- "A safe R is placed only by a disturbance, so without one it is "ever"": without one into a position that isn't
  pub undisturbed : unsafe (arena_of text) v ≡ false → ((w : ℕ) → Disturbance (arena_of text) v w → IsValue (arena_of text) w ever) → IsValue (arena_of text) v ever
  -- "its choice is `-`", on every plate that the library writes or accepts
  pub choice : (plate : List ℕ) → Sanctioned text plate → choice_in_plate plate v ≡ ever
  -- "refusal 12 wants 65,535 at R": any other choice there is not weighed
  pub weighed : {choices worths worths' : List ℕ} → WeighedIs text choices worths worths' (Ok tt) → row_value choices v ≡ ever
  -- "a run at R accepts only disturbances"
  pub runs : (run : Run) (plate : List ℕ) (to : ℕ) (advice : Advice) → run.position ≡ v → (reported run text plate to).answer ≡ Ok advice → Disturbance (arena_of text) v to
  -- no line of the good moves' sheet names it as its position
  pub unlisted : {out sheet : List ℕ} {lines : ℕ} → ListedIs text out sheet (Ok lines) → (w : ℕ) → OnSheet sheet lines v w → ⊥

-- the request
abbrev pub PositionsOfRest : Type 0
PositionsOfRest = (text : List ℕ) (chart : Chart) → examined text ≡ Ok chart → (v : ℕ) → v < size (arena_of text) → owner_at (arena_of text) v ≡ nobody → Rest text v
