-- The second demand in the journal's words: on a plate that the library writes or accepts, a position reads its resilience,
-- "r_G(v) = sup{α ∈ ω + 2 | Player 0 has an α-resilient strategy for G from v}", a number as itself and "ever" as ω+1 (`ordinal_of`).
use Rattle.std.specs.Prelude.{ℕ, ◌<◌, refl, List, Ok}
use Rattle.game.specs.Arena.{size}
use Rattle.game.specs.Journal.{ResilienceIs, ordinal_of}
use Rattle.game.proofs.Resilience.{value-is-resilience}
use Rattle.chart.specs.Meaning.{arena_of}
use Rattle.chart.specs.Accepted.{accepted-chartable}
use Rattle.plate.specs.Read.{value_in_plate}
use Rattle.checking.specs.AnswersExact.{answer-exactly}
use Rattle.demands.specs.Sanctioned.{Sanctioned}
use Rattle.demands.specs.SanctionedLaws.{sanctioned-is-accepted}
use Rattle.demands.specs.Demand2.{demand-2}

pub plate-reads-the-resilience : (text plate : List ℕ) → Sanctioned text plate → (v : ℕ) → v < size (arena_of text)
    → ResilienceIs (arena_of text) v (ordinal_of (value_in_plate plate v))
plate-reads-the-resilience text plate s v l =
    let is = (answer-exactly text plate (Ok tt)).0 (sanctioned-is-accepted text plate s) in
    let wf = (accepted-chartable text is.chart is.taken).well-formed in
    (value-is-resilience (arena_of text) wf v l (value_in_plate plate v)).0 ((demand-2 text plate s v l (value_in_plate plate v)).0 refl)
