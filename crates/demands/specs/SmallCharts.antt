-- "Every small chart" (document 02, order 9), of what Generating and Indexing ensure: the charts that are written, the index that is answered, and
-- that "each legal chart has exactly one index". Legal is what has a chart, of 1 to 3 positions, with O and L alone (`Small`), and not what a job takes.
use Rattle.std.specs.Prelude.{ℕ, ◌≤◌, ◌<◌, ◌≡◌, List, length, take, Result, Ok}
use Rattle.game.specs.Arena.{Arena, size}
use Rattle.refusal.specs.declared.Misdrawn.{Misdrawn}
use Rattle.chart.specs.Meaning.{arena_of, chart_text}
use Rattle.chart.specs.Refusals.{Applies}
use Rattle.chart.specs.Blanks.{WithoutBlanks, filling}
use Rattle.numbering.specs.Numbering.{index_of, chart_count, Small}
use Rattle.numbering.specs.Order.{Precedes}
use Rattle.generating.specs.Generating.{GeneratedIs}
use Rattle.refusal.specs.declared.Refusal.{Refusal}
use Rattle.indexing.specs.Indexing.{indexed}

-- a text that is such a chart: no refusal applies, and its arena is small
pub record SmallChart (text : List ℕ) : Type 0 where
  pub accepted : (r : Misdrawn) → Applies text r → ⊥
  pub small : Small (arena_of text)

-- a call of Generating that wrote k bytes
pub record Call (n i : ℕ) : Type 0 where
  pub out : List ℕ
  pub out' : List ℕ
  pub bytes : ℕ
  pub ensured : GeneratedIs n i out out' (Ok bytes)

-- the bytes that it wrote
abbrev pub written : {n i : ℕ} → Call n i → List ℕ
written call = take call.bytes call.out'

-- "Given n and an index from 0, write the chart, its marks as 0 or 1"
pub record IsChartOf (n i : ℕ) (text : List ℕ) : Type 0 where
  pub chart : SmallChart text
  pub without-blanks : WithoutBlanks text
  pub positions : size (arena_of text) ≡ n
  pub index : index_of (arena_of text) ≡ i
  pub answered : indexed text ≡ Ok i

-- "given such a chart, answer its index": one below the count, and what is written for it is the chart with its blanks filled
pub record IsIndexOf (text : List ℕ) (i : ℕ) : Type 0 where
  pub answered : indexed text ≡ Ok i
  pub index : index_of (arena_of text) ≡ i
  pub below : i < chart_count (size (arena_of text))
  pub written-again : (call : Call (size (arena_of text)) i) → written call ≡ filling text

-- the request
pub record SmallCharts : Type 0 where
  -- "6, 900 and 2,000,376 of them"
  pub counts : (chart_count 1 ≡ 6) × ((chart_count 2 ≡ 900) × (chart_count 3 ≡ 2000376))
  -- every index below the count is taken, where the buffer has room; what is written has that index
  pub taken : (n i : ℕ) → 1 ≤ n → n ≤ 3 → i < chart_count n
      → (k : ℕ) × ((out out' : List ℕ) (r : Result ℕ Refusal) → GeneratedIs n i out out' r → k ≤ length out → r ≡ Ok k)
  pub generating : (n i : ℕ) (call : Call n i) → IsChartOf n i (written call)
  pub indexing : (text : List ℕ) → SmallChart text → (i : ℕ) × IsIndexOf text i
  -- "Each legal chart has exactly one index": one that is below the count and for which it is written, and no other
  pub one_index : (a : Arena) → Small a → (i : ℕ) × (i < chart_count (size a)) × ((call : Call (size a) i) → written call ≡ chart_text a)
      × ((j : ℕ) (call : Call (size a) j) → written call ≡ chart_text a → j ≡ i)
  -- in the request's order
  pub in_order : (a b : Arena) → Small a → Small b → size a ≡ size b → Precedes a b → index_of a < index_of b
