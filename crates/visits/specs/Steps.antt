-- What the functions that look at one entry of the file do to their rows, as numbers.
use Rattle.std.specs.Prelude.{ℕ, ◌+◌, ◌-◌, ◌/◌, ◌%◌, ◌≡◌, List, get_or, set, ltb}
use Rattle.search.specs.Below.{bit}
use Rattle.rows.specs.Numbers.{free}
use Rattle.rows.specs.Filling.{set_if}
use Rattle.visits.specs.declared.Lists.{Lists}

-- v is placed in round (k, s), at the end of the order, if it is not placed yet; `next` is how many the order has then
pub record Put (v k s tail : ℕ) (values steps order values' steps' order' : List ℕ) (next : ℕ) : Type 0 where
  pub value : values' ≡ set_if (free values v) v k values
  pub step : steps' ≡ set_if (free values v) v s steps
  pub place : order' ≡ set_if (free values v) tail v order
  pub count : next ≡ tail + bit (free values v)

-- v is due at k, at the end of the list of the next value, if it was not due at k or before
pub record Delayed (v k late : ℕ) (due later due' later' : List ℕ) (next : ℕ) : Type 0 where
  pub value : due' ≡ set_if (ltb k (get_or due v 0)) v k due
  pub place : later' ≡ set_if (ltb k (get_or due v 0)) late v later
  pub count : next ≡ late + bit (ltb k (get_or due v 0))

-- the last need of an entry was met: a position whose meant moves were waited for is placed in round (k, s), one with a disturbance is due
-- at k and the disturbance's cost
pub record Fired (e k s : ℕ) (lists : Lists) (values steps order due later values' steps' order' due' later' : List ℕ) (lists' : Lists) : Type 0 where
  pub meant : e % 2 ≡ 0 → Put (e / 2) k s lists.tail values steps order values' steps' order' lists'.tail × (due' ≡ due) × (later' ≡ later) × (lists'.late ≡ lists.late)
  pub disturbed : (e % 2 ≡ 0 → ⊥)
      → Delayed (e / 2) (k + e % 2) lists.late due later due' later' lists'.late × (values' ≡ values) × (steps' ≡ steps) × (order' ≡ order) × (lists'.tail ≡ lists.tail)

-- an entry needs one less; where that was its last need, it fires
pub record Looked (e k s : ℕ) (lists : Lists) (needs values steps order due later needs' values' steps' order' due' later' : List ℕ) (lists' : Lists) : Type 0 where
  pub need : needs' ≡ set needs e (get_or needs e 0 - 1)
  pub fires : get_or needs e 0 - 1 ≡ 4096 → Fired e k s lists values steps order due later values' steps' order' due' later' lists'
  pub waits : (get_or needs e 0 - 1 ≡ 4096 → ⊥) → (values' ≡ values) × (steps' ≡ steps) × (order' ≡ order) × (due' ≡ due) × (later' ≡ later) × (lists' ≡ lists)
