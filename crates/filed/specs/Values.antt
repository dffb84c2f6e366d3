-- What the rounds of one value, of the next one and of all values leave, on the filed way.
use Rattle.std.specs.Prelude.{ℕ, ◌+◌, ◌*◌, ◌≤◌, ◌<◌, ◌≡◌, true, false, not, List, length, get_or}
use Rattle.rows.specs.Rows.{RowIs}
use Rattle.rows.specs.Numbers.{number_at, free}
use Rattle.solver.specs.Solving.{Settling, Solving, Solved}
use Rattle.visits.specs.Lists.{Listed, among}
use Rattle.visits.specs.Standing.{Setting, Grown, AsLong, Ready}
use Rattle.visits.specs.declared.Lists.{Lists}

-- all rounds of value k were carried out from round (k, 0) on, and all moves into placed positions were looked at
pub record ValueSettled (head k : ℕ) (starts entries : List ℕ) (lists : Lists) (needs values steps order due later : List ℕ) (lists' : Lists) (needs' values' steps' order' due' later' : List ℕ) : Type 0 where
  pub long : AsLong needs values steps order due later needs' values' steps' order' due' later'
  pub goes_on : (n : ℕ) (g : Setting n starts entries) → Ready g k head lists needs values steps order due later
      → Settling n g.m g.owners g.costs g.froms g.tos k n values steps values' steps'
      × Ready g k lists'.tail lists' needs' values' steps' order' due' later' × (lists.tail ≤ lists'.tail)

-- What the first round of a value goes on from: the order has the positions that are placed, and the list names positions
pub record Gathered (n tail late : ℕ) (values steps order later : List ℕ) : Type 0 where
  pub few : n ≤ 512
  pub placed : Listed n tail order (λ v. not (free values v))
  pub inside : (i : ℕ) → i < late → get_or later i 0 < n
  pub short : late ≤ n
  pub values-row : n ≤ length values
  pub steps-row : n ≤ length steps
  pub order_row : n ≤ length order
  pub later-row : n ≤ length later

-- the first i positions of the list were placed in round (k, 0), those of them that were not placed before
pub record Begun (n k i tail : ℕ) (values steps order later : List ℕ) (tail' : ℕ) (values' steps' order' : List ℕ) : Type 0 where
  pub grown : Grown n k 0 (λ v. among later i v ≡ true) tail values steps order tail' values' steps' order'
  pub placed : Listed n tail' order' (λ v. not (free values' v))
  pub all : (j : ℕ) → j < i → free values' (get_or later j 0) ≡ false

pub record ValueBegun (k tail late : ℕ) (values steps order later : List ℕ) (tail' : ℕ) (values' steps' order' : List ℕ) : Type 0 where
  pub values-row : length values' ≡ length values
  pub steps-row : length steps' ≡ length steps
  pub order_row : length order' ≡ length order
  pub goes_on : (n : ℕ) → Gathered n tail late values steps order later → Begun n k late tail values steps order later tail' values' steps' order'

-- the rounds of value k, one more than `last`, were carried out after those of `last`: or all rounds were, if its first places nobody
pub record NextValue (last : ℕ) (starts entries : List ℕ) (lists : Lists) (needs values steps order due later : List ℕ) (lists' : Lists) (needs' values' steps' order' due' later' : List ℕ) : Type 0 where
  pub long : AsLong needs values steps order due later needs' values' steps' order' due' later'
  pub goes_on : (n : ℕ) (g : Setting n starts entries) → Ready g last lists.tail lists needs values steps order due later → (marks values₀ steps₀ : List ℕ)
      → Solving n g.m g.owners marks g.costs g.froms g.tos last values₀ steps₀ values steps → (lists'.tail ≡ lists.tail → ⊥)
      → Solving n g.m g.owners marks g.costs g.froms g.tos (last + 1) values₀ steps₀ values' steps'
      × Ready g (last + 1) lists'.tail lists' needs' values' steps' order' due' later'
  pub stops : (n : ℕ) (g : Setting n starts entries) → Ready g last lists.tail lists needs values steps order due later → (marks values₀ steps₀ : List ℕ)
      → Solving n g.m g.owners marks g.costs g.froms g.tos last values₀ steps₀ values steps → lists'.tail ≡ lists.tail
      → Solved n g.m g.owners marks g.costs g.froms g.tos values₀ steps₀ values' steps'

-- the rounds of value 0 were carried out, whatever the rows held
pub record FirstValue (n : ℕ) (starts entries marks needs values steps : List ℕ) (lists' : Lists) (needs' values' steps' order' due' later' : List ℕ) : Type 0 where
  pub goes_on : (g : Setting n starts entries) → RowIs needs (2 * n) (number_at g.first)
      → Solving n g.m g.owners marks g.costs g.froms g.tos 0 values steps values' steps' × Ready g 0 lists'.tail lists' needs' values' steps' order' due' later'

-- and all rounds were
pub record AllRounds (n : ℕ) (starts entries marks needs values steps values' steps' : List ℕ) : Type 0 where
  pub goes_on : (g : Setting n starts entries) → RowIs needs (2 * n) (number_at g.first)
      → Solved n g.m g.owners marks g.costs g.froms g.tos values steps values' steps'
