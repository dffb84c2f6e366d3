-- What the filed rounds keep from one entry to the next: what the rows say of the moves that were looked at, which are called seen.
use Rattle.std.specs.Prelude.{ℕ, ◌+◌, ◌*◌, ◌≤◌, ◌<◌, ◌≡◌, ◌⊎◌, Bool, true, false, not, ◌&&◌, List, length, get_or, eqb}
use Rattle.search.specs.Below.{count_below}
use Rattle.rows.specs.Rows.{RowIs, Stays}
use Rattle.rows.specs.Numbers.{free}
use Rattle.filing.specs.Filing.{Filed}
use Rattle.needs.specs.Needs.{Needs}
use Rattle.visits.specs.Lists.{Listed, among}
use Rattle.visits.specs.declared.Lists.{Lists}

-- The chart that is filed: its rows, the code of each move, the file of the codes by target, and the needs of each code at first, of which a
-- meant one has some
pub record Setting (n : ℕ) (starts entries : List ℕ) : Type 0 where
  pub m : ℕ
  pub owners : List ℕ
  pub costs : List ℕ
  pub froms : List ℕ
  pub tos : List ℕ
  pub codes : List ℕ
  pub first : List ℕ
  pub few-positions : n ≤ 512
  pub few-moves : m ≤ 4096
  pub starts-row : n < length starts
  pub entries-row : m ≤ length entries
  pub from-inside : (i : ℕ) → i < m → get_or froms i 0 < n
  pub to_inside : (i : ℕ) → i < m → get_or tos i 0 < n
  pub kind : (i : ℕ) → i < m → get_or costs i 0 < 2
  pub code : RowIs codes m (λ i. 2 * get_or froms i 0 + get_or costs i 0)
  pub filed : Filed n m tos codes starts entries
  pub needed : Needs n m owners codes first
  pub some : (v : ℕ) → v < n → 4096 < get_or first (2 * v) 0

-- a disturbance of v into a placed position makes v due at this value
pub record Caused (m : ℕ) (tos codes values : List ℕ) (v due : ℕ) : Type 0 where
  pub line : ℕ
  pub inside : line < m
  pub leaves : get_or codes line 0 ≡ 2 * v + 1
  pub reached : free values (get_or tos line 0) ≡ false
  pub sum : get_or values (get_or tos line 0) 0 + 1 ≡ due

-- In the rounds of value k, when the moves that pass `seen` were looked at: the needs are less by these; the order has the positions that are
-- placed and the list those due at the next value; who is not placed has a need left and is not due yet; and each position is due at the
-- least value to which a disturbance that was looked at leads, and its cost.
pub record State {n : ℕ} {starts entries : List ℕ} (g : Setting n starts entries) (k : ℕ) (seen : ℕ → Bool) (tail late : ℕ) (needs values order due later : List ℕ) : Type 0 where
  pub counted : (e : ℕ) → e < 2 * n → get_or needs e 0 + count_below (λ i. eqb (get_or g.codes i 0) e && seen i) g.m ≡ get_or g.first e 0
  pub placed : Listed n tail order (λ v. not (free values v))
  pub waiting : Listed n late later (λ v. eqb (get_or due v 0) (k + 1))
  pub needing : (v : ℕ) → v < n → free values v ≡ true → 4096 < get_or needs (2 * v) 0
  pub low : (v : ℕ) → v < n → free values v ≡ false → get_or values v 0 ≤ k
  pub soon : (v : ℕ) → v < n → free values v ≡ true → k < get_or due v 0
  pub reached : (i : ℕ) → i < g.m → seen i ≡ true → free values (get_or g.tos i 0) ≡ false
  pub least : (i v : ℕ) → i < g.m → v < n → get_or g.codes i 0 ≡ 2 * v + 1 → seen i ≡ true → get_or due v 0 ≤ get_or values (get_or g.tos i 0) 0 + 1
  pub caused : (v : ℕ) → v < n → free due v ≡ false → Caused g.m g.tos g.codes values v (get_or due v 0)

-- the moves into the first `head` positions of the order were looked at
abbrev pub Standing : {n : ℕ} {starts entries : List ℕ} (g : Setting n starts entries) (k head tail late : ℕ) (needs values order due later : List ℕ) → Type 0
Standing g k head tail late needs values order due later = State g k (λ i. among order head (get_or g.tos i 0)) tail late needs values order due later

-- v was placed in round (k, s), for a reason
pub record Newly (k s : ℕ) (because : ℕ → Type 0) (values values' steps' : List ℕ) (v : ℕ) : Type 0 where
  pub was : free values v ≡ true
  pub value : get_or values' v 0 ≡ k
  pub step : get_or steps' v 0 ≡ s
  pub why : because v

-- positions were placed in round (k, s), each for a reason, at the end of the order, and nothing else changed
pub record Grown (n k s : ℕ) (because : ℕ → Type 0) (tail : ℕ) (values steps order : List ℕ) (tail' : ℕ) (values' steps' order' : List ℕ) : Type 0 where
  pub at : (v : ℕ) → v < n → ((get_or values' v 0 ≡ get_or values v 0) × (get_or steps' v 0 ≡ get_or steps v 0)) ⊎ Newly k s because values values' steps' v
  pub values-stay : Stays n values values'
  pub steps-stay : Stays n steps steps'
  pub order-kept : (i : ℕ) → i < tail → get_or order' i 0 ≡ get_or order i 0
  pub longer : tail ≤ tail'
  pub fresh : (i : ℕ) → tail ≤ i → i < tail' → (get_or order' i 0 < n) × (get_or values' (get_or order' i 0) 0 ≡ k)

-- the rows have room
pub record Wide (n : ℕ) (needs values steps order due later : List ℕ) : Type 0 where
  pub needs-row : 2 * n ≤ length needs
  pub values-row : n ≤ length values
  pub steps-row : n ≤ length steps
  pub order_row : n ≤ length order
  pub due-row : n ≤ length due
  pub later-row : n ≤ length later

-- the rows are as long as they were
pub record AsLong (needs values steps order due later needs' values' steps' order' due' later' : List ℕ) : Type 0 where
  pub needs-row : length needs' ≡ length needs
  pub values-row : length values' ≡ length values
  pub steps-row : length steps' ≡ length steps
  pub order_row : length order' ≡ length order
  pub due-row : length due' ≡ length due
  pub later-row : length later' ≡ length later

-- What a part of a round goes on from: the moves into the first `head` positions of the order were looked at, and those from there on have
-- value k
pub record Ready {n : ℕ} {starts entries : List ℕ} (g : Setting n starts entries) (k head : ℕ) (lists : Lists) (needs values steps order due later : List ℕ) : Type 0 where
  pub standing : Standing g k head lists.tail lists.late needs values order due later
  pub segment : (i : ℕ) → head ≤ i → i < lists.tail → get_or values (get_or order i 0) 0 ≡ k
  pub started : head ≤ lists.tail
  pub small : k < 65534
  pub wide : Wide n needs values steps order due later

-- What it leaves: the moves that pass `seen` were looked at, and positions whose needs are met were placed in round (k, s)
pub record Progress {n : ℕ} {starts entries : List ℕ} (g : Setting n starts entries) (k s : ℕ) (seen : ℕ → Bool) (lists : Lists) (needs values steps order : List ℕ) (lists' : Lists) (needs' values' steps' order' due' later' : List ℕ) : Type 0 where
  pub state : State g k seen lists'.tail lists'.late needs' values' order' due' later'
  pub grown : Grown n k s (λ v. get_or needs' (2 * v) 0 ≤ 4096) lists.tail values steps order lists'.tail values' steps' order'
  pub falls : (e : ℕ) → get_or needs' e 0 ≤ get_or needs e 0

-- the entries of the position at `head` were looked at
pub record Visited (head k s : ℕ) (starts entries : List ℕ) (lists : Lists) (needs values steps order due later : List ℕ) (lists' : Lists) (needs' values' steps' order' due' later' : List ℕ) : Type 0 where
  pub long : AsLong needs values steps order due later needs' values' steps' order' due' later'
  pub goes_on : (n : ℕ) (g : Setting n starts entries) → Ready g k head lists needs values steps order due later → head < lists.tail
      → Progress g k s (λ i. among order' (head + 1) (get_or g.tos i 0)) lists needs values steps order lists' needs' values' steps' order' due' later'

-- those of all positions of the order from `head` on were, which are those of a round
pub record RoundVisited (head k s : ℕ) (starts entries : List ℕ) (lists : Lists) (needs values steps order due later : List ℕ) (lists' : Lists) (needs' values' steps' order' due' later' : List ℕ) : Type 0 where
  pub long : AsLong needs values steps order due later needs' values' steps' order' due' later'
  pub goes_on : (n : ℕ) (g : Setting n starts entries) → Ready g k head lists needs values steps order due later
      → Progress g k s (λ i. among order' lists.tail (get_or g.tos i 0)) lists needs values steps order lists' needs' values' steps' order' due' later'
