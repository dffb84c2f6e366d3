-- The least counts of moves to a marked position, as a row that moves can be checked against, and what the search for them keeps.
use Rattle.std.specs.Prelude.{ℕ, suc, ◌+◌, ◌≤◌, ◌<◌, ◌≡◌, ◌⊎◌, not, List, length, get_or}
use Rattle.search.specs.Below.{count_below, bit}
use Rattle.rows.specs.Numbers.{free}
use Rattle.rows.specs.Filling.{set_if}
use Rattle.chains.specs.Chains.{Chained}

-- rows of m moves that join positions below n
pub record Joins (n m : ℕ) (froms tos : List ℕ) : Type 0 where
  pub froms-row : m ≤ length froms
  pub tos-row : m ≤ length tos
  pub from-inside : (i : ℕ) → i < m → get_or froms i 0 < n
  pub to_inside : (i : ℕ) → i < m → get_or tos i 0 < n

-- some move leads from v to a position with this count
pub record LeadsTo (m : ℕ) (froms tos left : List ℕ) (v count : ℕ) : Type 0 where
  pub line : ℕ
  pub inside : line < m
  pub leaves : get_or froms line 0 ≡ v
  pub there : get_or left (get_or tos line 0) 0 ≡ count

-- the counts: 0 at the marked positions and nowhere else, one more than after some move, and never more than that after any; 65,535 where no
-- move leads on
pub record Distances (n m : ℕ) (marks froms tos left : List ℕ) : Type 0 where
  pub small : (v : ℕ) → v < n → (get_or left v 0 ≡ 65535) ⊎ (get_or left v 0 < n)
  pub marked : (v : ℕ) → v < n → get_or marks v 0 ≡ 1 → get_or left v 0 ≡ 0
  pub only-marked : (v : ℕ) → v < n → get_or left v 0 ≡ 0 → get_or marks v 0 ≡ 1
  pub one_more : (v k : ℕ) → v < n → suc k < n → get_or left v 0 ≡ suc k → LeadsTo m froms tos left v k
  pub no_less : (i : ℕ) → i < m → get_or left (get_or froms i 0) 0 ≤ get_or left (get_or tos i 0) 0 + 1

-- What the search keeps

-- v has its count and its place in the order, if it had none
pub record Reached (v count tail : ℕ) (left order left' order' : List ℕ) (next : ℕ) : Type 0 where
  pub left_is : left' ≡ set_if (free left v) v count left
  pub order_is : order' ≡ set_if (free left v) tail v order
  pub next-is : next ≡ tail + bit (free left v)

-- the order has the positions with a count, each once, by rising counts; those from `head` on are at most one below the last
pub record Queue (n head tail : ℕ) (left order : List ℕ) : Type 0 where
  pub counted : count_below (λ v. not (free left v)) n ≡ tail
  pub inside : (i : ℕ) → i < tail → get_or order i 0 < n
  pub few : (i : ℕ) → i < tail → get_or left (get_or order i 0) 0 ≤ i
  pub found : (v : ℕ) → v < n → (get_or left v 0 ≡ 65535 → ⊥) → (i : ℕ) × (i < tail) × (get_or order i 0 ≡ v)
  pub rising : (i j : ℕ) → i < j → j < tail → get_or left (get_or order i 0) 0 ≤ get_or left (get_or order j 0) 0
  pub near : (i j : ℕ) → i < tail → head ≤ j → j < tail → get_or left (get_or order i 0) 0 ≤ get_or left (get_or order j 0) 0 + 1

-- the first i positions were looked at: those that are marked have 0, and no other has a count
pub record Begun (n : ℕ) (marks : List ℕ) (i : ℕ) (left order : List ℕ) (tail : ℕ) : Type 0 where
  pub queue : Queue n 0 tail left order
  pub marked : (v : ℕ) → v < i → v < n → get_or marks v 0 ≡ 1 → get_or left v 0 ≡ 0
  pub zeros : (v : ℕ) → v < n → (get_or left v 0 ≡ 65535 → ⊥) → (get_or left v 0 ≡ 0) × (get_or marks v 0 ≡ 1)

-- v is reached with 0 if it is marked, and else nothing changes
pub record BegunAt (v : ℕ) (marks : List ℕ) (tail : ℕ) (left order left' order' : List ℕ) (next : ℕ) : Type 0 where
  pub marked : get_or marks v 0 ≡ 1 → Reached v 0 tail left order left' order' next
  pub other : (get_or marks v 0 ≡ 1 → ⊥) → (left' ≡ left) × (order' ≡ order) × (next ≡ tail)

-- the moves into the first `head` of the order were looked at
pub record Searching (n m : ℕ) (marks froms tos : List ℕ) (head tail : ℕ) (left order : List ℕ) : Type 0 where
  pub queue : Queue n head tail left order
  pub marked : (v : ℕ) → v < n → get_or marks v 0 ≡ 1 → get_or left v 0 ≡ 0
  pub only-marked : (v : ℕ) → v < n → get_or left v 0 ≡ 0 → get_or marks v 0 ≡ 1
  pub one_more : (v k : ℕ) → v < n → (get_or left v 0 ≡ 65535 → ⊥) → get_or left v 0 ≡ suc k → LeadsTo m froms tos left v k
  pub done : (j i : ℕ) → j < head → i < m → get_or tos i 0 ≡ get_or order j 0 → get_or left (get_or froms i 0) 0 ≤ get_or left (get_or order j 0) 0 + 1

-- those into the next of the order too, whose chain names their lines
pub record Visited (n m : ℕ) (froms heads nexts : List ℕ) (head tail : ℕ) (left order left' order' : List ℕ) (last : ℕ) : Type 0 where
  pub search : (marks tos : List ℕ) → Chained tos m 0 heads nexts → Joins n m froms tos → Searching n m marks froms tos head tail left order
      → Searching n m marks froms tos (head + 1) last left' order'
