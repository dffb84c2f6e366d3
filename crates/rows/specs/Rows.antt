-- An arena as rows of numbers, one for each column of the chart: what the decoding fills and every job works on; and what becomes
-- of a lent row (document 01: "What lies past the last line or number stays").
use Rattle.std.specs.Prelude.{ℕ, ◌≤◌, ◌<◌, ◌≡◌, List, length, get_or}
use Rattle.std.proofs.Common.{arith}
use Rattle.game.specs.Arena.{Arena, WellFormed, Owner, controller, environment, nobody, size, owner_at, position_at, move_at}

-- the first `count` numbers of a row are those of f
abbrev pub RowIs : List ℕ → ℕ → (ℕ → ℕ) → Type 0
RowIs row count f = (k : ℕ) → k < count → get_or row k 0 ≡ f k

-- what lies past the first n numbers stays
abbrev pub Stays : ℕ → List ℕ → List ℕ → Type 0
Stays n before after = (j : ℕ) → n ≤ j → get_or after j 0 ≡ get_or before j 0

-- a row whose first `count` numbers became those of f, while the others stayed
pub record Filled (old new : List ℕ) (count : ℕ) (f : ℕ → ℕ) : Type 0 where
  pub row : RowIs new count f
  pub rest : Stays count old new
  pub same_length : length new ≡ length old

-- a row of which only the first `count` numbers may have changed
pub record Kept (count : ℕ) (old new : List ℕ) : Type 0 where
  pub rest : Stays count old new
  pub same_length : length new ≡ length old

-- an owner as a number in a row: 0 the controller, 1 the environment, 2 nobody
abbrev pub owner_number : Owner → ℕ
owner_number controller = 0
owner_number environment = 1
owner_number nobody = 2

-- the rows hold the arena, a well-formed one of n positions and m moves within the limits: owner and mark of each position, cost,
-- from and to of each move; what lies past them is not said
pub record RowsOf (a : Arena) (n m : ℕ) (owners marks costs froms tos : List ℕ) : Type 0 where
  pub well : WellFormed a
  pub positions : size a ≡ n
  pub moves : length a.moves ≡ m
  pub few-positions : n ≤ 512
  pub few-moves : m ≤ 4096
  pub owner : RowIs owners n (λ v. owner_number (owner_at a v))
  pub mark : RowIs marks n (λ v. (position_at a v).mark)
  pub cost : RowIs costs m (λ i. (move_at a i).cost)
  pub from : RowIs froms m (λ i. (move_at a i).from)
  pub to : RowIs tos m (λ i. (move_at a i).to)
  pub owners-row : n ≤ length owners
  pub marks-row : n ≤ length marks
  pub costs-row : m ≤ length costs
  pub froms-row : m ≤ length froms
  pub tos-row : m ≤ length tos

-- rows that hold a chart: those of some such arena
abbrev pub ChartRows : (n m : ℕ) (owners marks costs froms tos : List ℕ) → Type 0
ChartRows n m owners marks costs froms tos = (a : Arena) × RowsOf a n m owners marks costs froms tos

-- the moves of a position lie together, by the positions' order
abbrev pub Ascending : ℕ → List ℕ → Type 0
Ascending m froms = (i j : ℕ) → i ≤ j → j < m → get_or froms i 0 ≤ get_or froms j 0

-- rows of m moves that join positions below n: no index leaves its row
pub record Within (n m : ℕ) (costs froms tos : List ℕ) : Type 0 where
  pub costs-row : m ≤ length costs
  pub froms-row : m ≤ length froms
  pub tos-row : m ≤ length tos
  pub from-inside : (i : ℕ) → i < m → get_or froms i 0 < n
  pub to_inside : (i : ℕ) → i < m → get_or tos i 0 < n

-- what the work on the i-th move indexes
pub record AtMove (i : ℕ) (costs froms tos values flags : List ℕ) : Type 0 where
  pub cost-in : i < length costs
  pub from_in : i < length froms
  pub to_in : i < length tos
  pub value_in : get_or tos i 0 < length values
  pub flag-in : get_or froms i 0 < length flags

pub at-move : {n m : ℕ} {costs froms tos : List ℕ} → Within n m costs froms tos → (values flags : List ℕ) → n ≤ length values → n ≤ length flags
    → (i : ℕ) → i < m → AtMove i costs froms tos values flags
at-move w values flags l k i h =
    record {
      cost-in = omega arith;
      from_in = omega arith;
      to_in = omega arith;
      value_in = omega (arith, w.to_inside i h);
      flag-in = omega (arith, w.from-inside i h);
    }
