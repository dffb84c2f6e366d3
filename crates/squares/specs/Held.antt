-- What the arrays hold: a square is an array of rows of yes and no, from and then to; and the index that rows of owners and marks and two
-- squares stand for.
use Rattle.std.specs.Prelude.{ℕ, ◌^◌, ◌≤◌, ◌<◌, ◌≡◌, Bool, false, ◌&&◌, List, [], get_or, eqb}
use Rattle.search.specs.Below.{some_below}
use Rattle.numbering.specs.Numbering.{set_number, digit, digits, numeral}

-- a row of a square: yes for the targets below 3 that pass the test
abbrev pub TargetsAre : List Bool → (ℕ → Bool) → Type 0
TargetsAre row p = (w : ℕ) → w < 3 → get_or row w false ≡ p w

-- yes or no for the pair of positions v and w
abbrev pub cell : List (List Bool) → ℕ → ℕ → Bool
cell square v w = get_or (get_or square v []) w false

-- the square that f says
abbrev pub SquareIs : List (List Bool) → (ℕ → ℕ → Bool) → Type 0
SquareIs square f = (v : ℕ) → v < 3 → TargetsAre (get_or square v []) (f v)

-- each of the first n rows has a yes
abbrev pub SomeInEach : ℕ → List (List Bool) → Type 0
SomeInEach n square = (v : ℕ) → v < n → 1 ≤ set_number (cell square v) 3

-- the digit of position v among n, and the index
unfoldable pub held_digit : (n : ℕ) (owners marks : List ℕ) (meant disturbances : List (List Bool)) → ℕ → ℕ
held_digit n owners marks meant disturbances v =
    digit (2 ^ n) (eqb (get_or owners v 0) 1) (get_or marks v 0) (set_number (cell meant v) 3) (set_number (cell disturbances v) 3)

unfoldable pub held_index : (n : ℕ) (owners marks : List ℕ) (meant disturbances : List (List Bool)) → ℕ
held_index n owners marks meant disturbances = numeral (digits (2 ^ n)) (held_digit n owners marks meant disturbances) n

-- one of the first m moves has this cost and joins v and w
unfoldable pub joined_below : (cost : ℕ) (costs froms tos : List ℕ) (m v w : ℕ) → Bool
joined_below cost costs froms tos m v w =
    some_below (λ i. eqb (get_or costs i 0) cost && (eqb (get_or froms i 0) v && eqb (get_or tos i 0) w)) m
