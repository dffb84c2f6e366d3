-- The plate's form (refusal 11), a condition for each line that can be read beside document 01: "the first field equals n, rounds
-- 0 to 512, highest `-` or 0 to 511, "ever" count 0 to 512, values `ever` or 0 to 511, choices `-` or below n, steps `-` or 0 to
-- 511, positions in order. Its length is tested first, as line 0; then the lowest bad line is given".
use Rattle.std.specs.Prelude.{ℕ, zero, suc, ◌+◌, ◌*◌, ◌≤◌, ◌<◌, ◌≡◌, List, length}
use Rattle.line.specs.Text.{entry_at, line_letter, line_end, line_field}
use Rattle.line.specs.declared.Entry.{Entry}
use Rattle.line.specs.declared.Entry.TheVariants.{Number, Dash, Ever, Bad}

-- field j of line i, counted from 0
unfoldable pub column_at : List ℕ → ℕ → ℕ → Entry
column_at text i j = entry_at text (line_field 4 i j)

-- a number below the bound
unfoldable pub NumberBelow : ℕ → Entry → Type 0
NumberBelow bound (Number x) = x < bound
NumberBelow bound Dash = ⊥
NumberBelow bound Ever = ⊥
NumberBelow bound Bad = ⊥

-- `-` or a number below the bound
unfoldable pub DashOrBelow : ℕ → Entry → Type 0
DashOrBelow bound (Number x) = x < bound
DashOrBelow bound Dash = Unit {0}
DashOrBelow bound Ever = ⊥
DashOrBelow bound Bad = ⊥

-- `ever` or a number below the bound
unfoldable pub EverOrBelow : ℕ → Entry → Type 0
EverOrBelow bound (Number x) = x < bound
EverOrBelow bound Dash = ⊥
EverOrBelow bound Ever = Unit {0}
EverOrBelow bound Bad = ⊥

-- the first line: `P`, n, rounds, highest, "ever" count
pub record HeaderForm (n : ℕ) (text : List ℕ) : Type 0 where
  pub letter : line_letter 4 text 0 ≡ 80
  pub count : column_at text 0 0 ≡ Number n
  pub rounds : NumberBelow 513 (column_at text 0 1)
  pub highest : DashOrBelow 512 (column_at text 0 2)
  pub evers : NumberBelow 513 (column_at text 0 3)
  pub end : line_end 4 text 0 ≡ 10

-- line i, i at least 1: `V`, position i - 1, value, choice, step
pub record PositionForm (n : ℕ) (text : List ℕ) (v i : ℕ) : Type 0 where
  pub letter : line_letter 4 text i ≡ 86
  pub position : column_at text i 0 ≡ Number v
  pub value : EverOrBelow 512 (column_at text i 1)
  pub choice : DashOrBelow n (column_at text i 2)
  pub step : DashOrBelow 512 (column_at text i 3)
  pub end : line_end 4 text i ≡ 10

-- the form of line i
unfoldable pub LineForm : ℕ → List ℕ → ℕ → Type 0
LineForm n text zero = HeaderForm n text
LineForm n text (suc v) = PositionForm n text v (suc v)

-- a plate of the form
pub record OfForm (n : ℕ) (text : List ℕ) : Type 0 where
  pub size : length text ≡ (n + 1) * 22
  pub line : (i : ℕ) → i ≤ n → LineForm n text i

-- refusal 11 at line l: the length is bad and l is 0, or l is the lowest bad line
pub data BadAt (n : ℕ) (text : List ℕ) : ℕ → Type 0 where
  bad_length : (length text ≡ (n + 1) * 22 → ⊥) → BadAt n text 0
  bad_line : {l : ℕ} → length text ≡ (n + 1) * 22 → l ≤ n → (LineForm n text l → ⊥) → ((i : ℕ) → i < l → LineForm n text i) → BadAt n text l
