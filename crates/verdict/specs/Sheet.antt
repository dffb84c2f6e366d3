-- The rows that Checking goes by, and the fault that its code finds at each position, as numbers. That these are the
-- faults of the arena is a law.
use Rattle.std.specs.Prelude.{ℕ, ◌≤◌, ◌<◌, ◌≡◌, ◌⊎◌, Bool, cond, List, length, get_or, eqb}
use Rattle.rows.specs.Numbers.{number_at, row_value}
use Rattle.rows.specs.Notes.{found}
use Rattle.game.specs.Value.{Value}
use Rattle.conditions.specs.Position.{after_moves, before_moves, shown}
use Rattle.conditions.specs.declared.Line.{Line}
use Rattle.conditions.specs.declared.Target.{Target}
use Rattle.conditions.specs.declared.Seen.{Seen}

-- the chart's rows and the plate's
pub record Sheet : Type 0 where
  pub owners : List ℕ
  pub marks : List ℕ
  pub costs : List ℕ
  pub froms : List ℕ
  pub tos : List ℕ
  pub values : List ℕ
  pub choices : List ℕ
  pub steps : List ℕ

abbrev pub sheet : (owners marks costs froms tos values choices steps : List ℕ) → Sheet
sheet owners marks costs froms tos values choices steps =
    record { owners = owners; marks = marks; costs = costs; froms = froms; tos = tos; values = values; choices = choices; steps = steps }

-- the plate's columns, as values
abbrev pub value_at : Sheet → ℕ → Value
value_at s = row_value s.values

abbrev pub choice_at : Sheet → ℕ → Value
choice_at s = row_value s.choices

abbrev pub step_at : Sheet → ℕ → Value
step_at s = row_value s.steps

-- the rows of positions have n numbers
pub record Sized (n : ℕ) (owners marks values choices steps : List ℕ) : Type 0 where
  pub owners-row : n ≤ length owners
  pub marks-row : n ≤ length marks
  pub values-row : n ≤ length values
  pub choices-row : n ≤ length choices
  pub steps-row : n ≤ length steps

-- values and steps in the plate's form: 65,535 or below 512
pub record Formed (n : ℕ) (values steps : List ℕ) : Type 0 where
  pub value : (v : ℕ) → v < n → (get_or values v 0 ≡ 65535) ⊎ (get_or values v 0 < 512)
  pub step : (v : ℕ) → v < n → (get_or steps v 0 ≡ 65535) ⊎ (get_or steps v 0 < 512)

-- the position v, and the j-th move
abbrev pub line_of : (owners marks values choices steps : List ℕ) → ℕ → Line
line_of owners marks values choices steps v =
    record { owner = get_or owners v 0; mark = get_or marks v 0; value = get_or values v 0; choice = get_or choices v 0; step = get_or steps v 0 }

abbrev pub target_of : (costs tos values steps : List ℕ) → ℕ → Target
target_of costs tos values steps j =
    record { cost = get_or costs j 0; to = get_or tos j 0; value = get_or values (get_or tos j 0) 0; step = get_or steps (get_or tos j 0) 0 }

abbrev pub line_at : Sheet → ℕ → Line
line_at s = line_of s.owners s.marks s.values s.choices s.steps

abbrev pub target_at : Sheet → ℕ → Target
target_at s = target_of s.costs s.tos s.values s.steps

-- some move of v among the first i shows it
abbrev pub some_shows : (Seen → Bool) → Sheet → ℕ → ℕ → Bool
some_shows field s i v = found (number_at s.froms) (λ j. field (shown (line_at s v) (target_at s j))) i v

-- what the moves of v among the first i show
unfoldable pub seen_below : Sheet → ℕ → ℕ → Seen
seen_below s i v =
    record {
      chosen = some_shows (λ x. x.chosen) s i v;
      low = some_shows (λ x. x.low) s i v;
      ruin = some_shows (λ x. x.ruin) s i v;
      late = some_shows (λ x. x.late) s i v;
    }

-- the first of conditions 1 to 5 that fails at v, 0 if none does
unfoldable pub row_fault : ℕ → Sheet → ℕ → ℕ
row_fault m s v = cond (eqb (before_moves (line_at s v)) 0) (after_moves (line_at s v) (seen_below s m v)) (before_moves (line_at s v))
