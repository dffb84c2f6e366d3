-- What a plate can hold: the numbers of a header and three columns within the limits of the form (refusal 11).
use Rattle.std.specs.Prelude.{ℕ, ◌≤◌, ◌<◌}
use Rattle.rows.specs.Numbers.{value_of}
use Rattle.game.specs.Value.{Value, fin, ever}
use Rattle.rows.specs.declared.FirstLine.{FirstLine}

-- a finite value is below the bound
unfoldable pub Below : ℕ → Value → Type 0
Below bound (fin k) = k < bound
Below bound ever = Unit {0}

-- "rounds 0 to 512, highest `-` or 0 to 511, "ever" count 0 to 512, values `ever` or 0 to 511, choices `-` or below n, steps `-` or 0
-- to 511"
pub record InRange (n : ℕ) (h : FirstLine) (value choice step : ℕ → Value) : Type 0 where
  pub rounds : h.rounds ≤ 512
  pub highest : Below 512 (value_of h.highest)
  pub evers : h.evers ≤ 512
  pub value_in : (v : ℕ) → v < n → Below 512 (value v)
  pub choice-in : (v : ℕ) → v < n → Below n (choice v)
  pub step_in : (v : ℕ) → v < n → Below 512 (step v)
