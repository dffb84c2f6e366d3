-- Values: a number of disturbances, or "ever", which is above each number (document 01, "Plays, worth, value").
-- The same type serves the other two columns of a plate, where `ever` is the dash: "`-` is above each step".
use Rattle.std.specs.Prelude.{ℕ, ◌+◌, ◌≤◌, ◌<◌, Bool, true, false, leb, ltb, eqb}

pub data Value : Type 0 where
  fin : ℕ → Value
  ever : Value

-- the order of values
unfoldable pub ◌≼◌ : Value → Value → Type 0
◌≼◌ (fin j) (fin k) = j ≤ k
◌≼◌ (fin j) ever = Unit {0}
◌≼◌ ever (fin k) = ⊥
◌≼◌ ever ever = Unit {0}

unfoldable pub ◌≺◌ : Value → Value → Type 0
◌≺◌ (fin j) (fin k) = j < k
◌≺◌ (fin j) ever = Unit {0}
◌≺◌ ever x = ⊥

infix 4 ◌≼◌ ◌≺◌
-- a value and a cost more; "ever" stays
unfoldable pub ◌⊕◌ : Value → ℕ → Value
◌⊕◌ (fin k) c = fin (k + c)
◌⊕◌ ever c = ever

infixl 6 ◌⊕◌
-- the order and equality as tests
unfoldable pub value_le : Value → Value → Bool
value_le (fin j) (fin k) = leb j k
value_le (fin j) ever = true
value_le ever (fin k) = false
value_le ever ever = true

unfoldable pub value_lt : Value → Value → Bool
value_lt (fin j) (fin k) = ltb j k
value_lt (fin j) ever = true
value_lt ever x = false

unfoldable pub value_eq : Value → Value → Bool
value_eq (fin j) (fin k) = eqb j k
value_eq (fin j) ever = false
value_eq ever (fin k) = false
value_eq ever ever = true
