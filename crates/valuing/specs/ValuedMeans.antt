-- What the numbers that Valuing gives mean (document 01, "Plays, worth, value"), said of plays, controllers and rounds and of no
-- computation: "The value is the greatest worth any controller has there"; "The choice at O is the meant target of greatest value, the
-- lowest number among equals"; "the pair (value, step) of a position is fixed by rounds". That they do is proved in
-- specs/ValuedMeansHold.antt.
use Rattle.std.specs.Prelude.{ℕ, ◌<◌, ◌≡◌, List}
use Rattle.rows.specs.Numbers.{row_value}
use Rattle.game.specs.Value.{Value, fin, ever}
use Rattle.game.specs.Arena.{Arena, size}
use Rattle.game.specs.Worth.{IsValue}
use Rattle.game.specs.Choice.{IsChoice}
use Rattle.game.specs.Rounds.{Round, NeverPlaced}
use Rattle.game.specs.FirstLine.{pair_count}
use Rattle.chart.specs.Meaning.{arena_of}

-- the pair of value and step at v, as the rounds give it: round (k, s) has v, or "Positions never placed are "ever""
abbrev pub PairIs : Arena → ℕ → (value step : Value) → Type 0
PairIs a v (fin k) (fin s) = Round a k s v
PairIs a v (fin k) ever = ⊥
PairIs a v ever (fin s) = ⊥
PairIs a v ever ever = NeverPlaced a v

-- the rows' numbers at each position, and the answer: "rounds (how many different pairs of value and step occur ..)"
pub record ValuedMeans (text values choices steps : List ℕ) (rounds : ℕ) : Type 0 where
  pub value : (v : ℕ) → v < size (arena_of text) → IsValue (arena_of text) v (row_value values v)
  pub choice : (v : ℕ) → v < size (arena_of text) → IsChoice (arena_of text) (row_value values) v (row_value choices v)
  pub pair : (v : ℕ) → v < size (arena_of text) → PairIs (arena_of text) v (row_value values v) (row_value steps v)
  pub counted : rounds ≡ pair_count (row_value values) (row_value steps) (size (arena_of text))
