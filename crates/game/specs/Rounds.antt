-- The rounds that fix the pair (value, step) of a position, exactly as document 01 gives them ("Steps"), for all k and s.
use Rattle.std.specs.Prelude.{ℕ, zero, suc, ◌<◌, ◌⊎◌, T}
use Rattle.game.specs.Arena.{Arena, Owner, controller, environment, nobody, size, owner_at, unsafe, Meant, Disturbance, may_be_disturbed}

-- a set of positions
abbrev pub Positions : Type 1
Positions = ℕ → Type 0

-- "L positions with some meant target placed", "O positions with all meant targets placed"; ""all meant targets" never applies to" R
abbrev pub JoinsAs : Owner → Arena → Positions → ℕ → Type 0
JoinsAs controller a placed v = (w : ℕ) → Meant a v w → placed w
JoinsAs environment a placed v = (w : ℕ) × Meant a v w × placed w
JoinsAs nobody a placed v = ⊥

abbrev pub Joins : Arena → Positions → Positions
Joins a placed v = (v < size a) × JoinsAs (owner_at a v) a placed v

-- What the rounds of one value k begin with: the positions placed by the rounds of smaller values, and those that may
-- join in round (k, 0).
pub record Level : Type 1 where
  pub before : Positions
  pub starting : Positions

-- placed by round (k, s), where l is what k begins with
unfoldable pub PlacedBy : Arena → Level → ℕ → Positions
PlacedBy a l zero v = l.before v ⊎ l.starting v
PlacedBy a l (suc s) v = PlacedBy a l s v ⊎ Joins a (PlacedBy a l s) v

-- round (k, s) has v: it is not placed before, and joins
unfoldable pub JoinsIn : Arena → Level → ℕ → Positions
JoinsIn a l zero v = (¬ (l.before v)) × l.starting v
JoinsIn a l (suc s) v = (¬ (PlacedBy a l s v)) × Joins a (PlacedBy a l s) v

-- "Round (0, 0) has the unsafe positions. Round (k, 0) for k from 1 has the O positions not yet placed with a disturbance into value k−1."
-- It "takes R as it takes O" (document 02, order 4).
unfoldable pub level : Arena → ℕ → Level
level a zero = record { before = λ v. ⊥; starting = λ v. (v < size a) × T (unsafe a v) }
level a (suc k) =
    record {
      before = λ v. (s : ℕ) × PlacedBy a (level a k) s v;
      starting = λ v. T (may_be_disturbed (owner_at a v)) × ((w : ℕ) × Disturbance a v w × ((s : ℕ) × JoinsIn a (level a k) s w));
    }

-- round (k, s) has v
unfoldable pub Round : Arena → ℕ → ℕ → Positions
Round a k s v = JoinsIn a (level a k) s v

-- "Positions never placed are "ever"."
abbrev pub NeverPlaced : Arena → Positions
NeverPlaced a v = (k s : ℕ) → ¬ (Round a k s v)
