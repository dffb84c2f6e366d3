-- `first_difference` meets its contract. The invariant: the first difference of what is left is that of all. Equal numbers leave that
-- as it is, others end it, and with nothing left there is none: the laws of a search's three turns.
use Rattle.std.specs.Prelude.{Option, Some, None, Result, Ok}
use Rattle.comparing.specs.declared.Difference.{Difference}
use Rattle.comparing.specs.Comparing.{difference_of}
use Prim.Native.Nat.{ℕ, ◌-◌, ◌≤◌}
use mathlib.Core.Path.{◌≡◌}
use mathlib.Core.List.{List}
use mathlib.Core.Bool.{Bool}
use lib.Dec.{eqb}
use Rattle.rows.specs.Numbers.{number_at}
use Rattle.search.specs.First.{first_from}
use Rattle.comparing.specs.Comparing.{first_difference}
use Rattle.refusal.specs.declared.Refusal.{Refusal}
use Rattle.comparing.proofs.first_difference.Given as goal

-- the test at a position, and the answer where it fails
abbrev pub same : List ℕ → List ℕ → ℕ → Bool
same values worths v = eqb (number_at values v) (number_at worths v)

abbrev pub differ : List ℕ → List ℕ → ℕ → Result (Option Difference) Refusal
differ values worths v = Ok (Some (difference_of v (number_at values v) (number_at worths v)))

abbrev pub invariant-loop-v : goal.invariant-loop-v
invariant-loop-v l = (l.v ≤ l.n) × (first_from (same l.values l.worths) (differ l.values l.worths) (Ok None) (l.n - l.v) l.v ≡ first_difference (number_at l.values) (number_at l.worths) l.n)
