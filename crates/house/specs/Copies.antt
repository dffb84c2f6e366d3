-- The records of a lent row in a row of 64 and back: the first of one row, copied to the front of another.
use Rattle.std.specs.Prelude.{ℕ, zero, suc, ◌≡◌, refl, List, length, get_or, set, replicate}
use Rattle.std.proofs.Common.{◌∙◌, length-set}
use Rattle.run.specs.Running.{no_run}
use Rattle.run.specs.declared.Run.{Run}

-- a row of 64 records with no run in it
abbrev pub no_runs : List Run
no_runs = replicate 64 no_run

-- `to` with the first records of `from`
unfoldable pub copied : (from to : List Run) → ℕ → List Run
copied from to zero = to
copied from to (suc i) = set (copied from to i) i (get_or from i no_run)

pub copied-length : (from to : List Run) (i : ℕ) → length (copied from to i) ≡ length to
unfolding copied
copied-length from to zero = refl
copied-length from to (suc i) = length-set (copied from to i) i _ ∙ copied-length from to i
