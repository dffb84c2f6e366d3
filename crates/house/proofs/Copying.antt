-- What the loops that copy records go by: no record copied, and one record more.
use Rattle.std.proofs.Common.{◌≡◌, ℕ, ◌+◌, ◌<◌, List, length, get_or, set, refl, add-one}
use Rattle.std.proofs.lemmas.List.{get_or_default}
use Rattle.run.specs.Running.{no_run}
use Rattle.run.specs.declared.Run.{Run}
use Rattle.house.specs.Copies.{copied}

pub copied-none : (from to : List Run) → to ≡ copied from to 0
unfolding copied
copied-none from to = refl

-- a row's element is read with another default than `no_run`, which is none where the row has that element
pub copied-more : (from to now : List Run) (i : ℕ) (other : Run) → i < length from → now ≡ copied from to i → set now i (get_or from i other) ≡ copied from to (i + 1)
unfolding copied
copied-more from to now i other inside e = rw (add-one, e, get_or_default from i other no_run inside) refl
