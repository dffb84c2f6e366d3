-- `compare_worths` meets its contract: the row of values that was read is the plate's, so its first difference is the plate's.
use mathlib.Core.Path.{refl, ◌∙◌}
use Rattle.comparing.specs.ComparingLaws.{difference-same}
use Rattle.comparing.proofs.compare_worths.Goals as goal

pub returns : goal.returns
returns c =
    c.first_difference.ensures ∙ difference-same _ _ _ _ _ c.read_rows.ensures.rows.value.row (λ v l. refl)
