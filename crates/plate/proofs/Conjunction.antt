-- A row of tests, `if !test { return false; }` each: the first that fails, and one that passes, against their conjunction.
use mathlib.Core.Path.{◌≡◌, sym, ◌∙◌, ap}
use mathlib.Core.Bool.{Bool, true, false, not, ◌&&◌}
use borrow.Author.Tests.{not-true, not-false}

pub fails : (r a rest : Bool) → r ≡ a → not r ≡ true → false ≡ (a && rest)
fails r a rest e h = sym (ap (λ (b : Bool). b && rest) (sym e ∙ not-true r h))

pub passes : (r a rest q : Bool) → r ≡ a → not r ≡ false → q ≡ rest → q ≡ (a && rest)
passes r a rest q e h z = z ∙ sym (ap (λ (b : Bool). b && rest) (sym e ∙ not-false r h))
