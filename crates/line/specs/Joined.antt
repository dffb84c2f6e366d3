-- Rows of parts: the lines of a sheet one after the other, and what stands on them.
use Rattle.std.specs.Prelude.{ℕ, zero, suc, ◌+◌, List, [], ◌∷◌, ◌++◌}

-- f of each number below `count`, one after the other
unfoldable pub joined : {A : Type 0} → (ℕ → List A) → ℕ → List A
joined f zero = []
joined f (suc k) = joined f k ++ f k

-- f of each of `count` lines from line i on
abbrev pub on_lines : {A : Type 0} → (ℕ → A) → ℕ → ℕ → List A
on_lines f count i = joined (λ k. f (i + k) ∷ []) count
