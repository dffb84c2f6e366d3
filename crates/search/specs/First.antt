-- The first that fails: of a loop that tests one number after the other and answers at the first whose test fails. The lines of a
-- chart and of a plate, the positions of Checking and those of Comparing, and the lanes of a house are all gone through so.
use Rattle.std.specs.Prelude.{ℕ, zero, suc, ◌+◌, ◌≤◌, ◌<◌, ◌≡◌, Bool, true, false, cond}

-- the answer at the first of `left` numbers from i on whose test fails; `end` if none does
unfoldable pub first_from : {A : Type 0} → (ℕ → Bool) → (ℕ → A) → A → ℕ → ℕ → A
first_from good answer end zero i = end
first_from good answer end (suc left) i = cond (good i) (first_from good answer end left (i + 1)) (answer i)

-- of `left` numbers from i on `place` is the first whose test fails
pub record FirstAt (good : ℕ → Bool) (left i place : ℕ) : Type 0 where
  pub low : i ≤ place
  pub high : place < i + left
  pub fails : good place ≡ false
  pub passed : (k : ℕ) → i ≤ k → k < place → good k ≡ true

-- every one of them passes
abbrev pub AllPass : (ℕ → Bool) → ℕ → ℕ → Type 0
AllPass good left i = (k : ℕ) → i ≤ k → k < i + left → good k ≡ true
