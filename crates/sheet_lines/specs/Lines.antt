-- Rows of two numbers as lines in the chart's columns, one after the other, and the law of one line more.
use Rattle.std.specs.Prelude.{ℕ, ◌+◌, ◌-◌, ◌*◌, ◌≤◌, refl, List, [], ◌∷◌, ◌++◌, length, get_or, take, drop}
use Rattle.line.specs.Text.{line_text}
use Rattle.line.specs.Joined.{joined}
use Rattle.line.specs.Written.{Written}
use Rattle.line.specs.Made.{LineMade}
use Rattle.line.specs.MadeLaws.{line-more}
use Rattle.line.specs.declared.Entry.{Entry}
use Rattle.line.specs.declared.Entry.TheVariants.{Number}

-- the entries of the i-th pair
abbrev pub pair_entries : (firsts seconds : List ℕ) → ℕ → List Entry
pair_entries firsts seconds i = Number (get_or firsts i 0) ∷ Number (get_or seconds i 0) ∷ []

-- the lines of the first `count` pairs
unfoldable pub pair_lines : ℕ → (firsts seconds : List ℕ) → ℕ → List ℕ
pair_lines letter firsts seconds count = joined (λ i. line_text letter (pair_entries firsts seconds i)) count

-- one line more, made in the part behind those before it
pub pair-lines-more : (letter : ℕ) (firsts seconds : List ℕ) (i : ℕ) (base text part : List ℕ) → Written (pair_lines letter firsts seconds i) (i * 12) base text →
    (i + 1) * 12 ≤ length base → LineMade (take (length text - i * 12) (drop (i * 12) text)) part letter (pair_entries firsts seconds i) →
    Written (pair_lines letter firsts seconds (i + 1)) ((i + 1) * 12) base (take (i * 12) text ++ (part ++ drop (length text - i * 12) (drop (i * 12) text)))
unfolding pair_lines
pair-lines-more letter firsts seconds i base text part w h made = line-more letter (pair_entries firsts seconds) 12 (λ k. refl) i base text part w h made
