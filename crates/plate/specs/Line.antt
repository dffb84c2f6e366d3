-- Laws of a plate's lines: how long they are, and that they are written one after the other.
use Rattle.std.specs.Prelude.{ℕ, ◌+◌, ◌-◌, ◌*◌, ◌≤◌, ◌≡◌, refl, List, ◌++◌, length, take, drop}
use Rattle.std.proofs.Common.{arith}
use Rattle.game.specs.Value.{Value}
use Rattle.line.specs.LineLaws.{line-length}
use Rattle.line.specs.JoinedLaws.{joined_length}
use Rattle.line.specs.Written.{Written, written-part}
use Rattle.line.specs.Made.{LineMade}
use Rattle.line.specs.MadeLaws.{made-line, line-more}
use Rattle.plate.specs.Text.{header_entries, position_entries, header_line, position_line, position_lines, plate_text}
use Rattle.rows.specs.declared.FirstLine.{FirstLine}

pub position-line-length : (v : ℕ) (value choice step : Value) → length (position_line v value choice step) ≡ 22
unfolding position_line
position-line-length v value choice step = line-length 86 (position_entries v value choice step)

pub header-line-length : (n : ℕ) (h : FirstLine) → length (header_line n h) ≡ 22
unfolding header_line
header-line-length n h = line-length 80 (header_entries n h)

pub lines-length : (value choice step : ℕ → Value) (count : ℕ) → length (position_lines value choice step count) ≡ count * 22
unfolding position_lines
lines-length value choice step count = joined_length _ 22 (λ v. position-line-length v (value v) (choice v) (step v)) count

-- one position's line more, made in the part behind those before it
pub lines_more : (value choice step : ℕ → Value) (v : ℕ) (base text part : List ℕ) → Written (position_lines value choice step v) (v * 22) base text →
    (v + 1) * 22 ≤ length base → LineMade (take (length text - v * 22) (drop (v * 22) text)) part 86 (position_entries v (value v) (choice v) (step v)) →
    Written (position_lines value choice step (v + 1)) ((v + 1) * 22) base (take (v * 22) text ++ (part ++ drop (length text - v * 22) (drop (v * 22) text)))
unfolding position_lines position_line
lines_more value choice step v base text part w h made = line-more 86 (λ u. position_entries u (value u) (choice u) (step u)) 22 (λ u. refl) v base text part w h made

-- the first line, made, and the part behind it
pub plate-written : (n : ℕ) (h : FirstLine) (value choice step : ℕ → Value) (base text part : List ℕ) → (n + 1) * 22 ≤ length base → LineMade base text 80 (header_entries n h) →
    part ≡ position_lines value choice step n ++ drop (n * 22) (take (length text - 22) (drop 22 text)) →
    take 22 text ++ (part ++ drop (length text - 22) (drop 22 text)) ≡ plate_text n h value choice step ++ drop ((n + 1) * 22) base
unfolding plate_text header_line
plate-written n h value choice step base text part l made f =
    let first : Written (header_line n h) 22 base text = record { bytes = made-line base 80 (header_entries n h) (omega arith) text made; size = header-line-length n h } in
    (written-part (header_line n h) (position_lines value choice step n) 22 (n * 22) ((n + 1) * 22) base text first (lines-length value choice step n) (omega arith) l part f).bytes
