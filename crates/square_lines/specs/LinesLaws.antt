-- Laws of the lines of a chart that is held as squares: how many moves there are, and the lines as they are written one behind the other.
use Prim.Native.Nat.{ℕ, zero, suc, ◌+◌, ◌-◌, ◌*◌, ◌≤◌, ◌<◌}
use native.Mathlib.Omega.{arith}
use Rattle.std.proofs.Math.Nat.{suc-mul}
use Rattle.std.proofs.Math.Numerals.{add-one}
use Rattle.std.specs.Prelude.{◌≡◌, refl, Bool, true, false, cond, List, [], ◌∷◌, ◌++◌, length, get_or, take, drop}
use Rattle.std.proofs.Common.{append_assoc, append-nil, length-take, length-drop}
use Rattle.search.specs.Below.{count_below, count_next, count-bound}
use Rattle.search.specs.Counting.{never-falls, count_past}
use Rattle.line.specs.Text.{line_text}
use Rattle.line.specs.Joined.{joined}
use Rattle.line.specs.Written.{Written, written_none, written-length, written-part}
use Rattle.line.specs.Made.{LineMade}
use Rattle.line.specs.MadeLaws.{made-line}
use Rattle.line.specs.LineLaws.{line-length}
use Rattle.line.specs.declared.Entry.TheVariants.{Number}
use Rattle.chart.specs.Meaning.{chart_line}
use Rattle.squares.specs.Held.{cell}
use Rattle.numbering.specs.Squares.{target_lines}
use Rattle.square_lines.specs.Lines.{TargetsWritten, owner_byte, owner_line, move_lines, moves_count, yes}

-- How many moves

module _ (n : ℕ) (meant disturbances : List (List Bool)) where
  pub moves_next : (v : ℕ) → moves_count n meant disturbances (v + 1) ≡ moves_count n meant disturbances v + count_below (cell meant v) n + count_below (cell disturbances v) n
  unfolding moves_count
  moves_next v = rw add-one

  -- a position has at most n meant moves and n disturbances
  pub moves-bound : (v : ℕ) → moves_count n meant disturbances v ≤ v * (n + n)
  unfolding moves_count
  moves-bound zero = omega arith
  moves-bound (suc v) = omega (arith, moves-bound v, suc-mul v (n + n), count-bound (cell meant v) n, count-bound (cell disturbances v) n)

  -- the more positions, the more moves
  pub moves-within : (v k : ℕ) → v ≤ k → moves_count n meant disturbances v ≤ moves_count n meant disturbances k
  moves-within = never-falls (moves_count n meant disturbances) (λ v. omega (arith, moves_next v))

-- Lines behind what is written

joined-next : (f : ℕ → List ℕ) (k : ℕ) → joined f (k + 1) ≡ joined f k ++ f k
unfolding joined
joined-next f k = rw add-one

-- what a call leaves that had the part from `at` to the end
abbrev pub behind : (at : ℕ) (text part : List ℕ) → List ℕ
behind at text part = take at text ++ (part ++ drop (length text - at) (drop at text))

-- one line
pub line-behind : (p : List ℕ) (at letter first second : ℕ) (base text part : List ℕ) → Written p at base text → at + 12 ≤ length base
    → LineMade (take (length text - at) (drop at text)) part letter (Number first ∷ Number second ∷ []) → Written (p ++ chart_line letter first second) (at + 12) base (behind at text part)
line-behind p at letter first second base text part w h made =
    let es = Number first ∷ Number second ∷ [] in
    let same = written-length p at base text w (omega arith) in
    let room : 12 ≤ length (take (length text - at) (drop at text)) = simp (length-take, length-drop) (omega arith) in
    written-part p (line_text letter es) at 12 (at + 12) base text w (line-length letter es) refl h part (made-line (take (length text - at) (drop at text)) letter es room part made)

-- the lines of a row
pub targets-behind : (p : List ℕ) (at letter from n : ℕ) (row : List Bool) (base text part : List ℕ) (r : ℕ) → Written p at base text → at + r ≤ length base
    → TargetsWritten letter from n row (take (length text - at) (drop at text)) part r → Written (p ++ target_lines letter from (yes row) n) (at + r) base (behind at text part)
targets-behind p at letter from n row base text part r w h t =
    written-part p (target_lines letter from (yes row) n) at r (at + r) base text w t.lines.size refl h part t.lines.bytes

-- Position lines

pub positions-more : (owners marks : List ℕ) (v letter : ℕ) (base text part : List ℕ) → Written (joined (owner_line owners marks) v) (v * 12) base text → (v + 1) * 12 ≤ length base
    → letter ≡ owner_byte (get_or owners v 0) → LineMade (take (length text - v * 12) (drop (v * 12) text)) part letter (Number v ∷ Number (get_or marks v 0) ∷ [])
    → Written (joined (owner_line owners marks) (v + 1)) ((v + 1) * 12) base (behind (v * 12) text part)
positions-more owners marks v letter base text part w h e made =
    let next : v * 12 + 12 ≡ (v + 1) * 12 = omega arith in
    rw (joined-next (owner_line owners marks) v, ← next, ← e) (line-behind (joined (owner_line owners marks) v) (v * 12) letter v (get_or marks v 0) base text part w (omega arith) made)

-- The lines of a row

module _ (letter from : ℕ) (row : List Bool) (base : List ℕ) where
  pub targets-none : TargetsWritten letter from 0 row base base 0
  unfolding count_below joined
  targets-none = record { bytes = refl; lines = written_none base }

  -- a target that the row has not
  pub targets-same : (w at : ℕ) (text : List ℕ) → yes row w ≡ false → TargetsWritten letter from w row base text at → TargetsWritten letter from (w + 1) row base text at
  targets-same w at text e t = record {
    bytes = rw (count_next (yes row) w, e) (omega (arith, t.bytes));
    lines = rw (joined-next (λ u. cond (yes row u) (chart_line letter from u) []) w, e, append-nil) t.lines;
  }

  -- a target that it has
  pub targets-more : (w at : ℕ) (text part : List ℕ) → yes row w ≡ true → at + 12 ≤ length base → TargetsWritten letter from w row base text at
      → LineMade (take (length text - at) (drop at text)) part letter (Number from ∷ Number w ∷ []) → TargetsWritten letter from (w + 1) row base (behind at text part) (at + 12)
  targets-more w at text part e h t made = record {
    bytes = rw (count_next (yes row) w, e) (omega (arith, t.bytes));
    lines = rw (joined-next (λ u. cond (yes row u) (chart_line letter from u) []) w, e) (line-behind _ at letter from w base text part t.lines h made);
  }

  -- for its line there is room
  pub targets-room : (w n at : ℕ) → w < n → yes row w ≡ true → at ≡ count_below (yes row) w * 12 → count_below (yes row) n * 12 ≤ length base → at + 12 ≤ length base
  targets-room w n at l e a h = omega (arith, count_past (yes row) w n l e)

-- The lines of the moves

-- the lines of the moves of the positions below v, written at the front of a buffer
pub record MovesWritten (n : ℕ) (meant disturbances : List (List Bool)) (v : ℕ) (before after : List ℕ) (at : ℕ) : Type 0 where
  pub bytes : at ≡ moves_count n meant disturbances v * 12
  pub lines : Written (joined (move_lines n meant disturbances) v) at before after

module _ (n : ℕ) (meant disturbances : List (List Bool)) (base : List ℕ) where
  pub moves-none : MovesWritten n meant disturbances 0 base base 0
  unfolding moves_count joined
  moves-none = record { bytes = refl; lines = written_none base }

  pub moves-all : (at : ℕ) (text : List ℕ) → MovesWritten n meant disturbances n base text at
      → Written (joined (move_lines n meant disturbances) n) (moves_count n meant disturbances n * 12) base text
  moves-all at text written = rw (← written.bytes) written.lines

  module _ (v at : ℕ) (text : List ℕ) (written : MovesWritten n meant disturbances v base text at) (inside : v < n) (room : moves_count n meant disturbances n * 12 ≤ length base) where
    -- for the lines of both rows there is room
    pub rows_fit : at + count_below (cell meant v) n * 12 + count_below (cell disturbances v) n * 12 ≤ length base
    rows_fit = omega (arith, written.bytes, moves_next n meant disturbances v, moves-within n meant disturbances (v + 1) n (omega arith))

    -- the lines of the meant row
    pub moves-half : (part : List ℕ) (r : ℕ) → TargetsWritten 77 v n (get_or meant v []) (take (length text - at) (drop at text)) part r
        → Written (joined (move_lines n meant disturbances) v ++ target_lines 77 v (cell meant v) n) (at + r) base (behind at text part)
    moves-half part r t = targets-behind _ at 77 v n (get_or meant v []) base text part r written.lines (omega (arith, rows_fit, t.bytes)) t

    -- and those of the disturbances behind them
    pub moves_more : (half part : List ℕ) (r q : ℕ) → r ≡ count_below (cell meant v) n * 12
        → Written (joined (move_lines n meant disturbances) v ++ target_lines 77 v (cell meant v) n) (at + r) base half
        → TargetsWritten 68 v n (get_or disturbances v []) (take (length half - (at + r)) (drop (at + r) half)) part q
        → MovesWritten n meant disturbances (v + 1) base (behind (at + r) half part) (at + r + q)
    moves_more half part r q e w t = record {
      bytes = omega (arith, written.bytes, t.bytes, moves_next n meant disturbances v);
      lines = rw (joined-next (move_lines n meant disturbances) v, ← append_assoc) (targets-behind _ (at + r) 68 v n (get_or disturbances v []) base half part q w (omega (arith, rows_fit, t.bytes)) t);
    }
