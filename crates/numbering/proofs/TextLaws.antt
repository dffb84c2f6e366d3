-- The text of squares: the header, a line for each position, and for each position the lines of its rows, one for each target that is in it.
use Prim.Native.Nat.{ℕ, zero, suc}
use Rattle.std.specs.Prelude.{◌≡◌, Bool, true, false, cond, length, get_or}
use Rattle.std.proofs.Math.Path.{refl, ap, ap₂}
use Rattle.std.proofs.Common.{sym, ◌∙◌}
use mathlib.Core.List.{List, [], ◌∷◌, ◌++◌, append_assoc}
use Rattle.line.specs.Joined.{joined}
use Rattle.line.specs.JoinedLaws.{joined_same, joined-front}
use Rattle.game.specs.Arena.{Arena, Move, position_at, no_move, disturbance_move}
use Rattle.chart.specs.Meaning.{chart_line, position_text, move_text, cost_letter, chart_text}
use Rattle.numbering.specs.Squares.{Squares, position_of, moves_to, moves_from, moves_of, square_arena, target_lines}
use Rattle.numbering.proofs.ArenaLaws.{arena-size, arena-position}

-- the lines of position v's moves: `M` (77), then `D` (68)
abbrev pub row_lines : Squares → (n v : ℕ) → List ℕ
row_lines s n v = target_lines 77 v (s.meant v) n ++ target_lines 68 v (s.disturbances v) n

-- the lines of a list of moves
lines_of : List Move → List ℕ
lines_of ms = joined (λ i. move_text (get_or ms i no_move)) (length ms)

lines-front : (m : Move) (ms : List Move) → lines_of (m ∷ ms) ≡ move_text m ++ lines_of ms
unfolding lines_of
lines-front m ms = joined-front (λ i. move_text (get_or (m ∷ ms) i no_move)) (length ms)

lines-behind : (xs ys : List Move) → lines_of (xs ++ ys) ≡ lines_of xs ++ lines_of ys
unfolding lines_of joined
lines-behind [] ys = refl
lines-behind (x ∷ xs) ys =
    lines-front x (xs ++ ys) ∙ ap (λ (l : List ℕ). move_text x ++ l) (lines-behind xs ys) ∙ sym (append_assoc (move_text x) (lines_of xs) (lines_of ys))
    ∙ ap (λ (l : List ℕ). l ++ lines_of ys) (sym (lines-front x xs))

row-lines : (cost v : ℕ) (p : ℕ → Bool) (k : ℕ) → lines_of (moves_to cost v p k) ≡ target_lines (cost_letter cost) v p k
unfolding moves_to joined lines_of move_text
row-lines cost v p zero = refl
row-lines cost v p (suc k) =
    lines-behind (moves_to cost v p k) (cond (p k) (disturbance_move cost v k ∷ []) []) ∙ ap₂ (λ (x y : List ℕ). x ++ y) (row-lines cost v p k) (last (p k))
  where
    last : (b : Bool) → lines_of (cond b (disturbance_move cost v k ∷ []) []) ≡ cond b (chart_line (cost_letter cost) v k) []
    last true = refl
    last false = refl

module _ (s : Squares) (n : ℕ) where
  position-lines : (v : ℕ) → lines_of (moves_from s n v) ≡ row_lines s n v
  unfolding moves_from cost_letter
  position-lines v =
      lines-behind (moves_to 0 v (s.meant v) n) (moves_to 1 v (s.disturbances v) n) ∙ ap₂ (λ (x y : List ℕ). x ++ y) (row-lines 0 v (s.meant v) n) (row-lines 1 v (s.disturbances v) n)

  all_lines : (k : ℕ) → lines_of (joined (moves_from s n) k) ≡ joined (row_lines s n) k
  unfolding joined lines_of
  all_lines zero = refl
  all_lines (suc k) = lines-behind (joined (moves_from s n) k) (moves_from s n k) ∙ ap₂ (λ (x y : List ℕ). x ++ y) (all_lines k) (position-lines k)

  pub square-text : chart_text (square_arena s n)
      ≡ chart_line 72 n (length (moves_of s n)) ++ (joined (λ v. position_text v (position_of s v)) n ++ joined (row_lines s n) n)
  unfolding chart_text square_arena moves_of lines_of
  square-text =
      ap (λ (k : ℕ). chart_line 72 k (length a.moves) ++ (joined (λ v. position_text v (position_at a v)) k ++ lines_of a.moves)) (arena-size s n)
      ∙ ap₂ (λ (x y : List ℕ). chart_line 72 n (length a.moves) ++ (x ++ y)) positions moves
    where
      a : Arena
      a = square_arena s n

      positions : joined (λ v. position_text v (position_at a v)) n ≡ joined (λ v. position_text v (position_of s v)) n
      positions = joined_same (λ v. position_text v (position_at a v)) (λ v. position_text v (position_of s v)) n (λ v l. ap (position_text v) (arena-position s n v l))

      moves : lines_of (moves_of s n) ≡ joined (row_lines s n) n
      moves = all_lines n
