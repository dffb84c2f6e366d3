-- The lines of the arrays are the text of the index's chart: the arrays hold its squares, and the text of squares is its header, its position
-- lines and its rows' lines. Then the job's answers.
use Prim.Native.Nat.{ℕ, zero, suc, ◌+◌, ◌-◌, ◌*◌, ◌^◌, ◌≤◌, ◌<◌}
use native.Mathlib.Omega.{arith}
use Rattle.std.proofs.Common.{mul-le-mul, pow_mono, sym, ◌∙◌, true≢false}
use Rattle.std.proofs.Math.Path.{◌≡◌, refl, ap, ap₂}
use Rattle.std.specs.Prelude.{Bool, ◌&&◌, not, length, get_or, take, eqb, leb, ltb, Ok, Err}
use Rattle.std.proofs.Math.Bool.{true, false, cond}
use Rattle.std.proofs.lemmas.Bool.{false≢true}
use mathlib.Core.List.{List, [], ◌∷◌, ◌++◌, append_assoc}
use Rattle.std.proofs.Math.ListN.{drop, length-append}
use borrow.Author.Tests.{le-leb, lt-leb, lt-ltb, leb-true, ltb-true}
use Rattle.search.specs.Below.{bit, count_same}
use Rattle.line.specs.Joined.{joined}
use Rattle.line.specs.JoinedLaws.{joined_same}
use Rattle.line.specs.LineLaws.{line-length}
use Rattle.line.specs.Made.{LineMade}
use Rattle.line.specs.MadeLaws.{made-line}
use Rattle.line.specs.Written.{Written, written-part}
use Rattle.line.specs.declared.Entry.TheVariants.{Number}
use Rattle.rows.specs.Rows.{RowIs}
use Rattle.chart.specs.Meaning.{owner_letter, chart_line, position_text, chart_text}
use Rattle.chart.specs.SetOut.{set_out}
use Rattle.numbering.specs.Numbering.{digits, chart_count}
use Rattle.numbering.specs.Squares.{Squares, owner_by, position_of, moves_to, moves_from, moves_of, digit_of, lane_in, mark_in, meant_in, disturbances_in, in_set, squares_of, square_arena, small_arena, target_lines}
use Rattle.numbering.proofs.SquareLaws.{row-length}
use Rattle.numbering.proofs.EverySmall.{chart-of-index}
use Rattle.numbering.proofs.TextLaws.{row_lines, square-text}
use Rattle.squares.specs.Held.{SquareIs, cell}
use Rattle.square_lines.specs.Lines.{owner_byte, owner_line, move_lines, moves_count}
use Rattle.square_lines.specs.LinesLaws.{moves-bound, behind}
use Rattle.refusal.specs.declared.Refusal.TheVariants.{NotSmall, Short}
use Rattle.generating.specs.Generating.{is_index, small_text, generated, GeneratedIs, SquaresFit, SquaresWritten}

-- arrays that hold squares of n positions
pub record Hold (s : Squares) (n : ℕ) (owners marks : List ℕ) (meant disturbances : List (List Bool)) : Type 0 where
  pub lane : (v : ℕ) → v < n → get_or owners v 0 ≡ bit (s.lane v)
  pub mark : (v : ℕ) → v < n → get_or marks v 0 ≡ s.mark v
  pub meant-square : (v w : ℕ) → v < n → w < n → cell meant v w ≡ s.meant v w
  pub disturbance-square : (v w : ℕ) → v < n → w < n → cell disturbances v w ≡ s.disturbances v w

-- the digits' arrays hold the squares of the index
pub digits-hold : (n i t : ℕ) → n ≤ 3 → t ≡ 2 ^ n → (row owners marks : List ℕ) (meant disturbances : List (List Bool)) → RowIs row n (digit_of (digits (2 ^ n)) i n)
    → RowIs owners 3 (λ v. bit (lane_in t (get_or row v 0))) → RowIs marks 3 (λ v. mark_in t (get_or row v 0)) → SquareIs meant (λ v. in_set (meant_in t (get_or row v 0)))
    → SquareIs disturbances (λ v. in_set (disturbances_in t (get_or row v 0))) → Hold (squares_of n i) n owners marks meant disturbances
unfolding squares_of
digits-hold n i t few sets row owners marks meant disturbances r o m p q = record {
  lane = λ v l. o v (omega arith) ∙ ap₂ (λ (s d : ℕ). bit (lane_in s d)) sets (r v l);
  mark = λ v l. m v (omega arith) ∙ ap₂ mark_in sets (r v l);
  meant-square = λ v w l k. p v (omega arith) w (omega arith) ∙ ap₂ (λ (s d : ℕ). in_set (meant_in s d) w) sets (r v l);
  disturbance-square = λ v w l k. q v (omega arith) w (omega arith) ∙ ap₂ (λ (s d : ℕ). in_set (disturbances_in s d) w) sets (r v l);
}

-- from 2 to 8 sets of targets
pub sets-between : (n t : ℕ) → 1 ≤ n → n ≤ 3 → t ≡ 2 ^ n → (2 ≤ t) × (t ≤ 8)
sets-between n t some few e = rw e (pow_mono some, pow_mono few)

-- tests that agree have the same lines
target-same : (letter from : ℕ) (p q : ℕ → Bool) (n : ℕ) → ((w : ℕ) → w < n → p w ≡ q w) → target_lines letter from p n ≡ target_lines letter from q n
target-same letter from p q n h =
    joined_same (λ w. cond (p w) (chart_line letter from w) []) (λ w. cond (q w) (chart_line letter from w) []) n (λ w l. ap (λ (b : Bool). cond b (chart_line letter from w) []) (h w l))

module _ (s : Squares) (n : ℕ) (owners marks : List ℕ) (meant disturbances : List (List Bool)) (h : Hold s n owners marks meant disturbances) where
  owner-lines : joined (owner_line owners marks) n ≡ joined (λ v. position_text v (position_of s v)) n
  unfolding position_text owner_byte owner_letter
  owner-lines = joined_same (owner_line owners marks) (λ v. position_text v (position_of s v)) n (λ v l. ap₂ (λ (x y : ℕ). chart_line x v y) (letter (s.lane v) (h.lane v l)) (h.mark v l))
    where
      letter : {x : ℕ} (b : Bool) → x ≡ bit b → cond (eqb x 1) 76 79 ≡ owner_letter (owner_by b)
      letter true e = rw e
      letter false e = rw e

  row-lines : joined (move_lines n meant disturbances) n ≡ joined (row_lines s n) n
  row-lines =
      joined_same (move_lines n meant disturbances) (row_lines s n) n
      (λ v l. ap₂ (λ (x y : List ℕ). x ++ y) (target-same 77 v (cell meant v) (s.meant v) n (λ w k. h.meant-square v w l k)) (target-same 68 v (cell disturbances v) (s.disturbances v) n (λ w k. h.disturbance-square v w l k)))

  counts_same : (k : ℕ) → k ≤ n → moves_count n meant disturbances k ≡ length (joined (moves_from s n) k)
  unfolding moves_count joined moves_from
  counts_same zero l = refl
  counts_same (suc k) l =
      let before = counts_same k (omega arith) in
      let one = count_same (cell meant k) (s.meant k) n (λ w j. h.meant-square k w l j) in
      let two = count_same (cell disturbances k) (s.disturbances k) n (λ w j. h.disturbance-square k w l j) in
      let a = row-length 0 k (s.meant k) n in
      let b = row-length 1 k (s.disturbances k) n in
      let both = length-append (moves_to 0 k (s.meant k) n) (moves_to 1 k (s.disturbances k) n) in
      let all = length-append (joined (moves_from s n) k) (moves_from s n k) in
      omega arith

  pub count-is : moves_count n meant disturbances n ≡ length (moves_of s n)
  unfolding moves_of
  count-is = counts_same n (omega arith)

  -- the lines of the arrays are the text of the squares
  pub lines_are : (m : ℕ) → m ≡ moves_count n meant disturbances n
      → chart_line 72 n m ++ (joined (owner_line owners marks) n ++ joined (move_lines n meant disturbances) n) ≡ chart_text (square_arena s n)
  lines_are m e =
      ap₂ (λ (k : ℕ) (t : List ℕ). chart_line 72 n k ++ t) (e ∙ count-is) (ap₂ (λ (x y : List ℕ). x ++ y) owner-lines row-lines) ∙ sym (square-text s n)

-- there are at most 18 moves
pub few-moves : (n : ℕ) (meant disturbances : List (List Bool)) → n ≤ 3 → moves_count n meant disturbances n ≤ 18
few-moves n meant disturbances few = let twice : n + n ≤ 6 = omega arith in let most = mul-le-mul few twice in omega (arith, moves-bound n meant disturbances n)

-- The header's line, then the position lines behind it, then those of the moves
pub lines-set-out : (n m : ℕ) (owners marks : List ℕ) (meant disturbances : List (List Bool)) (out text part rest : List ℕ) → SquaresFit n m owners marks meant disturbances out
    → LineMade out text 72 (Number n ∷ Number m ∷ []) → Written (joined (owner_line owners marks) n) (n * 12) (take (length text - 12) (drop 12 text)) part
    → let next = behind 12 text part in
    let at = (1 + n) * 12 in
    Written (joined (move_lines n meant disturbances) n) (moves_count n meant disturbances n * 12) (take (length next - at) (drop at next)) rest
    → SquaresWritten n m owners marks meant disturbances out (behind at next rest)
lines-set-out n m owners marks meant disturbances out text part rest fit made positions moves =
    let head = chart_line 72 n m in
    let first : Written head 12 out text = record { bytes = made-line out 72 (Number n ∷ Number m ∷ []) (omega (arith, fit.room)) text made; size = line-length 72 (Number n ∷ Number m ∷ []) } in
    let second =
    written-part head (joined (owner_line owners marks) n) 12 (n * 12) ((1 + n) * 12) out text first positions.size (omega arith) (omega (arith, fit.room)) part positions.bytes in
    let third =
    written-part (head ++ joined (owner_line owners marks) n) (joined (move_lines n meant disturbances) n) ((1 + n) * 12) (moves_count n meant disturbances n * 12) ((1 + n + m) * 12) out
    (behind 12 text part) second moves.size (omega (arith, fit.counted)) fit.room rest moves.bytes in
    record { bytes = third.bytes ∙ ap (λ (t : List ℕ). t ++ drop ((1 + n + m) * 12) out) (append_assoc head (joined (owner_line owners marks) n) (joined (move_lines n meant disturbances) n)) }

-- The answers

-- a test that was answered, and what it says of an index
pub was-false : (r b : Bool) → r ≡ b → not r ≡ true → b ≡ false
was-false true b e f = absurd (false≢true f)
was-false false b e f = sym e

pub was-true : (r b : Bool) → r ≡ b → not r ≡ false → b ≡ true
was-true true b e f = sym e
was-true false b e f = absurd (true≢false f)

pub index-bounds : (n i : ℕ) → is_index n i ≡ true → (1 ≤ n) × (n ≤ 3) × (i < chart_count n)
unfolding is_index
index-bounds n i e =
    let w = both (leb 1 n) (leb n 3 && ltb i (chart_count n)) e in
    let u = both (leb n 3) (ltb i (chart_count n)) w.1 in
    (leb-true 1 n w.0, leb-true n 3 u.0, ltb-true i (chart_count n) u.1)
  where
    both : (b c : Bool) → (b && c) ≡ true → (b ≡ true) × (c ≡ true)
    both true c e = (refl, e)
    both false c e = absurd (false≢true e)

module _ (n i : ℕ) (out : List ℕ) where
  pub not-small : is_index n i ≡ false → GeneratedIs n i out out (Err NotSmall)
  unfolding generated
  not-small e = record {
    answer = rw e;
    taken = λ k z. let w : ◌≡◌ {A = ℕ} 0 1 = cc in absurd (omega arith);
    refused = λ x z. refl;
  }

  module _ (is : is_index n i ≡ true) (owners marks : List ℕ) (meant disturbances : List (List Bool)) (h : Hold (squares_of n i) n owners marks meant disturbances)
      (m : ℕ) (counted : m ≡ moves_count n meant disturbances n) where
    text-length : length (small_text n i) ≡ (1 + n + m) * 12
    unfolding small_text small_arena square_arena
    text-length =
        let b = index-bounds n i is in
        let c = chart-of-index n i b.0 b.1 b.2 in
        let moves = counted ∙ count-is (squares_of n i) n owners marks meant disturbances h in
        (set_out (small_arena n i) c.0.chartable).lines ∙ ap₂ (λ (x y : ℕ). (1 + x + y) * 12) c.1.0 (sym moves)

    pub too_short : length out < (1 + n + m) * 12 → GeneratedIs n i out out (Err Short)
    unfolding generated
    too_short l = record {
      answer = rw (is, lt-leb (length (small_text n i)) (length out) (omega (arith, text-length)));
      taken = λ k z. let w : ◌≡◌ {A = ℕ} 0 1 = cc in absurd (omega arith);
      refused = λ x z. refl;
    }

    pub set-out-whole : (out' : List ℕ) → (1 + n + m) * 12 ≤ length out → SquaresWritten n m owners marks meant disturbances out out' → GeneratedIs n i out out' (Ok ((1 + n + m) * 12))
    unfolding generated small_text small_arena
    set-out-whole out' l w = record {
      answer = rw (is, le-leb (length (small_text n i)) (length out) (omega (arith, text-length)), text-length);
      taken = λ k z. let f : (1 + n + m) * 12 ≡ k = cc in
          rw (← f) (w.bytes ∙ ap (λ (t : List ℕ). t ++ drop ((1 + n + m) * 12) out) text-is);
      refused = λ x z. let u : ◌≡◌ {A = ℕ} 0 1 = cc in absurd (omega arith);
    }
      where
        text-is : chart_line 72 n m ++ (joined (owner_line owners marks) n ++ joined (move_lines n meant disturbances) n) ≡ small_text n i
        text-is = lines_are (squares_of n i) n owners marks meant disturbances h m counted

-- What an answered length says

pub record Taken (n i k : ℕ) : Type 0 where
  pub bounds : (1 ≤ n) × (n ≤ 3) × (i < chart_count n)
  pub bytes-are : k ≡ length (small_text n i)

pub length_taken : (n i room : ℕ) {k : ℕ} → Ok k ≡ generated n i room → Taken n i k
unfolding generated
length_taken n i room {k} = go (is_index n i) (leb (length (small_text n i)) room) refl
  where
    go : (p q : Bool) → is_index n i ≡ p → Ok k ≡ cond p (cond q (Ok (length (small_text n i))) (Err Short)) (Err NotSmall) → Taken n i k
    go true true e z = record { bounds = index-bounds n i e; bytes-are = cc }
    go true false e z = let w : ◌≡◌ {A = ℕ} 0 1 = cc in absurd (omega arith)
    go false q e z = let w : ◌≡◌ {A = ℕ} 0 1 = cc in absurd (omega arith)

pub taken-length : (n i room : ℕ) → 1 ≤ n → n ≤ 3 → i < chart_count n → length (small_text n i) ≤ room → generated n i room ≡ Ok (length (small_text n i))
unfolding generated is_index
taken-length n i room some few below l = rw (le-leb 1 n some, le-leb n 3 few, lt-ltb i (chart_count n) below, le-leb (length (small_text n i)) room l)
