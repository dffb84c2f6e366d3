-- The computed sheet is the arena's sheet, and there is no other: by the moves in their order. Its lines read as the good moves, each on
-- some line.
use Rattle.std.specs.Prelude.{ℕ, ◌*◌, ◌≤◌, ◌<◌, ◌≡◌, refl, Bool, true, false, cond, length, T}
use Rattle.std.proofs.Common.{arith, sym, ap, ◌∙◌, subst, inl, inr}
use mathlib.Core.List.{List, [], ◌∷◌, ◌++◌, append_assoc, Memᴰ}
use Rattle.std.proofs.Math.ListN.{get_or}
use Rattle.field.specs.declared.Field.TheVariants.{Number}
use Rattle.line.specs.LineLaws.{line-length}
use Rattle.line.specs.Joined.{joined}
use Rattle.line.specs.JoinedLaws.{joined-front, joined_length, joined-part}
use Rattle.game.specs.Arena.{Arena, Move, WellFormed, size, no_move, meant_move}
use Rattle.game.specs.Play.{controller-inside}
use Rattle.game.proofs.PlayLaws.{meant-inside}
use Rattle.game.proofs.Members.{member-at, at-member}
use Rattle.game.specs.Keep.{keep, kept, passed}
use Rattle.game.specs.Good.{Good, GoodMove}
use Rattle.game.specs.GoodMoves.{good_move, good_moves}
use Rattle.game.proofs.GoodLaws.{good-exactly}
use Rattle.chart.specs.Lines.{Reads, bytes_read}
use Rattle.listing.specs.Sheet.{good_line, Lists, SheetOf}
use Rattle.listing.specs.Listing.{good_count, good_sheet}

-- one sheet at most
pub lists-unique : (a : Arena) (ms : List Move) (s t : List ℕ) → Lists a ms s → Lists a ms t → s ≡ t
unfolding Lists
lists-unique a [] s t p q = p ∙ sym q
lists-unique a (m ∷ ms) s t (inl (g, (rest, e, p))) (inl (h, (more, f, q))) = e ∙ ap (λ (r : List ℕ). good_line m ++ r) (lists-unique a ms rest more p q) ∙ sym f
lists-unique a (m ∷ ms) s t (inl (g, p)) (inr (n, q)) = absurd (n g)
lists-unique a (m ∷ ms) s t (inr (n, p)) (inl (g, q)) = absurd (n g)
lists-unique a (m ∷ ms) s t (inr (n, p)) (inr (o, q)) = lists-unique a ms s t p q

-- the lines of a list of moves
lines_of : List Move → List ℕ
lines_of gs = joined (λ i. good_line (get_or gs i no_move)) (length gs)

lines-front : (m : Move) (gs : List Move) → lines_of (m ∷ gs) ≡ good_line m ++ lines_of gs
unfolding lines_of
lines-front m gs = joined-front (λ i. good_line (get_or (m ∷ gs) i no_move)) (length gs)

-- a test that is exactly the definition, over these moves, finds their lines
kept-lists : (a : Arena) (p : Move → Bool) (ms : List Move) → ((m : Move) → Memᴰ m ms → (T (p m) → GoodMove a m) × (GoodMove a m → T (p m))) → Lists a ms (lines_of (keep p ms))
unfolding Lists keep lines_of joined
kept-lists a p [] exact = refl
kept-lists a p (m ∷ ms) exact = go (p m) refl (kept-lists a p ms (λ x i. exact x (Memᴰ.tail i)))
  where
    go : (b : Bool) → p m ≡ b → Lists a ms (lines_of (keep p ms)) → Lists a (m ∷ ms) (lines_of (cond b (m ∷ keep p ms) (keep p ms)))
    go true e rest = inl ((exact m (Memᴰ.head refl)).0 (subst T (sym e) tt), (lines_of (keep p ms), lines-front m (keep p ms), rest))
    go false e rest = inr ((λ g. subst T e ((exact m (Memᴰ.head refl)).1 g)), rest)

pub sheet-is : (a : Arena) → WellFormed a → SheetOf a (good_sheet a)
unfolding good_sheet good_count good_moves lines_of
sheet-is a wf = kept-lists a (good_move a) a.moves (λ m i. good-exactly a wf m i)

pub sheet-length : (a : Arena) → length (good_sheet a) ≡ good_count a * 12
unfolding good_sheet
sheet-length a = joined_length (λ i. good_line (get_or (good_moves a) i no_move)) 12 (λ i. line-length 71 _) (good_count a)

-- What is read off the sheet

module _ (a : Arena) (wf : WellFormed a) where
  -- what stands on a line is a good move
  pub line-is-good : (i : ℕ) → i < good_count a → GoodMove a (get_or (good_moves a) i no_move)
  unfolding good_count good_moves
  line-is-good i l =
      let k = kept (good_move a) a.moves _ (at-member no_move (keep (good_move a) a.moves) i l) in
      (good-exactly a wf (get_or (keep (good_move a) a.moves) i no_move) k.0).0 k.1

  -- a good move stands on some line
  pub good-has-a-line : (v w : ℕ) → Good a v w → (i : ℕ) × (i < good_count a) × (get_or (good_moves a) i no_move ≡ meant_move v w)
  unfolding good_count good_moves
  good-has-a-line v w g =
      member-at no_move (meant_move v w) (keep (good_move a) a.moves)
      (passed (good_move a) a.moves (meant_move v w) g.target ((good-exactly a wf (meant_move v w) g.target).1 (refl, g)))

  -- the line reads as the move, in front of whatever lies past the sheet
  pub line_reads : size a ≤ 512 → (past : List ℕ) (i : ℕ) → i < good_count a
      → Reads (good_sheet a ++ past) i 71 (get_or (good_moves a) i no_move).from (Number (get_or (good_moves a) i no_move).to)
  unfolding good_sheet
  line_reads few past i l =
      let m = get_or (good_moves a) i no_move in
      let g = (line-is-good i l).1 in
      let part = joined-part (λ k. good_line (get_or (good_moves a) k no_move)) 12 (λ k. line-length 71 _) (good_count a) i l in
      bytes_read _ (joined (λ k. good_line (get_or (good_moves a) k no_move)) i) (part.0 ++ past) i 71 m.from m.to
      (omega (arith, few, controller-inside a m.from g.own)) (omega (arith, few, meant-inside a wf m.from m.to g.target)) part.2
      (ap (λ (t : List ℕ). t ++ past) part.1 ∙ simp append_assoc)
