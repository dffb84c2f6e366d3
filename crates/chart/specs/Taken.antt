-- A text whose lines are good is accepted: the other direction of specs/Good.antt. Each part of a good line is a test that passes, so that
-- no line has a fault.
use Rattle.std.specs.Prelude.{ℕ, ◌+◌, ◌-◌, ◌*◌, ◌%◌, ◌≤◌, ◌<◌, ◌≡◌, ◌↔◌, Bool, cond, List, length, leb, Ok, Err}
use Rattle.std.proofs.Common.{arith, ◌∙◌}
use Rattle.std.proofs.Math.Path.{refl, ap}
use Rattle.std.proofs.Math.Bool.{true, false}
use Rattle.std.proofs.Math.Dec.{eqb}
use borrow.Author.Tests.{eq-eqb, ne_eqb, le-ltb, lt-leb, leb-true, leb-false, eqb-true, eqb-false}
use Rattle.search.proofs.FirstLaws.{first-none}
use Rattle.field.specs.declared.Field.{Field}
use Rattle.field.specs.declared.Field.TheVariants.{Number}
use Rattle.chart.specs.Text.{letter_at, first_at, second_at, end_at, mark_at, field_number, is_number, positions_of, moves_of, from_at, to_at}
use Rattle.chart.specs.Examined.{numbered, formed, position_formed, move_formed, header_formed, limits_of, header_of, judged_position, position_finding, rises, ordered, judged_owner, judged_move, move_finding, line_finding, or_else, is_clean, missing_at, answer, after_header, lines_after, examined}
use Rattle.chart.specs.Header.{WithinLimits}
use Rattle.chart.specs.Good.{Formed, GoodPosition, GoodMove, GoodChart, position-letter, move-letter, line-position, line-move}
use Rattle.refusal.specs.declared.Misdrawn.TheVariants.{Disturbed, Resting}

number_is : (f : Field) (x : ℕ) → f ≡ Number x → is_number f ≡ true
unfolding is_number
number_is f x e = ap is_number e

form-passes : (Letter : Type 0) (allowed : Bool) (f g : Field) (e : ℕ) → allowed ≡ true ↔ Letter → Formed Letter f g e → formed allowed f g e ≡ true
unfolding formed numbered
form-passes Letter allowed f g e tells w =
    simp (tells.1 w.allowed, number_is f _ w.first-number, number_is g _ w.second-number, eq-eqb e 10 w.ends)

position-passes : (text : List ℕ) (i : ℕ) → GoodPosition text i → position_finding text i ≡ Ok tt
unfolding position_finding position_formed judged_position
position-passes text i w =
    simp (
      form-passes _ _ (first_at text i) (mark_at text i) (end_at text i) (position-letter (letter_at text i)) w.form,
      eq-eqb (from_at text i) (i - 1) w.in_order,
      le-ltb 1 (field_number (mark_at text i)) w.small,
    )

order-passes : (n i : ℕ) (rising : Bool) → (n < i - 1 → rising ≡ true) → ordered n i rising ≡ Ok tt
unfolding ordered
order-passes n i rising h = go (leb (i - 1) n) refl
  where
    go : (p : Bool) → leb (i - 1) n ≡ p → ordered n i rising ≡ Ok tt
    go true e = simp e
    go false e = simp (e, h (leb-false (i - 1) n e))

owner-passes : (text : List ℕ) (n i : ℕ) → GoodMove text n i → judged_owner n i (letter_at text i) (letter_at text (from_at text i + 1)) (rises text i) ≡ Ok tt
unfolding judged_owner
owner-passes text n i w =
    simp (order-passes n i (rises text i) w.above)
    (go (eqb letter 68) (eqb owner 76) (eqb letter 77) (eqb owner 82) refl refl refl refl)
  where
    letter : ℕ
    letter = letter_at text i

    owner : ℕ
    owner = letter_at text (from_at text i + 1)

    go : (p q r s : Bool) → eqb letter 68 ≡ p → eqb owner 76 ≡ q → eqb letter 77 ≡ r → eqb owner 82 ≡ s →
        cond p (cond q (Err (Disturbed i)) (Ok (tt {0}))) (cond r (cond s (Err (Resting i)) (Ok tt)) (Ok tt)) ≡ Ok tt
    go true true r s a b c d = absurd (w.undisturbed (eqb-true letter 68 a) (eqb-true owner 76 b))
    go true false r s a b c d = refl
    go false q true true a b c d = absurd (w.unmeant (eqb-true letter 77 c) (eqb-true owner 82 d))
    go false q true false a b c d = refl
    go false q false s a b c d = refl

move-passes : (text : List ℕ) (n i : ℕ) → GoodMove text n i → move_finding text n i ≡ Ok tt
unfolding move_finding move_formed judged_move
move-passes text n i w =
    simp (
      form-passes _ _ (first_at text i) (second_at text i) (end_at text i) (move-letter (letter_at text i)) w.form,
      lt-leb n (from_at text i) w.from-position,
      lt-leb n (to_at text i) w.to-position,
      owner-passes text n i w,
    )

header-passes : (text : List ℕ) → WithinLimits (header_formed text) (length text) (positions_of text) (moves_of text) → header_of text ≡ Ok (record { positions = positions_of text; moves = moves_of text })
unfolding header_of limits_of
header-passes text l =
    simp (
      l.form,
      le-ltb (positions_of text) 1 l.some-position,
      le-ltb 512 (positions_of text) l.positions,
      le-ltb (moves_of text) 1 l.some-move,
      le-ltb 4096 (moves_of text) l.moves,
      eq-eqb (length text) ((1 + positions_of text + moves_of text) * 12) l.lines,
    )

module _ (text : List ℕ) (good : GoodChart text) where
  line-passes : (i : ℕ) → 1 ≤ i → i < 1 + (positions_of text + moves_of text) → is_clean (line_finding text (positions_of text) i) ≡ true
  line-passes i l h = go (leb i (positions_of text)) refl
    where
      go : (p : Bool) → leb i (positions_of text) ≡ p → is_clean (line_finding text (positions_of text) i) ≡ true
      go true e =
          let k : i ≤ positions_of text = leb-true i (positions_of text) e in
          ap is_clean (line-position text (positions_of text) i k ∙ position-passes text i (good.position i l k))
      go false e =
          let k : positions_of text < i = leb-false i (positions_of text) e in
          ap is_clean (line-move text (positions_of text) i k ∙ move-passes text (positions_of text) i (good.move i k (omega arith)))

  meant-passes : (v : ℕ) → v < positions_of text → missing_at text (positions_of text) (moves_of text) v ≡ Ok tt
  unfolding missing_at
  meant-passes v h = go (eqb (letter_at text (v + 1)) 82) refl
    where
      go : (r : Bool) → eqb (letter_at text (v + 1)) 82 ≡ r → missing_at text (positions_of text) (moves_of text) v ≡ Ok tt
      go true e = simp e
      go false e = simp (e, good.meant v h (eqb-false (letter_at text (v + 1)) 82 e))

  -- a text whose lines are good is accepted, with its header's counts
  pub good-accepted : examined text ≡ Ok (record { positions = positions_of text; moves = moves_of text })
  unfolding examined lines_after after_header answer or_else
  good-accepted =
      let l = good.limits in
      let size = l.lines in
      simp (
        ne_eqb (length text) 0 (λ e. omega arith),
        le-ltb 55308 (length text) (omega arith),
        eq-eqb (length text % 12) 0 (omega arith),
        header-passes text l,
        first-none (λ i. is_clean (line_finding text (positions_of text) i)) (line_finding text (positions_of text)) (Ok tt) (positions_of text + moves_of text) 1 line-passes,
        first-none (λ v. is_clean (missing_at text (positions_of text) (moves_of text) v)) (missing_at text (positions_of text) (moves_of text)) (Ok tt) (positions_of text) 0 (λ v a b. ap is_clean (meant-passes v (omega arith))),
      )
