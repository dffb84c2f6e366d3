-- Texts that differ only in blank marks are examined alike and mean the same arena: every column that the examination looks at is the same in
-- both. A text and its filling are two such texts, and the filling has no blank mark.
use Prim.Native.Nat.{ℕ, zero, suc, ◌+◌, ◌-◌, ◌*◌, ◌/◌, ◌%◌, ◌≤◌, ◌<◌}
use native.Mathlib.Omega.{arith}
use Rattle.std.proofs.Math.Decide.{dec_le}
use Rattle.std.proofs.Math.Path.{◌≡◌, refl, sym, ap, ap₂, subst}
use Rattle.std.proofs.Common.{◌∙◌, ext_get_or}
use Rattle.std.specs.Prelude.{◌⊎◌, Bool, ltb, eqb, ⊤, Result, Ok, Err}
use Rattle.std.proofs.Math.Logic.{inl, inr, ⊎_elim}
use Rattle.std.proofs.Math.Bool.{true, false, cond}
use mathlib.Core.List.{List, [], ◌∷◌}
use Rattle.std.proofs.Math.ListN.{length, get_or, get_or-eq_default}
use Rattle.std.proofs.Math.Dec.{leb}
use borrow.Author.Tests.{leb-true, leb-false, eqb-true, eq-eqb, le-leb}
use Rattle.search.proofs.FirstLaws.{first-same}
use Rattle.field.specs.Text.{field_of, five, field_at, place_byte, blank_text, number_text}
use Rattle.field.specs.Laws.{number-reads, blank-reads, blank-exact}
use Rattle.field.specs.declared.Field.{Field}
use Rattle.field.specs.declared.Field.TheVariants.{Number, Blank, Bad}
use Rattle.line.specs.Joined.{on_lines}
use Rattle.line.specs.JoinedLaws.{on-lines-length, on-lines-at}
use Rattle.rows.specs.declared.Chart.{Chart}
use Rattle.refusal.specs.declared.Misdrawn.TheVariants.{Length}
use Rattle.chart.specs.Text.{letter_at, first_at, second_at, end_at, mark_of, mark_at, field_number, positions_of, moves_of, from_at, to_at}
use Rattle.chart.specs.Meaning.{owner_of, cost_of, position_on, move_on, arena_of}
use Rattle.chart.specs.Refusals.{PositionLine}
use Rattle.chart.specs.Examined.{header_formed, position_formed, move_formed, header_of, position_finding, rises, move_finding, line_finding, or_else, is_clean, first_fault, meant_line, meant_in, missing_at, answer, after_header, lines_after, examined}
use Rattle.chart.specs.Header.{header-accepts}
use Rattle.refusal.specs.declared.Misdrawn.{Misdrawn}
use Rattle.chart.specs.Blanks.{WithoutBlanks, is_blank, ends_blank, filled_byte, filling, mark_place, InMark, SameMark, OnlyBlanksDiffer}

-- Marks

-- a mark that is not blank is what its field reads as
pub plain-mark : (text : List ℕ) (i : ℕ) → (second_at text i ≡ Blank → ⊥) → mark_at text i ≡ second_at text i
unfolding mark_at mark_of
plain-mark text i h = go (second_at text i) refl
  where
    go : (f : Field) → second_at text i ≡ f → mark_of (second_at text i) ≡ second_at text i
    go (Number x) e = ap mark_of e ∙ sym e
    go Blank e = absurd (h e)
    go Bad e = ap mark_of e ∙ sym e

-- as a number a blank is 0 already
number-of-mark : (f : Field) → field_number (mark_of f) ≡ field_number f
unfolding field_number mark_of
number-of-mark (Number x) = refl
number-of-mark Blank = refl
number-of-mark Bad = refl

-- a blank and `    0` are the same mark
blank-is-zero : mark_of (field_of blank_text) ≡ mark_of (field_of (number_text 0))
unfolding mark_of
blank-is-zero = ap mark_of blank-reads ∙ sym (ap mark_of (number-reads 0 (omega arith)))

same-mark : (one two : List ℕ) → SameMark one two → mark_of (field_of one) ≡ mark_of (field_of two)
unfolding SameMark
same-mark one two =
    ⊎_elim (λ e. ap (λ (l : List ℕ). mark_of (field_of l)) e)
    (⊎_elim
    (λ w. ap (λ (l : List ℕ). mark_of (field_of l)) w.0 ∙ blank-is-zero ∙ sym (ap (λ (l : List ℕ). mark_of (field_of l)) w.1))
    (λ w. ap (λ (l : List ℕ). mark_of (field_of l)) w.0 ∙ sym blank-is-zero ∙ sym (ap (λ (l : List ℕ). mark_of (field_of l)) w.1)))

-- Two texts that differ only in blank marks

module _ (text other : List ℕ) (d : OnlyBlanksDiffer text other) where
  -- five bytes that are in no mark
  same-five : (at : ℕ) → ((k : ℕ) → at ≤ k → k < at + 5 → InMark text k → ⊥) → five text at ≡ five other at
  unfolding five
  same-five at out =
      cc (
        d.rest at (out at (omega arith) (omega arith)),
        d.rest (at + 1) (out (at + 1) (omega arith) (omega arith)),
        d.rest (at + 2) (out (at + 2) (omega arith) (omega arith)),
        d.rest (at + 3) (out (at + 3) (omega arith) (omega arith)),
        d.rest (at + 4) (out (at + 4) (omega arith) (omega arith)),
      )

  -- the columns of line i
  letter-same : (i : ℕ) → letter_at text i ≡ letter_at other i
  unfolding letter_at
  letter-same i = d.rest (i * 12) (λ m. omega (arith, m.2, m.3))

  end_same : (i : ℕ) → end_at text i ≡ end_at other i
  unfolding end_at
  end_same i = d.rest (i * 12 + 11) (λ m. omega (arith, m.2, m.3))

  first-is-same : (i : ℕ) → first_at text i ≡ first_at other i
  unfolding first_at field_at
  first-is-same i = ap field_of (same-five (i * 12 + 1) (λ k a b m. omega (arith, m.2, m.3)))

  from-same : (i : ℕ) → from_at text i ≡ from_at other i
  unfolding from_at
  from-same i = ap field_number (first-is-same i)

  second-same : (i : ℕ) → (PositionLine text i → ⊥) → second_at text i ≡ second_at other i
  unfolding second_at field_at
  second-same i other-line =
      ap field_of (same-five (mark_place i) (λ k a b m. let e : m.0 ≡ i = omega (arith, m.2, m.3) in other-line (subst (λ (j : ℕ). PositionLine text j) e m.1)))

  mark-same : (i : ℕ) → mark_at text i ≡ mark_at other i
  unfolding mark_at second_at field_at
  mark-same i = go (dec_le 1 i) (dec_le i (positions_of text))
    where
      on_line : PositionLine text i → mark_of (second_at text i) ≡ mark_of (second_at other i)
      on_line p = same-mark (five text (mark_place i)) (five other (mark_place i)) (d.marks i p)

      go : Dec (1 ≤ i) → Dec (i ≤ positions_of text) → mark_of (second_at text i) ≡ mark_of (second_at other i)
      go (yes a) (yes b) = on_line (a, b)
      go (yes a) (no b) = ap mark_of (second-same i (λ p. b p.1))
      go (no a) b = ap mark_of (second-same i (λ p. a p.0))

  to_same : (i : ℕ) → to_at text i ≡ to_at other i
  unfolding to_at mark_at
  to_same i = sym (number-of-mark (second_at text i)) ∙ ap field_number (mark-same i) ∙ number-of-mark (second_at other i)

  positions-same : positions_of text ≡ positions_of other
  unfolding positions_of
  positions-same = ap field_number (first-is-same 0)

  header-second : second_at text 0 ≡ second_at other 0
  header-second = second-same 0 (λ p. omega (arith, p.0))

  moves-same : moves_of text ≡ moves_of other
  unfolding moves_of
  moves-same = ap field_number header-second

  -- so every line has the same finding
  header-same : header_of text ≡ header_of other
  unfolding header_of header_formed
  header-same = simp (letter-same 0, first-is-same 0, header-second, end_same 0, d.same_length, positions-same, moves-same)

  position-same : (i : ℕ) → position_finding text i ≡ position_finding other i
  unfolding position_finding position_formed
  position-same i = simp (letter-same i, first-is-same i, mark-same i, end_same i, from-same i)

  move_same : (n i : ℕ) → (PositionLine text i → ⊥) → move_finding text n i ≡ move_finding other n i
  unfolding move_finding move_formed rises
  move_same n i other-line =
      simp (
        letter-same i,
        first-is-same i,
        second-same i other-line,
        end_same i,
        from-same i,
        to_same i,
        letter-same (from_at other i + 1),
        letter-same (i - 1),
        from-same (i - 1),
        to_same (i - 1),
      )

  line_same : (i : ℕ) → line_finding text (positions_of text) i ≡ line_finding other (positions_of text) i
  unfolding line_finding
  line_same i = go (leb i (positions_of text)) refl
    where
      go : (b : Bool) → leb i (positions_of text) ≡ b →
          cond b (position_finding text i) (move_finding text (positions_of text) i) ≡ cond b (position_finding other i) (move_finding other (positions_of text) i)
      go true e = position-same i
      go false e = move_same (positions_of text) i (λ p. let past = leb-false i (positions_of text) e in omega (arith, p.1))

  meant-same : (n count v : ℕ) → meant_in text n count v ≡ meant_in other n count v
  unfolding meant_in meant_line
  meant-same n zero v = refl
  meant-same n (suc count) v = simp (meant-same n count v, letter-same (n + 1 + count), from-same (n + 1 + count))

  missing-same : (n m v : ℕ) → missing_at text n m v ≡ missing_at other n m v
  unfolding missing_at
  missing-same n m v = simp (meant-same n m v, letter-same (v + 1))

  findings-same : (f g : ℕ → Result ⊤ Misdrawn) (count i : ℕ) → ((j : ℕ) → f j ≡ g j) → first_fault f count i ≡ first_fault g count i
  findings-same f g count i h = first-same _ _ f g (Ok tt) count i (λ j l k. (ap is_clean (h j), h j))

  lines_same : lines_after text (header_of text) ≡ lines_after other (header_of other)
  unfolding lines_after after_header
  lines_same = go (header_of text) refl ∙ ap (lines_after other) header-same
    where
      go : (e : Result Chart Misdrawn) → header_of text ≡ e → lines_after text e ≡ lines_after other e
      go (Err r) h = refl
      go (Ok chart) h =
          let counts = (header-accepts text chart h).1 in
          let n : chart.positions ≡ positions_of text = ap (λ (c : Chart). c.positions) counts in
          let lines : (i : ℕ) → line_finding text chart.positions i ≡ line_finding other chart.positions i =
          λ i. subst (λ (k : ℕ). line_finding text k i ≡ line_finding other k i) (sym n) (line_same i) in
          ap₂ (λ (a b : Result ⊤ Misdrawn). answer chart (or_else a b)) (findings-same _ _ (chart.positions + chart.moves) 1 lines)
          (findings-same _ _ chart.positions 0 (missing-same chart.positions chart.moves))

  -- the two get the same examination: the same refusal with its line, or the same counts
  pub examined-same : examined text ≡ examined other
  unfolding examined
  examined-same =
      ap₂ (λ (size : ℕ) (e : Result Chart Misdrawn).
      cond (eqb size 0) (Err Length) (cond (ltb 55308 size) (Err Length) (cond (eqb (size % 12) 0) e (Err Length))))
      d.same_length lines_same

  position-on-same : (i : ℕ) → position_on text i ≡ position_on other i
  unfolding position_on
  position-on-same i = λ j. record { owner = ap owner_of (letter-same i) j; mark = ap field_number (mark-same i) j }

  move-on-same : (i : ℕ) → move_on text i ≡ move_on other i
  unfolding move_on
  move-on-same i = λ j. record { cost = ap cost_of (letter-same i) j; from = from-same i j; to = to_same i j }

  -- and mean the same arena
  pub arena-same : arena_of text ≡ arena_of other
  unfolding arena_of
  arena-same = λ j. record {
    positions = on_lines (λ i. position-on-same i j) (positions-same j) 1;
    moves = on_lines (λ i. move-on-same i j) (moves-same j) (positions-same j + 1);
  }

-- A text and its filling

zero-text : number_text 0 ≡ 32 ∷ 32 ∷ 32 ∷ 32 ∷ 48 ∷ []
unfolding number_text place_byte
zero-text = refl

is-blank : (f : Field) → is_blank f ≡ true → f ≡ Blank
unfolding is_blank
is-blank (Number x) e = let z : ◌≡◌ {A = ℕ} 0 1 = cc in absurd (omega arith)
is-blank Blank e = refl
is-blank Bad e = let z : ◌≡◌ {A = ℕ} 0 1 = cc in absurd (omega arith)

-- where a blank mark's last byte is
record EndOfBlank (text : List ℕ) (k : ℕ) : Type 0 where
  place : k % 12 ≡ 10
  line : PositionLine text (k / 12)
  blank : second_at text (k / 12) ≡ Blank

module _ (text : List ℕ) where
  ends-blank : (k : ℕ) → ends_blank text k ≡ true → EndOfBlank text k
  unfolding ends_blank
  ends-blank k h = go (eqb (k % 12) 10) (leb 1 (k / 12)) (leb (k / 12) (positions_of text)) refl refl refl
    where
      untrue : {A : Type 0} → false ≡ true → A
      untrue e = let z : ◌≡◌ {A = ℕ} 0 1 = cc in absurd (omega arith)

      go : (p q r : Bool) → eqb (k % 12) 10 ≡ p → leb 1 (k / 12) ≡ q → leb (k / 12) (positions_of text) ≡ r → EndOfBlank text k
      go false q r a b c = untrue (simp a at h)
      go true false r a b c = untrue (simp (a, b) at h)
      go true true false a b c = untrue (simp (a, b, c) at h)
      go true true true a b c = record {
        place = eqb-true (k % 12) 10 a;
        line = (leb-true 1 (k / 12) b, leb-true (k / 12) (positions_of text) c);
        blank = is-blank (second_at text (k / 12)) (simp (a, b, c) at h);
      }

  blank-ends : (i : ℕ) → PositionLine text i → second_at text i ≡ Blank → ends_blank text (i * 12 + 10) ≡ true
  unfolding ends_blank is_blank
  blank-ends i p e =
      let line : (i * 12 + 10) / 12 ≡ i = omega arith in
      rw line (simp (eq-eqb ((i * 12 + 10) % 12) 10 (omega arith), le-leb 1 i p.0, le-leb i (positions_of text) p.1, e))

  -- the bytes of a blank mark
  blank-bytes : (i : ℕ) → second_at text i ≡ Blank → five text (mark_place i) ≡ blank_text
  unfolding second_at field_at five
  blank-bytes i e = (blank-exact (five text (mark_place i)) refl).0 e

  blank-last : (i : ℕ) → second_at text i ≡ Blank → get_or text (i * 12 + 10) 0 ≡ 32
  unfolding five blank_text
  blank-last i e =
      let place : i * 12 + 6 + 4 ≡ i * 12 + 10 = omega arith in
      ap (λ (k : ℕ). get_or text k 0) (sym place) ∙ ap (λ (l : List ℕ). get_or l 4 0) (blank-bytes i e)

  -- each byte of the filling, past its end too
  filling-byte : (k : ℕ) → get_or (filling text) k 0 ≡ filled_byte text k
  unfolding filling filled_byte
  filling-byte k = go (dec_le (suc k) (length text))
    where
      past : length text ≤ k → (b : Bool) → ends_blank text k ≡ b → 0 ≡ filled_byte text k
      past l true e =
          let w = ends-blank k e in
          let here : k / 12 * 12 + 10 ≡ k = omega (arith, w.place) in
          let z : ◌≡◌ {A = ℕ} 32 0 = sym (blank-last (k / 12) w.blank) ∙ ap (λ (j : ℕ). get_or text j 0) here ∙ get_or-eq_default text 0 l in
          absurd (omega arith)
      past l false e = simp e (sym (get_or-eq_default text 0 l))

      go : Dec (suc k ≤ length text) → get_or (on_lines (filled_byte text) (length text) 0) k 0 ≡ filled_byte text k
      go (yes h) = on-lines-at (filled_byte text) (length text) 0 k 0 h ∙ ap (filled_byte text) (omega arith)
      go (no h) =
          let size = on-lines-length (filled_byte text) (length text) 0 in
          get_or-eq_default (on_lines (filled_byte text) (length text) 0) 0 (omega arith) ∙ past (omega arith) (ends_blank text k) refl

  plain_byte : (k : ℕ) → (EndOfBlank text k → ⊥) → get_or text k 0 ≡ get_or (filling text) k 0
  unfolding filled_byte
  plain_byte k out = sym (filling-byte k ∙ go (ends_blank text k) refl)
    where
      go : (b : Bool) → ends_blank text k ≡ b → cond b 48 (get_or text k 0) ≡ get_or text k 0
      go true e = absurd (out (ends-blank k e))
      go false e = refl

  filled-last : (i : ℕ) → PositionLine text i → second_at text i ≡ Blank → get_or (filling text) (i * 12 + 10) 0 ≡ 48
  unfolding filled_byte
  filled-last i p e = filling-byte (i * 12 + 10) ∙ simp (blank-ends i p e)

  -- a mark and what it is filled with
  FilledMark : ℕ → Type 0
  FilledMark i =
      ((second_at text i ≡ Blank → ⊥) × (five text (mark_place i) ≡ five (filling text) (mark_place i)))
      ⊎ ((five text (mark_place i) ≡ blank_text) × (five (filling text) (mark_place i) ≡ number_text 0))

  not_last : (i j : ℕ) → j < 4 → EndOfBlank text (i * 12 + 6 + j) → ⊥
  not_last i j l w = omega (arith, w.place)

  filled-mark : (i : ℕ) → PositionLine text i → FilledMark i
  unfolding FilledMark five blank_text
  filled-mark i p = go (second_at text i) refl
    where
      same : (second_at text i ≡ Blank → ⊥) → FilledMark i
      same plain = inl (
        plain,
        cc (
          plain_byte (i * 12 + 6) (λ w. omega (arith, w.place)),
          plain_byte (i * 12 + 6 + 1) (not_last i 1 (omega arith)),
          plain_byte (i * 12 + 6 + 2) (not_last i 2 (omega arith)),
          plain_byte (i * 12 + 6 + 3) (not_last i 3 (omega arith)),
          plain_byte (i * 12 + 6 + 4) (λ w. let e : (i * 12 + 6 + 4) / 12 ≡ i = omega arith in plain (ap (second_at text) (sym e) ∙ w.blank)),
        ),
      )

      go : (f : Field) → second_at text i ≡ f → FilledMark i
      go (Number x) e = same (λ b. let z : ◌≡◌ {A = ℕ} 0 1 = cc in omega arith)
      go Blank e =
          let bytes = blank-bytes i e in
          let last : i * 12 + 6 + 4 ≡ i * 12 + 10 = omega arith in
          inr (
            bytes,
            ◌∙◌ {b = 32 ∷ 32 ∷ 32 ∷ 32 ∷ 48 ∷ []}
                (cc (
                  sym (plain_byte (i * 12 + 6) (λ w. omega (arith, w.place))) ∙ ap (λ (l : List ℕ). get_or l 0 0) bytes,
                  sym (plain_byte (i * 12 + 6 + 1) (not_last i 1 (omega arith))) ∙ ap (λ (l : List ℕ). get_or l 1 0) bytes,
                  sym (plain_byte (i * 12 + 6 + 2) (not_last i 2 (omega arith))) ∙ ap (λ (l : List ℕ). get_or l 2 0) bytes,
                  sym (plain_byte (i * 12 + 6 + 3) (not_last i 3 (omega arith))) ∙ ap (λ (l : List ℕ). get_or l 3 0) bytes,
                  ap (λ (k : ℕ). get_or (filling text) k 0) last ∙ filled-last i p e,
                ))
                (sym zero-text),
          )
      go Bad e = same (λ b. let z : ◌≡◌ {A = ℕ} 0 1 = cc in omega arith)

  pub filling-differs : OnlyBlanksDiffer text (filling text)
  unfolding SameMark filling FilledMark
  filling-differs = record {
    same_length = sym (on-lines-length (filled_byte text) (length text) 0);
    marks = λ i p. ⊎_elim (λ w. inl w.1) (λ w. inr (inl w)) (filled-mark i p);
    rest = λ k out. plain_byte k (λ w. out (k / 12, w.line, omega (arith, w.place), omega (arith, w.place)));
  }

  pub filling-without-blanks : WithoutBlanks (filling text)
  unfolding second_at field_at FilledMark
  filling-without-blanks i p e =
      let line : PositionLine text i = (p.0, omega (arith, p.1, positions-same text (filling text) filling-differs)) in
      ⊎_elim
      (λ w. w.0 (ap field_of w.1 ∙ e))
      (λ w. let zero-mark : Number 0 ≡ Blank = sym (number-reads 0 (omega arith)) ∙ sym (ap field_of w.1) ∙ e in let z : ◌≡◌ {A = ℕ} 0 1 = cc in omega arith)
      (filled-mark i line)

  -- a text without blank marks is its own filling
  pub plain-filling : WithoutBlanks text → filling text ≡ text
  plain-filling none =
      ext_get_or 0 (filling text) text (sym filling-differs.same_length) (λ k h. sym (plain_byte k (λ w. none (k / 12) w.line w.blank)))
