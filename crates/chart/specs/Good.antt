-- What an accepted text is, line by line: the facts that its examination found, from which its arena is well-formed and its
-- bytes are those of the arena's text.
use Rattle.std.specs.Prelude.{ℕ, ◌+◌, ◌-◌, ◌%◌, ◌≤◌, ◌<◌, ◌≡◌, ◌↔◌, Bool, List, length, ltb, eqb, ⊤, Result, Ok, Err}
use Rattle.std.proofs.Common.{arith, sym, ap, ◌∙◌, subst, inl, inr, ⊎_elim}
use Rattle.std.proofs.Math.Path.{refl}
use Rattle.std.proofs.Math.Bool.{true, false}
use Rattle.std.proofs.Math.Dec.{leb}
use borrow.Author.Tests.{ltb-false, leb-false, eqb-true, eqb-false, eq-eqb, ne_eqb, le-leb, lt-leb}
use Rattle.search.proofs.FirstLaws.{first_ended}
use Rattle.field.specs.declared.Field.{Field}
use Rattle.field.specs.declared.Field.TheVariants.{Number, Blank, Bad}
use Rattle.chart.specs.Text.{letter_at, first_at, second_at, end_at, mark_at, field_number, is_number, positions_of, moves_of, from_at, to_at}
use Rattle.chart.specs.Refusals.{HeaderLetter, PositionLetter, MoveLetter}
use Rattle.chart.specs.Examined.{header_letter, position_letter, move_letter, numbered, formed, header_formed, position_formed, move_formed, header_of, judged_position, position_finding, rises, ordered, judged_owner, judged_move, move_finding, line_finding, or_else, is_clean, first_fault, meant_in, missing_at, answer, after_header, lines_after, examined}
use Rattle.chart.specs.Header.{WithinLimits, header-accepts}
use Rattle.rows.specs.declared.Chart.{Chart}
use Rattle.refusal.specs.declared.Misdrawn.{Misdrawn}

-- a line whose letter is allowed, two numbers and a line feed
pub record Formed (Letter : Type 0) (first second : Field) (end : ℕ) : Type 0 where
  pub allowed : Letter
  pub first-number : first ≡ Number (field_number first)
  pub second-number : second ≡ Number (field_number second)
  pub ends : end ≡ 10

pub record GoodPosition (text : List ℕ) (i : ℕ) : Type 0 where
  pub form : Formed (PositionLetter (letter_at text i)) (first_at text i) (mark_at text i) (end_at text i)
  pub in_order : from_at text i ≡ i - 1
  pub small : field_number (mark_at text i) ≤ 1

pub record GoodMove (text : List ℕ) (n i : ℕ) : Type 0 where
  pub form : Formed (MoveLetter (letter_at text i)) (first_at text i) (second_at text i) (end_at text i)
  pub from-position : from_at text i < n
  pub to-position : to_at text i < n
  pub undisturbed : letter_at text i ≡ 68 → letter_at text (from_at text i + 1) ≡ 76 → ⊥
  pub unmeant : letter_at text i ≡ 77 → letter_at text (from_at text i + 1) ≡ 82 → ⊥
  pub above : n < i - 1 → rises text i ≡ true

-- an accepted text, with the counts of its header; an `R` (82) needs no meant move
pub record GoodChart (text : List ℕ) : Type 0 where
  pub form : Formed (HeaderLetter (letter_at text 0)) (first_at text 0) (second_at text 0) (end_at text 0)
  pub limits : WithinLimits (header_formed text) (length text) (positions_of text) (moves_of text)
  pub position : (i : ℕ) → 1 ≤ i → i ≤ positions_of text → GoodPosition text i
  pub move : (i : ℕ) → positions_of text < i → i ≤ positions_of text + moves_of text → GoodMove text (positions_of text) i
  pub meant : (v : ℕ) → v < positions_of text → (letter_at text (v + 1) ≡ 82 → ⊥) → meant_in text (positions_of text) (moves_of text) v ≡ true

untrue : {A : Type 0} → false ≡ true → A
untrue e = let z : ◌≡◌ {A = ℕ} 0 1 = cc in absurd (omega arith)

is-number : (f : Field) → is_number f ≡ true → f ≡ Number (field_number f)
unfolding is_number field_number
is-number (Number x) e = refl
is-number Blank e = untrue e
is-number Bad e = untrue e

numbered-true : (f g : Field) (e : ℕ) → numbered f g e ≡ true → (is_number f ≡ true) × (is_number g ≡ true) × (e ≡ 10)
unfolding numbered
numbered-true f g e h = go (is_number f) (is_number g) (eqb e 10) refl refl refl
  where
    go : (p q r : Bool) → is_number f ≡ p → is_number g ≡ q → eqb e 10 ≡ r → (is_number f ≡ true) × (is_number g ≡ true) × (e ≡ 10)
    go false q r u v w = untrue (simp u at h)
    go true false r u v w = untrue (simp (u, v) at h)
    go true true false u v w = untrue (simp (u, v, w) at h)
    go true true true u v w = (u, v, eqb-true e 10 w)

-- the tests of a letter tell
pub header-letter : (letter : ℕ) → header_letter letter ≡ true ↔ HeaderLetter letter
unfolding header_letter
header-letter letter = (eqb-true letter 72, eq-eqb letter 72)

pub position-letter : (letter : ℕ) → position_letter letter ≡ true ↔ PositionLetter letter
unfolding position_letter
position-letter letter = (go (eqb letter 79) (eqb letter 76) refl refl, ⊎_elim (λ e. rw e) (⊎_elim (λ e. rw e) (λ e. rw e)))
  where
    go : (p q : Bool) → eqb letter 79 ≡ p → eqb letter 76 ≡ q → position_letter letter ≡ true → PositionLetter letter
    go true q u v h = inl (eqb-true letter 79 u)
    go false true u v h = inr (inl (eqb-true letter 76 v))
    go false false u v h = inr (inr (eqb-true letter 82 (simp (u, v) at h)))

pub move-letter : (letter : ℕ) → move_letter letter ≡ true ↔ MoveLetter letter
unfolding move_letter
move-letter letter = (go (eqb letter 77) refl, ⊎_elim (λ e. rw e) (λ e. rw e))
  where
    go : (p : Bool) → eqb letter 77 ≡ p → move_letter letter ≡ true → MoveLetter letter
    go true u h = inl (eqb-true letter 77 u)
    go false u h = inr (eqb-true letter 68 (simp u at h))

formed-true : (Letter : Type 0) (allowed : Bool) (f g : Field) (e : ℕ) → allowed ≡ true ↔ Letter → formed allowed f g e ≡ true → Formed Letter f g e
unfolding formed
formed-true Letter false f g e tells h = untrue h
formed-true Letter true f g e tells h =
    let r = numbered-true f g e h in
    record { allowed = tells.0 refl; first-number = is-number f r.0; second-number = is-number g r.1; ends = r.2 }

pub faulty : {A : Type 0} (r : Misdrawn) → Err r ≡ Ok (tt {0}) → A
faulty r e = let z : ◌≡◌ {A = ℕ} 0 1 = cc in absurd (omega arith)

pub is-clean : (d : Result ⊤ Misdrawn) → is_clean d ≡ true → d ≡ Ok tt
is-clean (Ok _) e = refl
is-clean (Err r) e = untrue e

-- with no first fault every finding is clean
pub all-clean : (f : ℕ → Result ⊤ Misdrawn) (count i : ℕ) → first_fault f count i ≡ Ok tt → (j : ℕ) → i ≤ j → j < i + count → f j ≡ Ok tt
all-clean f count i e j l h =
    is-clean (f j) (first_ended (λ k. is_clean (f k)) f (Ok tt) (λ k no same. untrue (sym no ∙ ap is_clean same)) count i e j l h)

pub position-form : (text : List ℕ) (i : ℕ) → position_formed text i ≡ true → Formed (PositionLetter (letter_at text i)) (first_at text i) (mark_at text i) (end_at text i)
unfolding position_formed
position-form text i = formed-true _ _ (first_at text i) (mark_at text i) (end_at text i) (position-letter (letter_at text i))

pub move-form : (text : List ℕ) (i : ℕ) → move_formed text i ≡ true → Formed (MoveLetter (letter_at text i)) (first_at text i) (second_at text i) (end_at text i)
unfolding move_formed
move-form text i = formed-true _ _ (first_at text i) (second_at text i) (end_at text i) (move-letter (letter_at text i))

pub header-form : (text : List ℕ) → header_formed text ≡ true → Formed (HeaderLetter (letter_at text 0)) (first_at text 0) (second_at text 0) (end_at text 0)
unfolding header_formed
header-form text = formed-true _ _ (first_at text 0) (second_at text 0) (end_at text 0) (header-letter (letter_at text 0))

pub position-clean : (text : List ℕ) (i : ℕ) → position_finding text i ≡ Ok tt → GoodPosition text i
unfolding position_finding judged_position
position-clean text i h = go (position_formed text i) (eqb (from_at text i) (i - 1)) (ltb 1 (field_number (mark_at text i))) refl refl refl
  where
    go : (p q r : Bool) → position_formed text i ≡ p → eqb (from_at text i) (i - 1) ≡ q → ltb 1 (field_number (mark_at text i)) ≡ r → GoodPosition text i
    go false q r u v w = faulty _ (simp u at h)
    go true false r u v w = faulty _ (simp (u, v) at h)
    go true true true u v w = faulty _ (simp (u, v, w) at h)
    go true true false u v w = record {
      form = position-form text i u;
      in_order = eqb-true (from_at text i) (i - 1) v;
      small = ltb-false 1 (field_number (mark_at text i)) w;
    }

ordered-clean : (n i : ℕ) (rising : Bool) → ordered n i rising ≡ Ok tt → n < i - 1 → rising ≡ true
unfolding ordered
ordered-clean n i true h l = refl
ordered-clean n i false h l = faulty _ (simp (lt-leb (i - 1) n l) at h)

-- what a clean move line is, of the parts that were judged
record CleanOwner (n i letter owner : ℕ) (rising : Bool) : Type 0 where
  undisturbed : letter ≡ 68 → owner ≡ 76 → ⊥
  unmeant : letter ≡ 77 → owner ≡ 82 → ⊥
  above : n < i - 1 → rising ≡ true

owner-clean : (n i letter owner : ℕ) (rising : Bool) → judged_owner n i letter owner rising ≡ Ok tt → CleanOwner n i letter owner rising
unfolding judged_owner
owner-clean n i letter owner rising h = go (eqb letter 68) (eqb owner 76) (eqb letter 77) (eqb owner 82) refl refl refl refl
  where
    go : (p q r s : Bool) → eqb letter 68 ≡ p → eqb owner 76 ≡ q → eqb letter 77 ≡ r → eqb owner 82 ≡ s → CleanOwner n i letter owner rising
    go true true r s a b c d = faulty _ (simp (a, b) at h)
    go true false r s a b c d = record {
      undisturbed = λ _ e. eqb-false owner 76 b e;
      unmeant = λ e _. omega (arith, eqb-true letter 68 a);
      above = ordered-clean n i rising (simp (a, b) at h);
    }
    go false q true true a b c d = faulty _ (simp (a, c, d) at h)
    go false q true false a b c d = record {
      undisturbed = λ e _. eqb-false letter 68 a e;
      unmeant = λ _ e. eqb-false owner 82 d e;
      above = ordered-clean n i rising (simp (a, c, d) at h);
    }
    go false q false s a b c d = record {
      undisturbed = λ e _. eqb-false letter 68 a e;
      unmeant = λ e _. eqb-false letter 77 c e;
      above = ordered-clean n i rising (simp (a, c) at h);
    }

module _ (ok : Bool) (n i letter from to owner : ℕ) (rising : Bool) where
  record CleanMove : Type 0 where
    form : ok ≡ true
    from-position : from < n
    to-position : to < n
    owned : CleanOwner n i letter owner rising

  judged-clean : judged_move ok n i letter from to owner rising ≡ Ok tt → CleanMove
  unfolding judged_move
  judged-clean h = go ok (leb n from) (leb n to) refl refl refl
    where
      go : (p q r : Bool) → ok ≡ p → leb n from ≡ q → leb n to ≡ r → CleanMove
      go false q r a b c = faulty _ (simp a at h)
      go true true r a b c = faulty _ (simp (a, b) at h)
      go true false true a b c = faulty _ (simp (a, b, c) at h)
      go true false false a b c = record {
        form = a;
        from-position = leb-false n from b;
        to-position = leb-false n to c;
        owned = owner-clean n i letter owner rising (simp (a, b, c) at h);
      }

pub move-clean : (text : List ℕ) (n i : ℕ) → move_finding text n i ≡ Ok tt → GoodMove text n i
unfolding move_finding
move-clean text n i h =
    let w = judged-clean (move_formed text i) n i (letter_at text i) (from_at text i) (to_at text i) (letter_at text (from_at text i + 1)) (rises text i) h in
    record {
      form = move-form text i w.form;
      from-position = w.from-position;
      to-position = w.to-position;
      undisturbed = w.owned.undisturbed;
      unmeant = w.owned.unmeant;
      above = w.owned.above;
    }

-- a line after the header is a position or a move
pub line-position : (text : List ℕ) (n i : ℕ) → i ≤ n → line_finding text n i ≡ position_finding text i
unfolding line_finding
line-position text n i h = simp (le-leb i n h)

pub line-move : (text : List ℕ) (n i : ℕ) → n < i → line_finding text n i ≡ move_finding text n i
unfolding line_finding
line-move text n i h = simp (lt-leb i n h)

answer-accepts : (chart got : Chart) (d e : Result ⊤ Misdrawn) → answer chart (or_else d e) ≡ Ok got → (d ≡ Ok tt) × (e ≡ Ok tt) × (got ≡ chart)
unfolding answer or_else
answer-accepts chart got (Ok _) (Ok _) h = (refl, refl, cc)
answer-accepts chart got (Ok _) (Err r) h = let z : ◌≡◌ {A = ℕ} 0 1 = cc in absurd (omega arith)
answer-accepts chart got (Err r) e h = let z : ◌≡◌ {A = ℕ} 0 1 = cc in absurd (omega arith)

pub missing-clean : (text : List ℕ) (n m v : ℕ) → missing_at text n m v ≡ Ok tt → (letter_at text (v + 1) ≡ 82 → ⊥) → meant_in text n m v ≡ true
unfolding missing_at
missing-clean text n m v h other = go (meant_in text n m v) refl
  where
    go : (b : Bool) → meant_in text n m v ≡ b → meant_in text n m v ≡ true
    go true e = e
    go false e = faulty _ (simp (ne_eqb (letter_at text (v + 1)) 82 other, e) at h)

-- the lines after an accepted header
lines-accept : (text : List ℕ) (e : Result Chart Misdrawn) (chart : Chart) → header_of text ≡ e → lines_after text e ≡ Ok chart →
    GoodChart text × (chart ≡ record { positions = positions_of text; moves = moves_of text })
unfolding lines_after after_header
lines-accept text (Err r) chart p h = let z : ◌≡◌ {A = ℕ} 0 1 = cc in absurd (omega arith)
lines-accept text (Ok got) chart p h =
    let w = header-accepts text got p in
    let n = positions_of text in
    let m = moves_of text in
    let counts : Chart = record { positions = n; moves = m } in
    let r = answer-accepts counts chart (first_fault (line_finding text n) (n + m) 1) (first_fault (missing_at text n m) n 0)
    (subst (λ (k : Chart). lines_after text (Ok k) ≡ Ok chart) w.1 h) in
    let clean = all-clean (line_finding text n) (n + m) 1 r.0 in (
      record {
        form = header-form text w.0.form;
        limits = w.0;
        position = λ i l k. position-clean text i (sym (line-position text n i k) ∙ clean i l (omega arith));
        move = λ i l k. move-clean text n i (sym (line-move text n i l) ∙ clean i (omega arith) (omega arith));
        meant = λ v k. missing-clean text n m v (all-clean (missing_at text n m) n 0 r.1 v (omega arith) (omega arith));
      },
      r.2,
    )

pub accepted-good : (text : List ℕ) (chart : Chart) → examined text ≡ Ok chart → GoodChart text × (chart ≡ record { positions = positions_of text; moves = moves_of text })
unfolding examined
accepted-good text chart h = go (eqb (length text) 0) (ltb 55308 (length text)) (eqb (length text % 12) 0) refl refl refl
  where
    go : (p q r : Bool) → eqb (length text) 0 ≡ p → ltb 55308 (length text) ≡ q → eqb (length text % 12) 0 ≡ r →
        GoodChart text × (chart ≡ record { positions = positions_of text; moves = moves_of text })
    go true q r a b c = let w = simp a at h in let z : ◌≡◌ {A = ℕ} 0 1 = cc in absurd (omega arith)
    go false true r a b c = let w = simp (a, b) at h in let z : ◌≡◌ {A = ℕ} 0 1 = cc in absurd (omega arith)
    go false false false a b c = let w = simp (a, b, c) at h in let z : ◌≡◌ {A = ℕ} 0 1 = cc in absurd (omega arith)
    go false false true a b c = lines-accept text (header_of text) chart refl (simp (a, b, c) at h)
