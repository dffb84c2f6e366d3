-- The computed form is exact: `Good` is answered of just the plates of the form, and line l exactly when 11 has it. Each test
-- decides its condition; from an answer its condition follows, and the conditions exclude each other, so the converse holds too.
use Rattle.std.specs.Prelude.{ℕ, zero, suc, ◌+◌, ◌*◌, ◌≤◌, ◌<◌, ◌≡◌, refl, ◌↔◌, Bool, true, false, ◌&&◌, List, length, get_or, eqb, ltb, ⊤, Result, Ok, Err}
use Rattle.std.proofs.Common.{arith, add-one, sym, ap, ◌∙◌, subst, eqb-true, ltb-true, eq-eqb, lt-ltb}
use Rattle.std.proofs.Math.Decide.{dec_lt}
use Rattle.std.proofs.lemmas.Bool.{eqb-false}
use Rattle.search.specs.First.{FirstAt}
use Rattle.search.proofs.FirstLaws.{first_ended, first-answered}
use Rattle.field.specs.Text.{five, blank_text}
use Rattle.line.specs.Text.{entry_at, line_letter, line_end, line_field, framed}
use Rattle.line.specs.Entries.{blank-is-bad}
use Rattle.plate.specs.Form.{column_at, NumberBelow, DashOrBelow, EverOrBelow, HeaderForm, PositionForm, LineForm, OfForm, BadAt, bad_length, bad_line}
use Rattle.plate.specs.Formed.{number_is, number_below, dash_or_below, ever_or_below, header_good, position_good_at, position_good, bad_position, form_of}
use Rattle.line.specs.declared.Entry.{Entry}
use Rattle.line.specs.declared.Entry.TheVariants.{Number, Dash, Ever, Bad}

-- a test decides a statement
abbrev Decides : Bool → Type 0 → Type 0
Decides b P = (b ≡ true → P) × (P → b ≡ true)

false-true : false ≡ true → ⊥
false-true e = let z : ◌≡◌ {A = ℕ} 0 1 = cc in omega arith

decides-false : {P : Type 0} → (P → ⊥) → Decides false P
decides-false h = (λ e. absurd (false-true e), λ p. absurd (h p))

decides_and : {P Q : Type 0} (a b : Bool) → Decides a P → Decides b Q → Decides (a && b) (P × Q)
decides_and true b h k = (λ e. (h.0 refl, k.0 e), λ w. k.1 w.1)
decides_and false b h k = (λ e. absurd (false-true e), λ w. h.1 w.0)

decides_eq : (x y : ℕ) → Decides (eqb x y) (x ≡ y)
decides_eq x y = (eqb-true x y, eq-eqb x y)

decides-less : (x y : ℕ) → Decides (ltb x y) (x < y)
decides-less x y = (ltb-true x y, lt-ltb x y)

other : (e : Entry) (x y : ℕ) → e ≡ Number x → e ≡ Number y → x ≡ y
other e x y p q = cc

decides-number : (n : ℕ) (e : Entry) → Decides (number_is n e) (e ≡ Number n)
unfolding number_is
decides-number n (Number x) = (λ e. ap Number (eqb-true x n e), λ e. eq-eqb x n (other (Number x) x n refl e))
decides-number n Dash = decides-false (λ e. let z : ◌≡◌ {A = ℕ} 0 1 = cc in omega arith)
decides-number n Ever = decides-false (λ e. let z : ◌≡◌ {A = ℕ} 0 1 = cc in omega arith)
decides-number n Bad = decides-false (λ e. let z : ◌≡◌ {A = ℕ} 0 1 = cc in omega arith)

decides_below : (b : ℕ) (e : Entry) → Decides (number_below b e) (NumberBelow b e)
unfolding number_below NumberBelow
decides_below b (Number x) = decides-less x b
decides_below b Dash = decides-false (λ h. h)
decides_below b Ever = decides-false (λ h. h)
decides_below b Bad = decides-false (λ h. h)

decides-dash : (b : ℕ) (e : Entry) → Decides (dash_or_below b e) (DashOrBelow b e)
unfolding dash_or_below DashOrBelow
decides-dash b (Number x) = decides-less x b
decides-dash b Dash = (λ e. tt, λ h. refl)
decides-dash b Ever = decides-false (λ h. h)
decides-dash b Bad = decides-false (λ h. h)

decides-ever : (b : ℕ) (e : Entry) → Decides (ever_or_below b e) (EverOrBelow b e)
unfolding ever_or_below EverOrBelow
decides-ever b (Number x) = decides-less x b
decides-ever b Dash = decides-false (λ h. h)
decides-ever b Ever = (λ e. tt, λ h. refl)
decides-ever b Bad = decides-false (λ h. h)

header-decides : (n : ℕ) (text : List ℕ) → Decides (header_good n text) (HeaderForm n text)
unfolding header_good framed column_at
header-decides n text = (
  λ e. let w = tests.0 e in record { letter = w.0.0; count = w.1.0; rounds = w.1.1.0; highest = w.1.1.1.0; evers = w.1.1.1.1; end = w.0.1 },
  λ f. tests.1 ((f.letter, f.end), (f.count, (f.rounds, (f.highest, f.evers)))),
)
  where
    tests : Decides (header_good n text)
        (((line_letter 4 text 0 ≡ 80) × (line_end 4 text 0 ≡ 10)) × ((column_at text 0 0 ≡ Number n) × (NumberBelow 513 (column_at text 0 1) × (DashOrBelow 512 (column_at text 0 2) × NumberBelow 513 (column_at text 0 3)))))
    tests =
        decides_and _ _ (decides_and _ _ (decides_eq (get_or text 0 0) 80) (decides_eq (get_or text 21 0) 10))
        (decides_and _ _ (decides-number n (entry_at text 1))
        (decides_and _ _ (decides_below 513 (entry_at text 6))
        (decides_and _ _ (decides-dash 512 (entry_at text 11)) (decides_below 513 (entry_at text 16)))))

position-decides : (n : ℕ) (text : List ℕ) (v i : ℕ) → Decides (position_good_at n text v (i * 22)) (PositionForm n text v i)
unfolding position_good_at framed column_at
position-decides n text v i = (
  λ e. let w = tests.0 e in record { letter = w.0.0; position = w.1.0; value = w.1.1.0; choice = w.1.1.1.0; step = w.1.1.1.1; end = w.0.1 },
  λ f. tests.1 ((f.letter, f.end), (f.position, (f.value, (f.choice, f.step)))),
)
  where
    tests : Decides (position_good_at n text v (i * 22))
        (((line_letter 4 text i ≡ 86) × (line_end 4 text i ≡ 10)) × ((column_at text i 0 ≡ Number v) × (EverOrBelow 512 (column_at text i 1) × (DashOrBelow n (column_at text i 2) × DashOrBelow 512 (column_at text i 3)))))
    tests =
        decides_and _ _ (decides_and _ _ (decides_eq (get_or text (i * 22) 0) 86) (decides_eq (get_or text (i * 22 + 21) 0) 10))
        (decides_and _ _ (decides-number v (entry_at text (i * 22 + 1)))
        (decides_and _ _ (decides-ever 512 (entry_at text (i * 22 + 6)))
        (decides_and _ _ (decides-dash n (entry_at text (i * 22 + 11))) (decides-dash 512 (entry_at text (i * 22 + 16))))))

line-decides : (n : ℕ) (text : List ℕ) (v : ℕ) → Decides (position_good n text v) (LineForm n text (v + 1))
unfolding position_good LineForm
line-decides n text v = rw (add-one v) (position-decides n text v (suc v))

-- From the answer to its condition

bad-is-not-good : (l : ℕ) → Err l ≡ Ok (tt {0}) → ⊥
bad-is-not-good l q = let z : ◌≡◌ {A = ℕ} 0 1 = cc in omega arith

good-form : (n : ℕ) (text : List ℕ) → form_of n text ≡ Ok tt → OfForm n text
unfolding form_of LineForm
good-form n text e = go (eqb (length text) ((n + 1) * 22)) (header_good n text) refl refl
  where
    go : (a b : Bool) → eqb (length text) ((n + 1) * 22) ≡ a → header_good n text ≡ b → OfForm n text
    go false b p q = absurd (bad-is-not-good 0 (simp p at e))
    go true false p q = absurd (bad-is-not-good 0 (simp (p, q) at e))
    go true true p q = record {
      size = eqb-true (length text) ((n + 1) * 22) p;
      line = line;
    }
      where
        line : (i : ℕ) → i ≤ n → LineForm n text i
        line zero h = (header-decides n text).0 q
        line (suc v) h =
            let all = first_ended (position_good n text) bad_position (Ok tt) (λ u f z. bad-is-not-good (u + 1) z) n 0 (simp (p, q) at e) in
            rw (add-one v) at ((line-decides n text v).0 (all v (omega arith) (omega arith)))

bad-form : (n l : ℕ) (text : List ℕ) → form_of n text ≡ Err l → BadAt n text l
unfolding form_of LineForm
bad-form n l text e = go (eqb (length text) ((n + 1) * 22)) (header_good n text) refl refl
  where
    first : (q : ◌≡◌ {A = Result ⊤ ℕ} (Err 0) (Err l)) → 0 ≡ l
    first q = cc

    not-true : (b : Bool) → b ≡ false → b ≡ true → ⊥
    not-true b f g = false-true (sym f ∙ g)

    go : (a b : Bool) → eqb (length text) ((n + 1) * 22) ≡ a → header_good n text ≡ b → BadAt n text l
    go false b p q = subst (BadAt n text) (first (simp p at e)) (bad_length (eqb-false (length text) ((n + 1) * 22) p))
    go true false p q =
        subst (BadAt n text) (first (simp (p, q) at e))
        (bad_line (eqb-true (length text) ((n + 1) * 22) p) (omega arith) (λ f. not-true (header_good n text) q ((header-decides n text).1 f)) (λ i h. absurd (omega arith)))
    go true true p q =
        subst (BadAt n text) (same w.2)
        (bad_line (eqb-true (length text) ((n + 1) * 22) p) (omega (arith, w.1.high)) (λ f. not-true (position_good n text w.0) w.1.fails ((line-decides n text w.0).1 f)) below)
      where
        same : {k : ℕ} → ◌≡◌ {A = Result ⊤ ℕ} (Err k) (Err l) → k ≡ l
        same z = cc

        w : (v : ℕ) × FirstAt (position_good n text) n 0 v × (bad_position v ≡ Err l)
        w = first-answered (position_good n text) bad_position (Ok tt) (Err l) (λ z. bad-is-not-good l (sym z)) n 0 (simp (p, q) at e)

        below : (i : ℕ) → i < w.0 + 1 → LineForm n text i
        below zero h = (header-decides n text).0 q
        below (suc v) h = rw (add-one v) at ((line-decides n text v).0 (w.1.passed v (omega arith) (omega arith)))

-- The conditions exclude each other

good-not-bad : (n l : ℕ) (text : List ℕ) → OfForm n text → BadAt n text l → ⊥
good-not-bad n l text w (bad_length h) = h w.size
good-not-bad n l text w (bad_line s h f b) = f (w.line l h)

bad-once : (n k l : ℕ) (text : List ℕ) → BadAt n text k → BadAt n text l → k ≡ l
bad-once n k l text (bad_length h) (bad_length g) = refl
bad-once n k l text (bad_length h) (bad_line s i f b) = absurd (h s)
bad-once n k l text (bad_line s i f b) (bad_length h) = absurd (h s)
bad-once n k l text (bad_line s i f b) (bad_line t j g c) = go (dec_lt k l) (dec_lt l k)
  where
    go : Dec (k < l) → Dec (l < k) → k ≡ l
    go (yes h) d = absurd (f (c k h))
    go (no h) (yes h') = absurd (g (b l h'))
    go (no h) (no h') = omega arith

-- 11 is answered at line l exactly when l is the lowest bad line, the length first, and never of a plate of the form
pub form-exact : (n : ℕ) (text : List ℕ) → form_of n text ≡ (Ok tt) ↔ OfForm n text
form-exact n text = (good-form n text, λ w. go w (form_of n text) refl)
  where
    go : OfForm n text → (f : Result ⊤ ℕ) → form_of n text ≡ f → f ≡ Ok tt
    go w (Ok _) e = refl
    go w (Err l) e = absurd (good-not-bad n l text w (bad-form n l text e))

pub bad-line-exact : (n l : ℕ) (text : List ℕ) → form_of n text ≡ Err l ↔ BadAt n text l
bad-line-exact n l text = (bad-form n l text, λ w. go w (form_of n text) refl)
  where
    go : BadAt n text l → (f : Result ⊤ ℕ) → form_of n text ≡ f → f ≡ Err l
    go w (Ok _) e = absurd (good-not-bad n l text (good-form n text e) w)
    go w (Err k) e = ap Err (bad-once n k l text (bad-form n k text e) w)

-- Blanks

-- a line of the form has no blank
blank-malformed : (n i j : ℕ) (text : List ℕ) → j < 4 → column_at text i j ≡ Bad → LineForm n text i → ⊥
unfolding LineForm NumberBelow DashOrBelow EverOrBelow
blank-malformed n zero zero text h e w = let z : Number n ≡ Bad = sym w.count ∙ e in let y : ◌≡◌ {A = ℕ} 0 1 = cc in omega arith
blank-malformed n zero (suc zero) text h e w = subst (NumberBelow 513) e w.rounds
blank-malformed n zero (suc (suc zero)) text h e w = subst (DashOrBelow 512) e w.highest
blank-malformed n zero (suc (suc (suc zero))) text h e w = subst (NumberBelow 513) e w.evers
blank-malformed n zero (suc (suc (suc (suc j)))) text h e w = omega arith
blank-malformed n (suc v) zero text h e w = let z : Number v ≡ Bad = sym w.position ∙ e in let y : ◌≡◌ {A = ℕ} 0 1 = cc in omega arith
blank-malformed n (suc v) (suc zero) text h e w = subst (EverOrBelow 512) e w.value
blank-malformed n (suc v) (suc (suc zero)) text h e w = subst (DashOrBelow n) e w.choice
blank-malformed n (suc v) (suc (suc (suc zero))) text h e w = subst (DashOrBelow 512) e w.step
blank-malformed n (suc v) (suc (suc (suc (suc j)))) text h e w = omega arith

-- so a plate with a blank in any field of any line is refused with 11, on that line or one before (document 02, order 1: a blank is a
-- chart's mark and nothing else)
pub blank-refused : (n i j : ℕ) (text : List ℕ) → i ≤ n → j < 4 → five text (line_field 4 i j) ≡ blank_text → (l : ℕ) × (l ≤ i) × BadAt n text l
unfolding column_at
blank-refused n i j text inside h e = go (form_of n text) refl
  where
    bad : LineForm n text i → ⊥
    bad = blank-malformed n i j text h (blank-is-bad text (line_field 4 i j) e)

    first : (l : ℕ) → BadAt n text l → l ≤ i
    first l (bad_length h) = omega arith
    first l (bad_line s k f before) = low (dec_lt i l)
      where
        low : Dec (i < l) → l ≤ i
        low (yes less) = absurd (bad (before i less))
        low (no less) = omega arith

    go : (f : Result ⊤ ℕ) → form_of n text ≡ f → (l : ℕ) × (l ≤ i) × BadAt n text l
    go (Ok _) q = absurd (bad ((good-form n text q).line i inside))
    go (Err l) q = let w = bad-form n l text q in (l, first l w, w)
