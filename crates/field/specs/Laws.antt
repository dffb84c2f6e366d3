-- Reading and writing are each other's inverse: five bytes read as x exactly when they are the bytes of x, x at most
-- 99,999; as blank exactly when they are five spaces; and are bad otherwise. From bytes to text: what `scan` took is spaces and then a
-- lone zero or digits, which say what x is; the place of each
-- digit then follows by arithmetic. From text to bytes: by how many digits x has.
use Rattle.std.specs.Prelude.{ℕ, zero, suc, ◌+◌, ◌-◌, ◌*◌, ◌/◌, ◌%◌, ◌≤◌, ◌<◌, ◌≡◌, refl, ◌⊎◌, ◌↔◌, Bool, true, false, cond, List, [], ◌∷◌, ◌++◌, length, take, drop, ltb, eqb}
use Rattle.std.proofs.Common.{arith, add-zero, sym, ap, ◌∙◌, subst, inl, inr, ⊎_elim, append_assoc, get_or-drop, drop_at, drop-cons, length-take-le, ltb-true, ltb-false, eqb-true, lt-ltb, le-ltb, ne_eqb}
use Rattle.std.proofs.Math.Numerals.{towards_suc}
use Rattle.std.proofs.lemmas.List.Edits.{sets-eq}
use Rattle.std.proofs.lemmas.Bool.{eqb-false}
use Rattle.field.specs.Text.{Scan, Spaces, Zero, Digits, Wrong, digit_after, stepped, scan, ended, field_of, five, field_at, decimal, decimal_at, place_byte, blank_text, number_text, with_number}
use Rattle.field.specs.declared.Field.{Field}
use Rattle.field.specs.declared.Field.TheVariants.{Number, Blank, Bad}

-- a digit d after digits that spell x
digit-after : (x d : ℕ) → x ≤ 9999 → d < 10 → digit_after x (48 + d) ≡ Digits (x * 10 + d)
unfolding digit_after
digit-after x d h k =
    simp (le-ltb 9999 x h, le-ltb (48 + d) 48 (omega arith), le-ltb 57 (48 + d) (omega arith)) (ap (λ (e : ℕ). Digits (x * 10 + e)) (omega arith))

-- the first digit after spaces
digit-first : (d : ℕ) → 0 < d → d < 10 → stepped Spaces (48 + d) ≡ Digits d
unfolding stepped
digit-first d h k =
    simp (ne_eqb (48 + d) 32 (omega arith), ne_eqb (48 + d) 48 (omega arith)) (digit-after 0 d (omega arith) k ∙ ap Digits (omega arith))

pub place-space : (x unit : ℕ) → x < unit → place_byte x unit ≡ 32
unfolding place_byte
place-space x unit h = simp (lt-ltb x unit h)

place-digit : (x unit d : ℕ) → unit ≤ x → x / unit % 10 ≡ d → place_byte x unit ≡ 48 + d
unfolding place_byte
place-digit x unit d h e = simp (le-ltb x unit h, e)

-- digits from bs after digits that spell y spell x in all
Tail : ℕ → List ℕ → ℕ → Type 0
Tail y [] x = x ≡ y
Tail y (b ∷ bs) x = (d : ℕ) × (b ≡ 48 + d) × (d < 10) × Tail (y * 10 + d) bs x

-- spaces, then a lone zero or digits
Front : List ℕ → ℕ → Type 0
unfolding Tail
Front [] x = ⊥
Front (b ∷ bs) x = ((b ≡ 32) × Front bs x) ⊎ (((b ≡ 48) × (bs ≡ []) × (x ≡ 0)) ⊎ ((d : ℕ) × (b ≡ 48 + d) × (0 < d) × (d < 10) × Tail d bs x))

digit-back : (y b : ℕ) → (digit_after y b ≡ Wrong) ⊎ ((d : ℕ) × (b ≡ 48 + d) × (d < 10) × (digit_after y b ≡ Digits (y * 10 + d)))
unfolding digit_after
digit-back y b = go (ltb 9999 y) (ltb b 48) (ltb 57 b) refl refl refl
  where
    go : (p q r : Bool) → ltb 9999 y ≡ p → ltb b 48 ≡ q → ltb 57 b ≡ r → (digit_after y b ≡ Wrong) ⊎ ((d : ℕ) × (b ≡ 48 + d) × (d < 10) × (digit_after y b ≡ Digits (y * 10 + d)))
    go true q r e f g = inl (simp e)
    go false true r e f g = inl (simp (e, f))
    go false false true e f g = inl (simp (e, f, g))
    go false false false e f g =
        let low : 48 ≤ b = ltb-false b 48 f in
        let high : b ≤ 57 = ltb-false 57 b g in
        inr (b - 48, omega arith, omega arith, simp (e, f, g))

pub wrong_stays : (bs : List ℕ) → scan Wrong bs ≡ Wrong
unfolding scan stepped
wrong_stays [] = refl
wrong_stays (b ∷ bs) = wrong_stays bs

not-number : (x : ℕ) (f : Field) → f ≡ Bad → f ≡ Number x → ⊥
not-number x f p q = let z : ◌≡◌ {A = ℕ} 0 1 = cc in omega arith

wrong-reads : (bs : List ℕ) (x : ℕ) → ended (scan Wrong bs) ≡ Number x → ⊥
unfolding ended
wrong-reads bs x e = not-number x (ended (scan Wrong bs)) (ap ended (wrong_stays bs)) e

tail : (y : ℕ) (bs : List ℕ) (x : ℕ) → ended (scan (Digits y) bs) ≡ Number x → Tail y bs x
unfolding Tail scan stepped ended
tail y [] x e = cc
tail y (b ∷ bs) x e =
    ⊎_elim
    (λ w. absurd (wrong-reads bs x (subst (λ (s : Scan). ended (scan s bs) ≡ Number x) w e)))
    (λ w. (w.0, w.1, w.2, tail (y * 10 + w.0) bs x (subst (λ (s : Scan). ended (scan s bs) ≡ Number x) w.3 e)))
    (digit-back y b)

zero-alone : (bs : List ℕ) (x : ℕ) → ended (scan Zero bs) ≡ Number x → (bs ≡ []) × (x ≡ 0)
unfolding scan stepped ended
zero-alone [] x e = (refl, cc)
zero-alone (b ∷ bs) x e = absurd (wrong-reads bs x e)

front : (bs : List ℕ) (x : ℕ) → ended (scan Spaces bs) ≡ Number x → Front bs x
unfolding Front scan stepped ended
front [] x e = let z : ◌≡◌ {A = ℕ} 0 1 = cc in omega arith
front (b ∷ bs) x e = go (eqb b 32) (eqb b 48) refl refl (front bs x)
  where
    go : (p q : Bool) → eqb b 32 ≡ p → eqb b 48 ≡ q → (ended (scan Spaces bs) ≡ Number x → Front bs x) → Front (b ∷ bs) x
    go true q f g rest = inl (eqb-true b 32 f, rest (simp f at e))
    go false true f g rest =
        let z = zero-alone bs x (simp (f, g) at e) in
        inr (inl (eqb-true b 48 g, z.0, z.1))
    go false false f g rest =
        ⊎_elim
        (λ w. absurd (wrong-reads bs x (subst (λ (s : Scan). ended (scan s bs) ≡ Number x) w (simp (f, g) at e))))
        (λ w.
        let other : b ≡ 48 → ⊥ = eqb-false b 48 g in
        let digits : Tail (0 * 10 + w.0) bs x = tail (0 * 10 + w.0) bs x (subst (λ (s : Scan). ended (scan s bs) ≡ Number x) w.3 (simp (f, g) at e)) in
        inr (inr (w.0, w.1, omega arith, w.2, subst (λ (y : ℕ). Tail y bs x) (omega arith) digits)))
        (digit-back 0 b)

not-nil : (b : ℕ) (bs : List ℕ) → b ∷ bs ≡ [] → ⊥
not-nil b bs e = let z : ◌≡◌ {A = ℕ} 0 1 = cc in omega arith

-- the last byte is the last digit, and with one byte there is nothing else
one_byte : (e x : ℕ) → Front (e ∷ []) x → (x < 10) × (e ≡ 48 + x % 10)
unfolding Front Tail
one_byte e x =
    ⊎_elim (λ w. absurd w.1)
    (⊎_elim (λ w. let z = w.2 in let q = w.0 in (omega arith, omega arith))
    (λ w. let q = w.1 in let z = w.4 in let l = w.3 in (omega arith, omega arith)))

two_bytes : (d e x : ℕ) → Front (d ∷ e ∷ []) x → (x < 100) × (d ≡ place_byte x 10) × (e ≡ 48 + x % 10)
unfolding Front Tail
two_bytes d e x =
    ⊎_elim (λ w. let r = one_byte e x w.1 in (omega arith, w.0 ∙ sym (place-space x 10 r.0), r.1))
    (⊎_elim (λ w. absurd (not-nil e ([]) w.1))
    (λ w. let q0 = w.1 in let p0 = w.2 in let l0 = w.3 in let l1 = w.4.2 in let z = w.4.3 in
    (omega arith, w.1 ∙ sym (place-digit x 10 w.0 (omega arith) (omega arith)), w.4.1 ∙ omega arith)))

three-bytes : (c d e x : ℕ) → Front (c ∷ d ∷ e ∷ []) x → (x < 1000) × (c ≡ place_byte x 100) × (d ≡ place_byte x 10) × (e ≡ 48 + x % 10)
unfolding Front Tail
three-bytes c d e x =
    ⊎_elim (λ w. let r = two_bytes d e x w.1 in (omega arith, w.0 ∙ sym (place-space x 100 r.0), r.1, r.2))
    (⊎_elim (λ w. absurd (not-nil d (e ∷ []) w.1))
    (λ w. let q0 = w.1 in let p0 = w.2 in let l0 = w.3 in let l1 = w.4.2 in let l2 = w.4.3.2 in let z = w.4.3.3 in
    (omega arith, w.1 ∙ sym (place-digit x 100 w.0 (omega arith) (omega arith)), w.4.1 ∙ sym (place-digit x 10 w.4.0 (omega arith) (omega arith)), w.4.3.1 ∙ omega arith)))

four_bytes : (b c d e x : ℕ) → Front (b ∷ c ∷ d ∷ e ∷ []) x → (x < 10000) × (b ≡ place_byte x 1000) × (c ≡ place_byte x 100) × (d ≡ place_byte x 10) × (e ≡ 48 + x % 10)
unfolding Front Tail
four_bytes b c d e x =
    ⊎_elim (λ w. let r = three-bytes c d e x w.1 in (omega arith, w.0 ∙ sym (place-space x 1000 r.0), r.1, r.2, r.3))
    (⊎_elim (λ w. absurd (not-nil c (d ∷ e ∷ []) w.1))
    (λ w. let q0 = w.1 in let p0 = w.2 in let l0 = w.3 in let l1 = w.4.2 in let l2 = w.4.3.2 in let l3 = w.4.3.3.2 in let z = w.4.3.3.3 in
    (omega arith, w.1 ∙ sym (place-digit x 1000 w.0 (omega arith) (omega arith)), w.4.1 ∙ sym (place-digit x 100 w.4.0 (omega arith) (omega arith)), w.4.3.1 ∙ sym (place-digit x 10 w.4.3.0 (omega arith) (omega arith)), w.4.3.3.1 ∙ omega arith)))

five-bytes : (a b c d e x : ℕ) → Front (a ∷ b ∷ c ∷ d ∷ e ∷ []) x → (x < 100000) × (a ≡ place_byte x 10000) × (b ≡ place_byte x 1000) × (c ≡ place_byte x 100) × (d ≡ place_byte x 10) × (e ≡ 48 + x % 10)
unfolding Front Tail
five-bytes a b c d e x =
    ⊎_elim (λ w. let r = four_bytes b c d e x w.1 in (omega arith, w.0 ∙ sym (place-space x 10000 r.0), r.1, r.2, r.3, r.4))
    (⊎_elim (λ w. absurd (not-nil b (c ∷ d ∷ e ∷ []) w.1))
    (λ w. let q0 = w.1 in let p0 = w.2 in let l0 = w.3 in let l1 = w.4.2 in let l2 = w.4.3.2 in let l3 = w.4.3.3.2 in let l4 = w.4.3.3.3.2 in let z = w.4.3.3.3.3 in
    (omega arith, w.1 ∙ sym (place-digit x 10000 w.0 (omega arith) (omega arith)), w.4.1 ∙ sym (place-digit x 1000 w.4.0 (omega arith) (omega arith)), w.4.3.1 ∙ sym (place-digit x 100 w.4.3.0 (omega arith) (omega arith)), w.4.3.3.1 ∙ sym (place-digit x 10 w.4.3.3.0 (omega arith) (omega arith)), w.4.3.3.3.1 ∙ omega arith)))

-- the bytes that read as a number are the bytes of that number
reads-number : (bytes : List ℕ) (x : ℕ) → length bytes ≡ 5 → field_of bytes ≡ Number x → (bytes ≡ number_text x) × (x ≤ 99999)
unfolding field_of number_text
reads-number [] x l e = absurd (omega arith)
reads-number (a ∷ []) x l e = absurd (omega arith)
reads-number (a ∷ b ∷ []) x l e = absurd (omega arith)
reads-number (a ∷ b ∷ c ∷ []) x l e = absurd (omega arith)
reads-number (a ∷ b ∷ c ∷ d ∷ []) x l e = absurd (omega arith)
reads-number (a ∷ b ∷ c ∷ d ∷ e ∷ []) x l h =
    let r = five-bytes a b c d e x (front (a ∷ b ∷ c ∷ d ∷ e ∷ []) x h) in
    let p = r.1 in
    let q = r.2 in
    let s = r.3 in
    let t = r.4 in
    let u = r.5 in
    (cc, omega arith)
reads-number (a ∷ b ∷ c ∷ d ∷ e ∷ f ∷ bs) x l h = absurd (omega arith)

-- the state of the scan before the places below `unit`
before : ℕ → ℕ → Scan
before x unit = cond (ltb x unit) Spaces (Digits (x / unit))

-- one place, `unit`, after that of ten times as much; the facts on x hold at each unit by arithmetic
place-step : (x unit tens : ℕ) → unit ≤ tens → x / tens * 10 + x / unit % 10 ≡ x / unit → x / tens ≤ 9999 →
    (unit ≤ x → 0 < x / unit) → (x < tens → x / unit < 10) → stepped (before x tens) (place_byte x unit) ≡ before x unit
unfolding before stepped
place-step x unit tens le sum small positive one = go (ltb x unit) (ltb x tens) refl refl
  where
    go : (p q : Bool) → ltb x unit ≡ p → ltb x tens ≡ q → stepped (before x tens) (place_byte x unit) ≡ before x unit
    go true true e f = simp (e, f, place-space x unit (ltb-true x unit e))
    go true false e f = absurd (omega (arith, ltb-true x unit e, ltb-false x tens f))
    go false true e f =
        let h : unit ≤ x = ltb-false x unit e in
        let p : 0 < x / unit = positive h in
        let k : x / unit < 10 = one (ltb-true x tens f) in
        simp (e, f, place-digit x unit (x / unit % 10) h refl)
        (digit-first (x / unit % 10) (omega arith) (omega arith) ∙ ap Digits (omega arith))
    go false false e f =
        simp (e, f, place-digit x unit (x / unit % 10) (ltb-false x unit e) refl)
        (digit-after (x / tens) (x / unit % 10) small (omega arith) ∙ ap Digits sum)

last_step : (x : ℕ) → x ≤ 99999 → ended (stepped (before x 10) (48 + x % 10)) ≡ Number x
unfolding before stepped ended
last_step zero h = refl
last_step (suc n) h = go (ltb (suc n) 10) refl
  where
    go : (p : Bool) → ltb (suc n) 10 ≡ p → ended (stepped (before (suc n) 10) (48 + suc n % 10)) ≡ Number (suc n)
    go true e =
        let k : suc n < 10 = ltb-true (suc n) 10 e in
        simp e (ap ended (digit-first (suc n % 10) (omega arith) (omega arith) ∙ ap Digits (omega arith)))
    go false e = simp e (ap ended (digit-after (suc n / 10) (suc n % 10) (omega arith) (omega arith) ∙ ap Digits (omega arith)))

all-spaces : (x : ℕ) → x ≤ 99999 → before x 100000 ≡ Spaces
unfolding before
all-spaces x h = simp (lt-ltb x 100000 (omega arith))

-- the bytes of a number read as that number
pub number-reads : (x : ℕ) → x ≤ 99999 → field_of (number_text x) ≡ Number x
unfolding field_of number_text scan
number-reads x h =
    let first : stepped Spaces (place_byte x 10000) ≡ before x 10000 =
    subst (λ (s : Scan). stepped s (place_byte x 10000) ≡ before x 10000) (all-spaces x h)
    (place-step x 10000 100000 (omega arith) (omega arith) (omega arith) (λ k. omega arith) (λ k. omega arith)) in
    rw (
      first,
      place-step x 1000 10000 (omega arith) (omega arith) (omega arith) (λ k. omega arith) (λ k. omega arith),
      place-step x 100 1000 (omega arith) (omega arith) (omega arith) (λ k. omega arith) (λ k. omega arith),
      place-step x 10 100 (omega arith) (omega arith) (omega arith) (λ k. omega arith) (λ k. omega arith),
    )
    (last_step x h)

-- five bytes read as x exactly when they are the bytes of x
pub field-exact : (bytes : List ℕ) (x : ℕ) → length bytes ≡ 5 → field_of bytes ≡ Number x ↔ (bytes ≡ number_text x) × (x ≤ 99999)
field-exact bytes x l = (reads-number bytes x l, λ w. ap field_of w.0 ∙ number-reads x w.1)

-- Blanks

wrong-is-bad : (bs : List ℕ) → ended (scan Wrong bs) ≡ Bad
unfolding ended
wrong-is-bad bs = ap ended (wrong_stays bs)

not-blank : (f : Field) (x : ℕ) → (f ≡ Number x) ⊎ (f ≡ Bad) → f ≡ Blank → ⊥
not-blank f x w e = ⊎_elim (λ p. let z : ◌≡◌ {A = ℕ} 0 1 = cc in omega arith) (λ p. let z : ◌≡◌ {A = ℕ} 0 1 = cc in omega arith) w

-- what has begun with a digit is no blank
zero-not-blank : (bs : List ℕ) → ended (scan Zero bs) ≡ Blank → ⊥
unfolding scan stepped ended
zero-not-blank [] e = not-blank (Number 0) 0 (inl refl) e
zero-not-blank (b ∷ bs) e = not-blank (ended (scan Wrong bs)) 0 (inr (wrong-is-bad bs)) e

digits-not-blank : (y : ℕ) (bs : List ℕ) → ended (scan (Digits y) bs) ≡ Blank → ⊥
unfolding scan stepped ended
digits-not-blank y [] e = not-blank (Number y) y (inl refl) e
digits-not-blank y (b ∷ bs) e =
    ⊎_elim
    (λ w. not-blank (ended (scan Wrong bs)) 0 (inr (wrong-is-bad bs)) (subst (λ (s : Scan). ended (scan s bs) ≡ Blank) w e))
    (λ w. digits-not-blank (y * 10 + w.0) bs (subst (λ (s : Scan). ended (scan s bs) ≡ Blank) w.3 e))
    (digit-back y b)

-- so a blank goes on with spaces
blank-front : (b : ℕ) (bs : List ℕ) → field_of (b ∷ bs) ≡ Blank → (b ≡ 32) × (field_of bs ≡ Blank)
unfolding field_of scan stepped
blank-front b bs e = go (eqb b 32) (eqb b 48) refl refl
  where
    go : (p q : Bool) → eqb b 32 ≡ p → eqb b 48 ≡ q → (b ≡ 32) × (ended (scan Spaces bs) ≡ Blank)
    go true q f g = (eqb-true b 32 f, simp f at e)
    go false true f g = absurd (zero-not-blank bs (simp (f, g) at e))
    go false false f g =
        absurd
        (⊎_elim
        (λ w. not-blank (ended (scan Wrong bs)) 0 (inr (wrong-is-bad bs)) (subst (λ (s : Scan). ended (scan s bs) ≡ Blank) w (simp (f, g) at e)))
        (λ w. digits-not-blank (0 * 10 + w.0) bs (subst (λ (s : Scan). ended (scan s bs) ≡ Blank) w.3 (simp (f, g) at e)))
        (digit-back 0 b))

reads-blank : (bytes : List ℕ) → length bytes ≡ 5 → field_of bytes ≡ Blank → bytes ≡ blank_text
unfolding blank_text
reads-blank [] l h = absurd (omega arith)
reads-blank (a ∷ []) l h = absurd (omega arith)
reads-blank (a ∷ b ∷ []) l h = absurd (omega arith)
reads-blank (a ∷ b ∷ c ∷ []) l h = absurd (omega arith)
reads-blank (a ∷ b ∷ c ∷ d ∷ []) l h = absurd (omega arith)
reads-blank (a ∷ b ∷ c ∷ d ∷ e ∷ []) l h =
    let one = blank-front a (b ∷ c ∷ d ∷ e ∷ []) h in
    let two = blank-front b (c ∷ d ∷ e ∷ []) one.1 in
    let three = blank-front c (d ∷ e ∷ []) two.1 in
    let four = blank-front d (e ∷ []) three.1 in
    let last = blank-front e [] four.1 in
    cc (one.0, two.0, three.0, four.0, last.0)
reads-blank (a ∷ b ∷ c ∷ d ∷ e ∷ f ∷ bs) l h = absurd (omega arith)

pub blank-reads : field_of blank_text ≡ Blank
unfolding field_of blank_text scan stepped ended
blank-reads = refl

-- five bytes read as blank exactly when they are five spaces
pub blank-exact : (bytes : List ℕ) → length bytes ≡ 5 → field_of bytes ≡ Blank ↔ bytes ≡ blank_text
blank-exact bytes l = (reads-blank bytes l, λ e. ap field_of e ∙ blank-reads)

-- and are bad exactly when they are neither these nor the bytes of a number
pub bad-exact : (bytes : List ℕ) → length bytes ≡ 5 → field_of bytes ≡ Bad ↔ (bytes ≡ blank_text → ⊥) × ((x : ℕ) → x ≤ 99999 → bytes ≡ number_text x → ⊥)
bad-exact bytes l = (
  (λ bad. (
    (λ e. not-blank (field_of bytes) 0 (inr bad) ((blank-exact bytes l).1 e)),
    λ x h e. not-number x (field_of bytes) bad ((field-exact bytes x l).1 (e, h)),
  )),
  λ w. go w (field_of bytes) refl,
)
  where
    go : (bytes ≡ blank_text → ⊥) × ((x : ℕ) → x ≤ 99999 → bytes ≡ number_text x → ⊥) → (f : Field) → field_of bytes ≡ f → field_of bytes ≡ Bad
    go w (Number x) e = let r = (field-exact bytes x l).0 e in absurd (w.1 x r.1 r.0)
    go w Blank e = absurd (w.0 ((blank-exact bytes l).0 e))
    go w Bad e = e

-- The number that a field spells, without a test
low_digit : (d : ℕ) → d < 10 → (48 + d) % 16 ≡ d
low_digit d h = omega arith

low-place : (x unit : ℕ) → (x < unit → x / unit % 10 ≡ 0) → x / unit % 10 < 10 → place_byte x unit % 16 ≡ x / unit % 10
low-place x unit none small = go (ltb x unit) refl
  where
    go : (p : Bool) → ltb x unit ≡ p → place_byte x unit % 16 ≡ x / unit % 10
    go true e = let h : x < unit = ltb-true x unit e in ap (λ (b : ℕ). b % 16) (place-space x unit h) ∙ sym (none h)
    go false e = ap (λ (b : ℕ). b % 16) (place-digit x unit (x / unit % 10) (ltb-false x unit e) refl) ∙ low_digit (x / unit % 10) small

number-spells : (x : ℕ) → x ≤ 99999 → decimal 0 (number_text x) ≡ x
unfolding decimal number_text
number-spells x h =
    let first : 0 * 10 + x / 10000 % 10 ≡ x / 10000 = omega arith in
    let second : x / 10000 * 10 + x / 1000 % 10 ≡ x / 1000 = omega arith in
    let third : x / 1000 * 10 + x / 100 % 10 ≡ x / 100 = omega arith in
    let fourth : x / 100 * 10 + x / 10 % 10 ≡ x / 10 = omega arith in
    let fifth : x / 10 * 10 + x % 10 ≡ x = omega arith in
    rw (
      low-place x 10000 (λ k. omega arith) (omega arith),
      low-place x 1000 (λ k. omega arith) (omega arith),
      low-place x 100 (λ k. omega arith) (omega arith),
      low-place x 10 (λ k. omega arith) (omega arith),
      low_digit (x % 10) (omega arith),
      first,
      second,
      third,
      fourth,
    )
    fifth

pub field-spells : (text : List ℕ) (at x : ℕ) → field_at text at ≡ Number x → decimal_at text at ≡ x
unfolding field_at decimal_at five
field-spells text at x e =
    let r = reads-number (five text at) x refl e in
    ap (decimal 0) r.0 ∙ number-spells x r.1

-- a blank spells 0
pub blank-spells : (text : List ℕ) (at : ℕ) → field_at text at ≡ Blank → decimal_at text at ≡ 0
unfolding field_at decimal_at five decimal blank_text
blank-spells text at e = ap (decimal 0) (reads-blank (five text at) refl e)

-- the field at `at` is that of what follows `at`
pub field-of-rest : (text : List ℕ) (at : ℕ) → field_at text at ≡ field_at (drop at text) 0
unfolding field_at five
field-of-rest text at = ap field_of (simp (get_or-drop, add-zero))

-- the field that a text begins with
pub field-begins : (x : ℕ) (rest : List ℕ) → x ≤ 99999 → field_at (number_text x ++ rest) 0 ≡ Number x
unfolding field_at five number_text
field-begins x rest h = number-reads x h

pub number-text-length : (x : ℕ) → length (number_text x) ≡ 5
unfolding number_text
number-text-length x = refl

-- writing changes the five places and nothing else
pub with-number-parts : (text : List ℕ) (at x : ℕ) → at + 5 ≤ length text → with_number text at x ≡ take at text ++ number_text x ++ drop (at + 5) text
unfolding with_number number_text
with-number-parts text at x h = sets-eq (number_text x) text at h

-- what was written is read
pub written-reads : (text : List ℕ) (at x : ℕ) → at + 5 ≤ length text → x ≤ 99999 → field_at (with_number text at x) at ≡ Number x
written-reads text at x h k =
    field-of-rest (with_number text at x) at
    ∙ ap (λ (l : List ℕ). field_at (drop at l) 0) (with-number-parts text at x h ∙ append_assoc (take at text) (number_text x) (drop (at + 5) text))
    ∙ ap (λ (l : List ℕ). field_at l 0) (drop_at (take at text) (number_text x ++ drop (at + 5) text) at (length-take-le at text (omega arith)))
    ∙ field-begins x (drop (at + 5) text) k

-- the five bytes from `at` stand there
pub five-splits : (text : List ℕ) (at : ℕ) → at + 5 ≤ length text → drop at text ≡ five text at ++ drop (at + 5) text
unfolding five
five-splits text at h =
    simp towards_suc
    (cc (
      drop-cons text at 0 (omega arith),
      drop-cons text (suc at) 0 (omega arith),
      drop-cons text (suc (suc at)) 0 (omega arith),
      drop-cons text (suc (suc (suc at))) 0 (omega arith),
      drop-cons text (suc (suc (suc (suc at)))) 0 (omega arith),
    ))

-- a field's number has at most five digits
pub field-small : (text : List ℕ) (at x : ℕ) → field_at text at ≡ Number x → x ≤ 99999
unfolding field_at five
field-small text at x e = (reads-number (five text at) x refl e).1
