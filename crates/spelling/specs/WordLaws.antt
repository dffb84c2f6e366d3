-- What words tell of bytes: equal words are equal bytes, and a field of two spaces and the word of x reads as x. The second is what the
-- field's own laws say of the five bytes of x.
use Rattle.std.specs.Prelude.{ℕ, ◌+◌, ◌-◌, ◌*◌, ◌/◌, ◌%◌, ◌≤◌, ◌<◌, ◌≡◌, refl, Bool, true, false, cond, List, [], ◌∷◌, get_or, ltb}
use Rattle.std.proofs.Common.{arith, sym, ap, ◌∙◌, ltb-true, ltb-false}
use Rattle.field.specs.Text.{field_of, five, field_at, place_byte, number_text}
use Rattle.field.specs.Laws.{place-space, number-reads}
use Rattle.field.specs.declared.Field.TheVariants.{Number}
use Rattle.spelling.specs.Words.{four_bytes, word_at, WordIs, spelt, zeros_of}

-- equal words are equal bytes
pub same_bytes : (a b c d p q r s : ℕ) → (a < 256) × (b < 256) × (c < 256) × (d < 256) → (p < 256) × (q < 256) × (r < 256) × (s < 256) →
    four_bytes a b c d ≡ four_bytes p q r s → (a ≡ p) × (b ≡ q) × (c ≡ r) × (d ≡ s)
same_bytes a b c d p q r s h k e = (omega arith, omega arith, omega arith, omega arith)

-- so where the word at `at` is that of four bytes, the text has them there
pub word_bytes : (text : List ℕ) (at word p q r s : ℕ) → WordIs text at word → (p < 256) × (q < 256) × (r < 256) × (s < 256) → word ≡ four_bytes p q r s →
    (get_or text at 0 ≡ p) × (get_or text (at + 1) 0 ≡ q) × (get_or text (at + 2) 0 ≡ r) × (get_or text (at + 3) 0 ≡ s)
unfolding word_at
word_bytes text at word p q r s w k e =
    same_bytes (get_or text at 0) (get_or text (at + 1) 0) (get_or text (at + 2) 0) (get_or text (at + 3) 0) p q r s
    (w.first, w.second, w.third, w.fourth) k (sym w.is ∙ e)

-- a place holds a space or a digit
pub place-small : (x unit : ℕ) → place_byte x unit ≤ 57
unfolding place_byte
place-small x unit = go (ltb x unit)
  where
    go : (b : Bool) → cond b 32 (48 + x / unit % 10) ≤ 57
    go true = omega arith
    go false = omega arith

-- so the word of x has three bytes
pub spelt-small : (x : ℕ) → spelt x < 16777216
unfolding spelt
spelt-small x = omega (arith, place-small x 100, place-small x 10)

pub zeros-small : (x : ℕ) → zeros_of x < 16777216
unfolding zeros_of
zeros-small x = go (ltb x 10) (ltb x 100)
  where
    go : (p q : Bool) → cond p (32 + 32 * 256 + 48 * 65536) (cond q (32 + 48 * 256 + 48 * 65536) (48 + 48 * 256 + 48 * 65536)) < 16777216
    go true q = omega arith
    go false true = omega arith
    go false false = omega arith

-- digits in their places from a number, its tens and its hundreds: ten in a place are one in the place before
digit-sum : (h t d u x : ℕ) → t ≡ h * 10 + d → x ≡ t * 10 + u → x * 65536 - t * 655104 - h * 2559 ≡ h + d * 256 + u * 65536
digit-sum h t d u x e f = omega arith

-- the word of x is its digits, each on a zero, and spaces before them
pub spelt-sum : (x : ℕ) → x < 1000 → spelt x ≡ x * 65536 - x / 10 * 655104 - x / 100 * 2559 + zeros_of x
unfolding spelt place_byte zeros_of
spelt-sum x small = rw (digit-sum (x / 100) (x / 10) (x / 10 % 10) (x % 10) x (omega arith) (omega arith), hundreds) (go (ltb x 10) (ltb x 100) refl refl)
  where
    hundreds : x / 100 % 10 ≡ x / 100
    hundreds = omega arith

    go : (p q : Bool) → ltb x 10 ≡ p → ltb x 100 ≡ q →
        cond q 32 (48 + x / 100) + cond p 32 (48 + x / 10 % 10) * 256 + (48 + x % 10) * 65536
        ≡ x / 100 + x / 10 % 10 * 256 + x % 10 * 65536 + cond p (32 + 32 * 256 + 48 * 65536) (cond q (32 + 48 * 256 + 48 * 65536) (48 + 48 * 256 + 48 * 65536))
    go true true e f = let l = ltb-true x 10 e in let h : x / 100 ≡ 0 = omega arith in let d : x / 10 % 10 ≡ 0 = omega arith in simp (h, d) (omega arith)
    go true false e f = absurd (omega (arith, ltb-true x 10 e, ltb-false x 100 f))
    go false true e f = let l = ltb-true x 100 f in let h : x / 100 ≡ 0 = omega arith in simp h (omega arith)
    go false false e f = omega arith

-- the bytes in the word of x
pub record Spelt (x c d e : ℕ) : Type 0 where
  pub hundreds : c ≡ place_byte x 100
  pub tens : d ≡ place_byte x 10
  pub units : e ≡ 48 + x % 10

-- two spaces and these bytes are a field of x
pub spelt-field : (x : ℕ) → x < 1000 → field_of (32 ∷ 32 ∷ place_byte x 100 ∷ place_byte x 10 ∷ (48 + x % 10) ∷ []) ≡ Number x
unfolding number_text
spelt-field x small =
    let bytes : 32 ∷ 32 ∷ place_byte x 100 ∷ place_byte x 10 ∷ (48 + x % 10) ∷ [] ≡ number_text x = cc (place-space x 10000 (omega arith), place-space x 1000 (omega arith)) in
    ap field_of bytes ∙ number-reads x (omega arith)

-- so they read as x
pub spelt-reads : (text : List ℕ) (at x : ℕ) → x < 1000 → get_or text at 0 ≡ 32 → get_or text (at + 1) 0 ≡ 32 →
    Spelt x (get_or text (at + 2) 0) (get_or text (at + 3) 0) (get_or text (at + 4) 0) → field_at text at ≡ Number x
unfolding field_at five
spelt-reads text at x small one two w =
    let bytes : five text at ≡ 32 ∷ 32 ∷ place_byte x 100 ∷ place_byte x 10 ∷ (48 + x % 10) ∷ [] = cc (one, two, w.hundreds, w.tens, w.units) in
    ap field_of bytes ∙ spelt-field x small

-- a space, and then a space and the word of x: an entry read by one word
pub entry-reads : (text : List ℕ) (at word x : ℕ) → x < 1000 → get_or text at 0 ≡ 32 → WordIs text (at + 1) word → word ≡ 32 + spelt x * 256 → field_at text at ≡ Number x
unfolding spelt
entry-reads text at word x small one w e =
    let high = place-small x 100 in
    let middle = place-small x 10 in
    let b = word_bytes text (at + 1) word 32 (place_byte x 100) (place_byte x 10) (48 + x % 10) w (omega arith, omega arith, omega arith, omega arith) (omega arith) in
    let second : at + 1 + 1 ≡ at + 2 = omega arith in
    let third : at + 1 + 2 ≡ at + 3 = omega arith in
    let fourth : at + 1 + 3 ≡ at + 4 = omega arith in
    spelt-reads text at x small one b.0
    (record {
      hundreds = ap (λ (k : ℕ). get_or text k 0) (sym second) ∙ b.1;
      tens = ap (λ (k : ℕ). get_or text k 0) (sym third) ∙ b.2;
      units = ap (λ (k : ℕ). get_or text k 0) (sym fourth) ∙ b.3;
    })
