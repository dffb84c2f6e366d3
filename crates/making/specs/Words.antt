-- A space and a word's four bytes, and the words whose bytes are fields.
use Rattle.std.specs.Prelude.{ℕ, ◌+◌, ◌*◌, ◌/◌, ◌%◌, ◌<◌, ◌≡◌, refl, List, [], ◌∷◌}
use Rattle.std.proofs.Common.{arith, ap, ◌∙◌}
use Rattle.std.proofs.Math.Nat.{div-eq_of_lt, add-mul-div_right}
use Rattle.field.specs.Text.{place_byte, number_text}
use Rattle.field.specs.Laws.{place-space}
use Rattle.line.specs.Text.{dash_text, ever_text}
use Rattle.spelling.specs.Words.{four_bytes, spelt}
use Rattle.spelling.specs.WordLaws.{place-small}

-- a space and the four bytes of a word, the lowest first
unfoldable pub word_text : ℕ → List ℕ
word_text word = 32 ∷ word % 256 ∷ word / 256 % 256 ∷ word / 65536 % 256 ∷ word / 16777216 % 256 ∷ []

-- a byte of a word, between the bytes below it and those above it
byte_of : (unit low b high word : ℕ) → word ≡ low + (b + high * 256) * unit → low < unit → b < 256 → word / unit % 256 ≡ b
byte_of unit low b high word e l k =
    let above : word / unit ≡ low / unit + (b + high * 256) = ap (λ (w : ℕ). w / unit) e ∙ add-mul-div_right low (b + high * 256) (omega arith) in
    let none : low / unit ≡ 0 = div-eq_of_lt l in
    omega arith

-- a word of four bytes has these bytes
pub word-text : (word a b c d : ℕ) → (a < 256) × (b < 256) × (c < 256) × (d < 256) → word ≡ four_bytes a b c d → word_text word ≡ 32 ∷ a ∷ b ∷ c ∷ d ∷ []
unfolding word_text
word-text word a b c d h e =
    let first : word ≡ a + (b + c * 256 + d * 65536) * 256 = omega arith in
    let one : word % 256 ≡ a = ap (λ (w : ℕ). w % 256) first ∙ omega arith in
    cc (
      one,
      byte_of 256 a b (c + d * 256) word (omega arith) h.0 h.1,
      byte_of 65536 (a + b * 256) c d word (omega arith) (omega arith) h.2,
      byte_of 16777216 (a + b * 256 + c * 65536) d 0 word (omega arith) (omega arith) h.3,
    )

-- two spaces and the word of x are the five bytes of x
pub spelt-text : (x : ℕ) → x < 1000 → word_text (32 + spelt x * 256) ≡ number_text x
unfolding number_text spelt
spelt-text x small =
    let high = place-small x 100 in
    let middle = place-small x 10 in
    let bytes = word-text (32 + spelt x * 256) 32 (place_byte x 100) (place_byte x 10) (48 + x % 10) (omega arith, omega arith, omega arith, omega arith) (omega arith) in
    cc (bytes, place-space x 10000 (omega arith), place-space x 1000 (omega arith))

-- the words of `-` and `ever`
pub dash-word : word_text 757080096 ≡ dash_text
unfolding word_text dash_text
dash-word = refl

pub ever-word : word_text 1919252069 ≡ ever_text
unfolding word_text ever_text
ever-word = refl
