-- Four bytes as a word, and the last three bytes of a number's five as one.
use Rattle.std.specs.Prelude.{ℕ, ◌+◌, ◌*◌, ◌%◌, ◌<◌, ◌≡◌, cond, List, get_or, ltb}
use Rattle.field.specs.Text.{place_byte}

-- four bytes, the first of them the lowest
abbrev pub four_bytes : ℕ → ℕ → ℕ → ℕ → ℕ
four_bytes a b c d = a + b * 256 + c * 65536 + d * 16777216

-- the four bytes from `at`
unfoldable pub word_at : List ℕ → ℕ → ℕ
word_at text at = four_bytes (get_or text at 0) (get_or text (at + 1) 0) (get_or text (at + 2) 0) (get_or text (at + 3) 0)

-- a word of a text, and that what it was made of are bytes
pub record WordIs (text : List ℕ) (at word : ℕ) : Type 0 where
  pub is : word ≡ word_at text at
  pub first : get_or text at 0 < 256
  pub second : get_or text (at + 1) 0 < 256
  pub third : get_or text (at + 2) 0 < 256
  pub fourth : get_or text (at + 3) 0 < 256

-- the bytes of x in the places of hundreds, tens and units
unfoldable pub spelt : ℕ → ℕ
spelt x = place_byte x 100 + place_byte x 10 * 256 + (48 + x % 10) * 65536

-- a zero in the place of each digit of x, below 1,000, and spaces before them
unfoldable pub zeros_of : ℕ → ℕ
zeros_of x = cond (ltb x 10) (32 + 32 * 256 + 48 * 65536) (cond (ltb x 100) (32 + 48 * 256 + 48 * 65536) (48 + 48 * 256 + 48 * 65536))
