-- What five bytes read as, and the five bytes of a number: "A field is a number right-justified after spaces, with no
-- leading zero save "0" itself" (document 01, "The chart"); "Reading a field gets a third outcome, blank (five spaces)" (document 02,
-- order 1).
use Rattle.std.specs.Prelude.{ℕ, ◌+◌, ◌-◌, ◌*◌, ◌/◌, ◌%◌, cond, List, [], ◌∷◌, get_or, ltb, eqb}
use Rattle.std.proofs.lemmas.List.Edits.{sets}
use Rattle.field.specs.declared.Field.{Field}
use Rattle.field.specs.declared.Field.TheVariants.{Number, Blank, Bad}

-- what the bytes of a field so far are: only spaces, a lone zero, a number without a leading zero, or no field
pub data Scan : Type 0 where
  Spaces : Scan
  Zero : Scan
  Digits : ℕ → Scan
  Wrong : Scan

-- a byte after digits that spell x: a digit, 48 to 57, goes on with the number; five bytes never get past 99,999
unfoldable pub digit_after : ℕ → ℕ → Scan
digit_after x b = cond (ltb 9999 x) Wrong (cond (ltb b 48) Wrong (cond (ltb 57 b) Wrong (Digits (x * 10 + (b - 48)))))

-- one byte more: spaces (32) stand before the number, and nothing stands after a leading zero (48)
unfoldable pub stepped : Scan → ℕ → Scan
stepped Spaces b = cond (eqb b 32) Spaces (cond (eqb b 48) Zero (digit_after 0 b))
stepped Zero b = Wrong
stepped (Digits x) b = digit_after x b
stepped Wrong b = Wrong

unfoldable pub scan : Scan → List ℕ → Scan
scan s [] = s
scan s (b ∷ bs) = scan (stepped s b) bs

unfoldable pub ended : Scan → Field
ended Spaces = Blank
ended Zero = Number 0
ended (Digits x) = Number x
ended Wrong = Bad

-- what the bytes of a field read as
unfoldable pub field_of : List ℕ → Field
field_of bytes = ended (scan Spaces bytes)

-- the five bytes from `at`, 0 past the end of the text
unfoldable pub five : List ℕ → ℕ → List ℕ
five text at = get_or text at 0 ∷ get_or text (at + 1) 0 ∷ get_or text (at + 2) 0 ∷ get_or text (at + 3) 0 ∷ get_or text (at + 4) 0 ∷ []

-- what the field at `at` reads as
unfoldable pub field_at : List ℕ → ℕ → Field
field_at text at = field_of (five text at)

-- the number that bytes spell if they are a field's number: a digit's last four bits are its worth, and a space's are 0
unfoldable pub decimal : ℕ → List ℕ → ℕ
decimal x [] = x
decimal x (b ∷ bs) = decimal (x * 10 + b % 16) bs

unfoldable pub decimal_at : List ℕ → ℕ → ℕ
decimal_at text at = decimal 0 (five text at)

-- the byte of x in the place of `unit`: a space before the first digit
unfoldable pub place_byte : ℕ → ℕ → ℕ
place_byte x unit = cond (ltb x unit) 32 (48 + x / unit % 10)

-- the five bytes of a blank
unfoldable pub blank_text : List ℕ
blank_text = 32 ∷ 32 ∷ 32 ∷ 32 ∷ 32 ∷ []

-- the five bytes of x
unfoldable pub number_text : ℕ → List ℕ
number_text x = place_byte x 10000 ∷ place_byte x 1000 ∷ place_byte x 100 ∷ place_byte x 10 ∷ (48 + x % 10) ∷ []

-- the text with the bytes of x in the five places from `at`, and every other byte as it was
unfoldable pub with_number : List ℕ → ℕ → ℕ → List ℕ
with_number text at x = sets text at (number_text x)
