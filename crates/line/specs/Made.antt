-- What making a field and making a line promise of the part of the buffer that they get (document 02, order 3): "Making a field shall
-- promise that its five bytes hold the field and every other byte of the part stays." MadeLaws shows that this settles every byte.
use Rattle.std.specs.Prelude.{ℕ, ◌+◌, ◌≤◌, ◌<◌, ◌≡◌, ◌⊎◌, List, length, get_or, take}
use Rattle.field.specs.Text.{five}
use Rattle.line.specs.Text.{entry_text, entry_at, line_text, line_size, LineReads}
use Rattle.line.specs.Entries.{Writable}
use Rattle.line.specs.LineLaws.{AllWritable}
use Rattle.line.specs.declared.Entry.{Entry}

-- the field of an entry is made in the five places from `at`: they hold its bytes, which read as the number, as `-`, as `ever`; every
-- other byte stays, and the length
pub record FieldMade (part after : List ℕ) (at : ℕ) (e : Entry) : Type 0 where
  pub holds : five after at ≡ entry_text e
  pub reads : Writable e → entry_at after at ≡ e
  pub stays : (i : ℕ) → (i < at) ⊎ (at + 5 ≤ i) → get_or after i 0 ≡ get_or part i 0
  pub size : length after ≡ length part

-- a line of as many fields as there are entries is made in the first bytes of the part; every other byte stays, and the length
pub record LineMade (part after : List ℕ) (letter : ℕ) (es : List Entry) : Type 0 where
  pub holds : take (line_size (length es)) after ≡ line_text letter es
  pub reads : AllWritable es → LineReads after 0 letter es
  pub stays : (i : ℕ) → line_size (length es) ≤ i → get_or after i 0 ≡ get_or part i 0
  pub size : length after ≡ length part
