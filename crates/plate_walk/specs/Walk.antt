-- What reading a plate by expected words gives: the same as examining it and reading it; and what each part of the walk tells.
use Rattle.std.specs.Prelude.{ℕ, ◌+◌, ◌*◌, ◌/◌, ◌%◌, ◌<◌, ◌≡◌, Bool, true, cond, List, get_or, eqb, leb, Option, Some, Result, Ok, Err}
use Rattle.rows.specs.Rows.{Filled, Kept}
use Rattle.rows.specs.Numbers.{number_of}
use Rattle.spelling.specs.Words.{WordIs, spelt}
use Rattle.plate.specs.Formed.{form_of, position_good}
use Rattle.plate.specs.Read.{ColumnsRead, RowsRead, value_in_plate, choice_in_plate, step_in_plate}
use Rattle.rows.specs.declared.FirstLine.{FirstLine}
use Rattle.plate_walk.specs.declared.Line.{Line}

-- a plate of the form and its rows; or its lowest bad line, and rows that are cleared
unfoldable pub PlateLoadedAs : (n : ℕ) (text values₀ values choices₀ choices steps₀ steps : List ℕ) → Result FirstLine ℕ → Type 0
PlateLoadedAs n text values₀ values choices₀ choices steps₀ steps (Ok header) = (form_of n text ≡ Ok tt) × RowsRead n text header values₀ values choices₀ choices steps₀ steps
PlateLoadedAs n text values₀ values choices₀ choices steps₀ steps (Err line) =
    (form_of n text ≡ Err line) × Filled values₀ values n (λ v. 65535) × Filled choices₀ choices n (λ v. 65535) × Filled steps₀ steps n (λ v. 65535)

pub record PlateLoaded (n : ℕ) (text : List ℕ) (r : Result FirstLine ℕ) (values₀ values choices₀ choices steps₀ steps : List ℕ) : Type 0 where
  pub loaded : PlateLoadedAs n text values₀ values choices₀ choices steps₀ steps r

-- what is left of the rows, passed or not
pub record Touched (n : ℕ) (values₀ values choices₀ choices steps₀ steps : List ℕ) : Type 0 where
  pub value : Kept n values₀ values
  pub choice : Kept n choices₀ choices
  pub step : Kept n steps₀ steps

-- a plate that passes is of the form, and the rows hold its columns
pub record PlatePassed (n : ℕ) (text : List ℕ) (passed : Bool) (values₀ values choices₀ choices steps₀ steps : List ℕ) : Type 0 where
  pub form : passed ≡ true → form_of n text ≡ Ok tt
  pub rows : passed ≡ true → ColumnsRead n text values₀ values choices₀ choices steps₀ steps
  pub touched : Touched n values₀ values choices₀ choices steps₀ steps

-- the same of the lines behind the first
pub record LinesWalked (n : ℕ) (text : List ℕ) (passed : Bool) (values₀ values choices₀ choices steps₀ steps : List ℕ) : Type 0 where
  pub lines : passed ≡ true → (v : ℕ) → v < n → position_good n text v ≡ true
  pub rows : passed ≡ true → ColumnsRead n text values₀ values choices₀ choices steps₀ steps
  pub touched : Touched n values₀ values choices₀ choices steps₀ steps

-- a good line of position v has these numbers
pub record LineTaken (n : ℕ) (text : List ℕ) (v : ℕ) (r : Option Line) : Type 0 where
  pub form : (l : Line) → r ≡ Some l → position_good n text v ≡ true
  pub value-is : (l : Line) → r ≡ Some l → l.value ≡ number_of (value_in_plate text v)
  pub choice-is : (l : Line) → r ≡ Some l → l.choice ≡ number_of (choice_in_plate text v)
  pub step_is : (l : Line) → r ≡ Some l → l.step ≡ number_of (step_in_plate text v)

-- the number that the last three bytes of a word spell, if they spell one
unfoldable pub guess : ℕ → ℕ
guess bytes = bytes / 256 % 16 * 100 + bytes / 65536 % 16 * 10 + bytes / 16777216 % 16

-- what an entry is taken for, by its first byte and the word of the others: 65,535 for the other word that may stand there, 65,536 for
-- what is neither that nor a number below n
unfoldable pub taken : (n other first bytes : ℕ) → ℕ
taken n other first bytes =
    cond (eqb first 32)
    (cond (eqb bytes other) 65535 (cond (leb n (guess bytes)) 65536 (cond (eqb bytes (32 + spelt (guess bytes) * 256)) (guess bytes) 65536)))
    65536

pub record EntryTaken (n : ℕ) (text : List ℕ) (at other r : ℕ) : Type 0 where
  pub bytes : ℕ
  pub word : WordIs text (at + 1) bytes
  pub is : r ≡ taken n other (get_or text at 0) bytes
