-- The form of a plate, computed: a test for each line, and the lowest line that fails. That it answers what specs/Form.antt says
-- is proved in specs/Exact.antt.
use Rattle.std.specs.Prelude.{ℕ, ◌+◌, ◌*◌, Bool, true, false, cond, ◌&&◌, List, length, eqb, ltb, ⊤, Result, Ok, Err}
use Rattle.search.specs.First.{first_from}
use Rattle.line.specs.Text.{entry_at, framed}
use Rattle.line.specs.declared.Entry.{Entry}
use Rattle.line.specs.declared.Entry.TheVariants.{Number, Dash, Ever, Bad}

-- the number x
unfoldable pub number_is : ℕ → Entry → Bool
number_is n (Number x) = eqb x n
number_is n Dash = false
number_is n Ever = false
number_is n Bad = false

-- a number below the bound; or else `-`; or else `ever`
unfoldable pub number_below : ℕ → Entry → Bool
number_below bound (Number x) = ltb x bound
number_below bound Dash = false
number_below bound Ever = false
number_below bound Bad = false

unfoldable pub dash_or_below : ℕ → Entry → Bool
dash_or_below bound (Number x) = ltb x bound
dash_or_below bound Dash = true
dash_or_below bound Ever = false
dash_or_below bound Bad = false

unfoldable pub ever_or_below : ℕ → Entry → Bool
ever_or_below bound (Number x) = ltb x bound
ever_or_below bound Dash = false
ever_or_below bound Ever = true
ever_or_below bound Bad = false

unfoldable pub header_good : ℕ → List ℕ → Bool
header_good n text =
    framed text 0 4 80 && (number_is n (entry_at text 1) && (number_below 513 (entry_at text 6) && (dash_or_below 512 (entry_at text 11) && number_below 513 (entry_at text 16))))

-- the 22 bytes from `at` are of the form for position v
unfoldable pub position_good_at : ℕ → List ℕ → ℕ → ℕ → Bool
position_good_at n text v at =
    framed text at 4 86 && (number_is v (entry_at text (at + 1)) && (ever_or_below 512 (entry_at text (at + 6)) && (dash_or_below n (entry_at text (at + 11)) && dash_or_below 512 (entry_at text (at + 16)))))

unfoldable pub position_good : ℕ → List ℕ → ℕ → Bool
position_good n text v = position_good_at n text v ((v + 1) * 22)

-- position v's line is the bad one
abbrev pub bad_position : ℕ → Result ⊤ ℕ
bad_position v = Err (v + 1)

unfoldable pub form_of : ℕ → List ℕ → Result ⊤ ℕ
form_of n text =
    cond (eqb (length text) ((n + 1) * 22)) (cond (header_good n text) (first_from (position_good n text) bad_position (Ok tt) n 0) (Err 0)) (Err 0)
