-- Laws of reading a plate of the form: every entry of a column fits 16 bits, and a turn of the reading fills the three rows by one.
use Rattle.std.specs.Prelude.{ℕ, suc, ◌+◌, ◌*◌, ◌≤◌, ◌<◌, ◌≡◌, List, length, Ok}
use Rattle.std.proofs.Common.{arith, add-one}
use Rattle.rows.specs.Numbers.{number_of}
use Rattle.plate.specs.Form.{column_at, NumberBelow, DashOrBelow, EverOrBelow, HeaderForm, PositionForm, LineForm, OfForm}
use Rattle.plate.specs.Formed.{form_of}
use Rattle.plate.specs.Exact.{form-exact}
use Rattle.plate.specs.Read.{entry_value, entry_number}
use Rattle.line.specs.declared.Entry.{Entry}
use Rattle.line.specs.declared.Entry.TheVariants.{Number, Dash, Ever, Bad}

number_fits : (b : ℕ) (e : Entry) → b ≤ 65535 → NumberBelow b e → entry_number e ≤ 65535
unfolding NumberBelow entry_value number_of
number_fits b (Number x) h k = omega arith
number_fits b Dash h k = absurd k
number_fits b Ever h k = absurd k
number_fits b Bad h k = absurd k

dash-fits : (b : ℕ) (e : Entry) → b ≤ 65535 → DashOrBelow b e → entry_number e ≤ 65535
unfolding DashOrBelow entry_value number_of
dash-fits b (Number x) h k = omega arith
dash-fits b Dash h k = omega arith
dash-fits b Ever h k = absurd k
dash-fits b Bad h k = absurd k

ever-fits : (b : ℕ) (e : Entry) → b ≤ 65535 → EverOrBelow b e → entry_number e ≤ 65535
unfolding EverOrBelow entry_value number_of
ever-fits b (Number x) h k = omega arith
ever-fits b Dash h k = absurd k
ever-fits b Ever h k = omega arith
ever-fits b Bad h k = absurd k

-- the lines of a plate of the form
pub header-line-form : (n : ℕ) (text : List ℕ) → OfForm n text → HeaderForm n text
unfolding LineForm
header-line-form n text w = w.line 0 (omega arith)

pub position-line-form : (n : ℕ) (text : List ℕ) → OfForm n text → (v : ℕ) → v < n → PositionForm n text v (v + 1)
unfolding LineForm
position-line-form n text w v h = rw (add-one v) (w.line (suc v) (omega arith))

-- a line is within the text, and its three columns fit 16 bits
pub record LineFits (text : List ℕ) (i : ℕ) : Type 0 where
  pub inside : (i + 1) * 22 ≤ length text
  pub second : entry_number (column_at text i 1) ≤ 65535
  pub third : entry_number (column_at text i 2) ≤ 65535
  pub fourth : entry_number (column_at text i 3) ≤ 65535

module _ (n : ℕ) (text : List ℕ) (small : n ≤ 512) (good : form_of n text ≡ Ok tt) where
  pub header-fits : LineFits text 0
  header-fits =
      let form = (form-exact n text).0 good in
      let w = header-line-form n text form in
      record { inside = omega (arith, form.size); second = number_fits 513 _ (omega arith) w.rounds; third = dash-fits 512 _ (omega arith) w.highest; fourth = number_fits 513 _ (omega arith) w.evers }

  pub position-fits : (v : ℕ) → v < n → LineFits text (v + 1)
  position-fits v h =
      let form = (form-exact n text).0 good in
      let w = position-line-form n text form v h in
      record { inside = omega (arith, form.size); second = ever-fits 512 _ (omega arith) w.value; third = dash-fits n _ (omega arith) w.choice; fourth = dash-fits 512 _ (omega arith) w.step }
