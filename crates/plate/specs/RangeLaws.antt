-- Laws of entries in a column: what is of the form is the entry of its value, and a value in range has an entry of the form.
use Rattle.std.specs.Prelude.{ℕ, ◌≤◌, ◌<◌, ◌≡◌, refl}
use Rattle.std.proofs.Common.{arith, sym, subst}
use Rattle.game.specs.Play.{LegalAs}
use Rattle.game.specs.Arena.{Arena, Owner, controller, environment, nobody, WellFormed, size, meant_move}
use Rattle.rows.specs.Numbers.{number_of}
use Rattle.rows.specs.NumberLaws.{Fits}
use Rattle.game.specs.Value.{Value, fin, ever}
use Rattle.plate.specs.Text.{value_entry, dash_entry}
use Rattle.plate.specs.Form.{NumberBelow, DashOrBelow, EverOrBelow}
use Rattle.plate.specs.Read.{entry_value, entry_number}
use Rattle.plate.specs.Range.{Below}
use Rattle.line.specs.Entries.{Writable}
use Rattle.line.specs.declared.Entry.{Entry}
use Rattle.line.specs.declared.Entry.TheVariants.{Number, Dash, Ever, Bad}

-- From the form to the value

pub number-back : (b : ℕ) (e : Entry) → NumberBelow b e → (e ≡ Number (entry_number e)) × (entry_number e < b)
unfolding NumberBelow entry_value number_of
number-back b (Number x) h = (refl, h)
number-back b Dash h = absurd h
number-back b Ever h = absurd h
number-back b Bad h = absurd h

pub dash-back : (b : ℕ) (e : Entry) → DashOrBelow b e → (e ≡ dash_entry (entry_value e)) × Below b (entry_value e)
unfolding DashOrBelow entry_value dash_entry Below
dash-back b (Number x) h = (refl, h)
dash-back b Dash h = (refl, tt)
dash-back b Ever h = absurd h
dash-back b Bad h = absurd h

pub ever-back : (b : ℕ) (e : Entry) → EverOrBelow b e → (e ≡ value_entry (entry_value e)) × Below b (entry_value e)
unfolding EverOrBelow entry_value value_entry Below
ever-back b (Number x) h = (refl, h)
ever-back b Dash h = absurd h
ever-back b Ever h = (refl, tt)
ever-back b Bad h = absurd h

-- From the value to the form

pub dash-value : (x : Value) → entry_value (dash_entry x) ≡ x
unfolding entry_value dash_entry
dash-value (fin k) = refl
dash-value ever = refl

pub ever-value : (x : Value) → entry_value (value_entry x) ≡ x
unfolding entry_value value_entry
ever-value (fin k) = refl
ever-value ever = refl

pub number-formed : (b x : ℕ) → x < b → NumberBelow b (Number x)
unfolding NumberBelow
number-formed b x h = h

pub dash-formed : (b : ℕ) (x : Value) → Below b x → DashOrBelow b (dash_entry x)
unfolding DashOrBelow dash_entry Below
dash-formed b (fin k) h = h
dash-formed b ever h = tt

pub ever-formed : (b : ℕ) (x : Value) → Below b x → EverOrBelow b (value_entry x)
unfolding EverOrBelow value_entry Below
ever-formed b (fin k) h = h
ever-formed b ever h = tt

-- Texts of entries

pub number-writable : (x : ℕ) → x ≤ 99999 → Writable (Number x)
unfolding Writable
number-writable x h = h

pub dash-writable : (b : ℕ) (x : Value) → b ≤ 65535 → Below b x → Writable (dash_entry x)
unfolding Writable dash_entry Below
dash-writable b (fin k) l h = omega arith
dash-writable b ever l h = tt

pub ever-writable : (b : ℕ) (x : Value) → b ≤ 65535 → Below b x → Writable (value_entry x)
unfolding Writable value_entry Below
ever-writable b (fin k) l h = omega arith
ever-writable b ever l h = tt

-- a value in range is a 16-bit number
pub below-fits : (b : ℕ) (x : Value) → b ≤ 65535 → Below b x → Fits x
unfolding Below
below-fits b (fin k) l h = omega arith
below-fits b ever l h = tt

-- What is in range

pub below-when : (b : ℕ) (x : Value) → ((k : ℕ) → x ≡ fin k → k < b) → Below b x
unfolding Below
below-when b (fin k) h = h k refl
below-when b ever h = tt

-- a legal choice is a position or the dash
pub legal-below : (a : Arena) → WellFormed a → (o : Owner) (v : ℕ) (x : Value) → LegalAs o a v x → Below (size a) x
unfolding Below
legal-below a well controller v x l = subst (Below (size a)) (sym l.1) (well.to-position (meant_move v l.0) l.2)
legal-below a well environment v x l = subst (Below (size a)) (sym l) tt
legal-below a well nobody v x l = subst (Below (size a)) (sym l) tt
