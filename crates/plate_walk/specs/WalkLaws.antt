-- What the walk takes is what the plate holds: an entry by its word, a line by its entries, the plate by its lines.
use Rattle.std.specs.Prelude.{ℕ, ◌+◌, ◌*◌, ◌%◌, ◌<◌, ◌≤◌, ◌≡◌, ◌⊎◌, Bool, ◌&&◌, List, length, get_or, set, ltb, true, Option, Some, None, Result, Ok, Err}
use Rattle.std.proofs.Common.{mod-eq_of_lt, ap, ◌∙◌}
use native.Mathlib.Omega.{arith}
use Rattle.std.proofs.Math.Path.{refl, sym, subst}
use Rattle.std.proofs.Math.Logic.{inl, inr, ⊎_elim}
use Rattle.std.proofs.Math.Bool.{true, false, cond}
use Rattle.std.proofs.Math.Dec.{eqb, leb}
use borrow.Author.Tests.{eq-eqb, eqb-true, ltb-true, lt-ltb, leb-false}
use Rattle.search.proofs.FirstLaws.{first-none}
use Rattle.field.specs.Text.{five, field_at}
use Rattle.line.specs.Text.{entry_at, entry_of, entry_text, or_word, dash_text, ever_text, framed}
use Rattle.line.specs.Entries.{Writable, written-entry-reads}
use Rattle.line.specs.declared.Entry.{Entry}
use Rattle.line.specs.declared.Entry.TheVariants.{Number, Dash, Ever}
use Rattle.rows.specs.Filling.{filled_none, filled_more, kept_same, filled-kept, filled-after}
use Rattle.rows.specs.Numbers.{number_of}
use Rattle.spelling.specs.Words.{WordIs, spelt}
use Rattle.spelling.specs.WordLaws.{word_bytes, entry-reads, place-small}
use Rattle.plate.specs.Form.{column_at}
use Rattle.plate.specs.Formed.{number_is, dash_or_below, ever_or_below, header_good, position_good, position_good_at, bad_position, form_of}
use Rattle.plate.specs.Read.{entry_value, entry_number, ColumnsRead, RowsRead, value_in_plate, choice_in_plate, step_in_plate}
use Rattle.rows.specs.declared.FirstLine.{FirstLine}
use Rattle.plate_walk.specs.Walk.{EntryTaken, LineTaken, PlateLoaded, PlateLoadedAs, PlatePassed, Touched, LinesWalked, guess, taken}
use Rattle.plate_walk.specs.declared.Line.{Line}

and_both : (a b : Bool) → (a && b) ≡ true → (a ≡ true) × (b ≡ true)
and_both true b e = (refl, e)
and_both false b e = let z : ◌≡◌ {A = ℕ} 0 1 = cc in absurd (omega arith)

-- An entry

module _ (n : ℕ) (text : List ℕ) (at other r : ℕ) (few : n ≤ 512) (t : EntryTaken n text at other r) where
  -- the two ways in which it is taken
  taken_as : r < 65536 → ((r < n) × (entry_at text at ≡ Number r)) ⊎ ((r ≡ 65535) × (get_or text at 0 ≡ 32) × (t.bytes ≡ other))
  unfolding taken entry_at entry_of or_word field_at
  taken_as l = go (eqb (get_or text at 0) 32) (eqb t.bytes other) (leb n (guess t.bytes)) (eqb t.bytes (32 + spelt (guess t.bytes) * 256)) refl refl refl refl t.is
    where
      go : (a b c d : Bool) → eqb (get_or text at 0) 32 ≡ a → eqb t.bytes other ≡ b → leb n (guess t.bytes) ≡ c → eqb t.bytes (32 + spelt (guess t.bytes) * 256) ≡ d
          → r ≡ cond a (cond b 65535 (cond c 65536 (cond d (guess t.bytes) 65536))) 65536
          → ((r < n) × (entry_at text at ≡ Number r)) ⊎ ((r ≡ 65535) × (get_or text at 0 ≡ 32) × (t.bytes ≡ other))
      go false b c d p q s e is = absurd (omega arith)
      go true true c d p q s e is = inr (is, eqb-true (get_or text at 0) 32 p, eqb-true t.bytes other q)
      go true false true d p q s e is = absurd (omega arith)
      go true false false false p q s e is = absurd (omega arith)
      go true false false true p q s e is =
          let below = leb-false n (guess t.bytes) s in
          let reads = entry-reads text at t.bytes (guess t.bytes) (omega arith) (eqb-true (get_or text at 0) 32 p) t.word (eqb-true t.bytes (32 + spelt (guess t.bytes) * 256) e) in
          inl (omega arith, rw is (ap (or_word (five text at)) reads))

  -- an entry that may be a number or one word, and is taken, is good and holds what it is taken for
  taken_is : (good : Entry → Bool) (e : Entry) → ((x : ℕ) → x < n → good (Number x) ≡ true) → good e ≡ true → entry_number e ≡ 65535
      → (get_or text at 0 ≡ 32 → t.bytes ≡ other → entry_at text at ≡ e) → r < 65536
      → (good (entry_at text at) ≡ true) × (r ≡ entry_number (entry_at text at))
  unfolding entry_value number_of
  taken_is good e numbers word number reads l =
      ⊎_elim (λ w. (rw w.1 (numbers r w.0), rw w.1))
      (λ w. let is = reads w.1 w.2 in (rw is word, rw is (w.0 ∙ sym number)))
      (taken_as l)

  -- one that is taken for a number below 65,535 is that number
  taken-number : r < 65535 → entry_at text at ≡ Number r
  taken-number l = ⊎_elim (λ w. w.1) (λ w. absurd (omega arith)) (taken_as (omega arith))

-- five bytes by the first and a word of the others
five-bytes : (text : List ℕ) (at word b c d e : ℕ) → WordIs text (at + 1) word → (b < 256) × (c < 256) × (d < 256) × (e < 256) → get_or text at 0 ≡ 32
    → word ≡ b + c * 256 + d * 65536 + e * 16777216 → (get_or text at 0 ≡ 32) × (get_or text (at + 1) 0 ≡ b) × (get_or text (at + 2) 0 ≡ c) × (get_or text (at + 3) 0 ≡ d) × (get_or text (at + 4) 0 ≡ e)
five-bytes text at word b c d e w small first is =
    let v = word_bytes text (at + 1) word b c d e w small is in
    let second : at + 1 + 1 ≡ at + 2 = omega arith in
    let third : at + 1 + 2 ≡ at + 3 = omega arith in
    let fourth : at + 1 + 3 ≡ at + 4 = omega arith in
    (first, v.0, ap (λ (k : ℕ). get_or text k 0) (sym second) ∙ v.1, ap (λ (k : ℕ). get_or text k 0) (sym third) ∙ v.2, ap (λ (k : ℕ). get_or text k 0) (sym fourth) ∙ v.3)

dash-reads : (text : List ℕ) (at word : ℕ) → WordIs text (at + 1) word → get_or text at 0 ≡ 32 → word ≡ 757080096 → entry_at text at ≡ Dash
unfolding entry_at five entry_text dash_text Writable
dash-reads text at word w first is =
    let b = five-bytes text at word 32 32 32 45 w (omega arith, omega arith, omega arith, omega arith) first is in
    rw (b.0, b.1, b.2, b.3, b.4) (written-entry-reads Dash tt)

ever-reads : (text : List ℕ) (at word : ℕ) → WordIs text (at + 1) word → get_or text at 0 ≡ 32 → word ≡ 1919252069 → entry_at text at ≡ Ever
unfolding entry_at five entry_text ever_text Writable
ever-reads text at word w first is =
    let b = five-bytes text at word 101 118 101 114 w (omega arith, omega arith, omega arith, omega arith) first is in
    rw (b.0, b.1, b.2, b.3, b.4) (written-entry-reads Ever tt)

module _ (n bound : ℕ) (text : List ℕ) (at r : ℕ) (few : n ≤ 512) (inside : n ≤ bound) where
  dash-taken : EntryTaken n text at 757080096 r → r < 65536 → (dash_or_below bound (entry_at text at) ≡ true) × (r ≡ entry_number (entry_at text at))
  unfolding dash_or_below entry_value number_of
  dash-taken t l = taken_is n text at 757080096 r few t (dash_or_below bound) Dash (λ x m. lt-ltb x bound (omega arith)) refl refl (λ p q. dash-reads text at t.bytes t.word p q) l

  ever-taken : EntryTaken n text at 1919252069 r → r < 65536 → (ever_or_below bound (entry_at text at) ≡ true) × (r ≡ entry_number (entry_at text at))
  unfolding ever_or_below entry_value number_of
  ever-taken t l = taken_is n text at 1919252069 r few t (ever_or_below bound) Ever (λ x m. lt-ltb x bound (omega arith)) refl refl (λ p q. ever-reads text at t.bytes t.word p q) l

-- A line

-- the tests of a line, as the code joins them
abbrev pub line_tests : (frame : Bool) (v position value choice step : ℕ) → Bool
line_tests frame v position value choice step = (frame && eqb position v) && ((ltb value 65536 && ltb choice 65536) && ltb step 65536)

pub line_taken : (n v position value choice step : ℕ) (text : List ℕ) (frame : Bool) → n ≤ 512 → v < n
    → frame ≡ framed text ((v + 1) * 22) 4 86
    → EntryTaken n text ((v + 1) * 22 + 1) 757080096 position → EntryTaken n text ((v + 1) * 22 + 6) 1919252069 value
    → EntryTaken n text ((v + 1) * 22 + 11) 757080096 choice → EntryTaken n text ((v + 1) * 22 + 16) 757080096 step
    → line_tests frame v position value choice step ≡ true
    → LineTaken n text v (Some (record { value = value; choice = choice; step = step }))
unfolding position_good position_good_at number_is value_in_plate choice_in_plate step_in_plate column_at
line_taken n v position value choice step text frame few l f tp tv tc ts tests =
    record {
      form = λ k e. rw (all.0, all.1, all.2.0, all.3.0, all.4.0);
      value-is = λ k e. let same : line ≡ k = cc in ap (λ (x : Line). x.value) (sym same) ∙ all.2.1;
      choice-is = λ k e. let same : line ≡ k = cc in ap (λ (x : Line). x.choice) (sym same) ∙ all.3.1;
      step_is = λ k e. let same : line ≡ k = cc in ap (λ (x : Line). x.step) (sym same) ∙ all.4.1;
    }
  where
    line : Line
    line = record { value = value; choice = choice; step = step }

    all : (framed text ((v + 1) * 22) 4 86 ≡ true) × (number_is v (entry_at text ((v + 1) * 22 + 1)) ≡ true)
        × ((ever_or_below 512 (entry_at text ((v + 1) * 22 + 6)) ≡ true) × (value ≡ entry_number (entry_at text ((v + 1) * 22 + 6))))
        × ((dash_or_below n (entry_at text ((v + 1) * 22 + 11)) ≡ true) × (choice ≡ entry_number (entry_at text ((v + 1) * 22 + 11))))
        × ((dash_or_below 512 (entry_at text ((v + 1) * 22 + 16)) ≡ true) × (step ≡ entry_number (entry_at text ((v + 1) * 22 + 16))))
    all =
        let one = and_both (frame && eqb position v) ((ltb value 65536 && ltb choice 65536) && ltb step 65536) tests in
        let left = and_both frame (eqb position v) one.0 in
        let right = and_both (ltb value 65536 && ltb choice 65536) (ltb step 65536) one.1 in
        let both = and_both (ltb value 65536) (ltb choice 65536) right.0 in
        let lv = ltb-true value 65536 both.0 in
        let lc = ltb-true choice 65536 both.1 in
        let ls = ltb-true step 65536 right.1 in
        let same = eqb-true position v left.1 in
        let number = taken-number n text ((v + 1) * 22 + 1) 757080096 position few tp (omega arith) in (
          sym f ∙ left.0,
          rw number (eq-eqb position v same),
          ever-taken n 512 text ((v + 1) * 22 + 6) value few few tv lv,
          dash-taken n n text ((v + 1) * 22 + 11) choice few (omega arith) tc lc,
          dash-taken n 512 text ((v + 1) * 22 + 16) step few few ts ls,
        )

-- a line that is not taken tells nothing
pub not-taken : (n v : ℕ) (text : List ℕ) → LineTaken n text v None
not-taken n v text = record { form = λ k e. none e; value-is = λ k e. none e; choice-is = λ k e. none e; step_is = λ k e. none e }
  where
    none : {A : Type 0} {k : Line} → None ≡ Some k → A
    none e = let z : ◌≡◌ {A = ℕ} 0 1 = cc in absurd (omega arith)

-- The plate

pub columns-none : (text values choices steps : List ℕ) → ColumnsRead 0 text values values choices choices steps steps
columns-none text values choices steps = record { value = filled_none _ _; choice = filled_none _ _; step = filled_none _ _ }

-- a good line more
pub columns-next : {n v : ℕ} {text values₀ values choices₀ choices steps₀ steps : List ℕ} {taken : Option Line} {line : Line} → v < length values₀ → v < length choices₀ → v < length steps₀
    → LineTaken n text v taken → taken ≡ Some line → ColumnsRead v text values₀ values choices₀ choices steps₀ steps
    → ColumnsRead (v + 1) text values₀ (set values v line.value) choices₀ (set choices v line.choice) steps₀ (set steps v line.step)
columns-next lv lc ls t g h =
    record {
      value = filled_more _ _ _ _ _ h.value lv (t.value-is _ g);
      choice = filled_more _ _ _ _ _ h.choice lc (t.choice-is _ g);
      step = filled_more _ _ _ _ _ h.step ls (t.step_is _ g);
    }

-- the columns of some positions leave what lies past all of them
pub columns-touched : {v n : ℕ} {text values₀ values choices₀ choices steps₀ steps : List ℕ} → v ≤ n → ColumnsRead v text values₀ values choices₀ choices steps₀ steps
    → Touched n values₀ values choices₀ choices steps₀ steps
columns-touched l h = record { value = filled-kept l h.value; choice = filled-kept l h.choice; step = filled-kept l h.step }

pub untouched : (n : ℕ) (values choices steps : List ℕ) → Touched n values values choices choices steps steps
untouched n values choices steps =
    record {
      value = kept_same n values;
      choice = kept_same n choices;
      step = kept_same n steps;
    }

-- a plate whose length, first line and other lines are good is of the form
pub lines-form : (n : ℕ) (text : List ℕ) → length text ≡ (n + 1) * 22 → header_good n text ≡ true → ((v : ℕ) → v < n → position_good n text v ≡ true) → form_of n text ≡ Ok tt
unfolding form_of
lines-form n text size header lines =
    rw (eq-eqb (length text) ((n + 1) * 22) size, header) (first-none (position_good n text) bad_position (Ok tt) n 0 (λ v l h. lines v (omega arith)))

pub read-after : {n : ℕ} {text : List ℕ} {header : FirstLine} {values₀ values₁ values choices₀ choices₁ choices steps₀ steps₁ steps : List ℕ}
    → Touched n values₀ values₁ choices₀ choices₁ steps₀ steps₁ → RowsRead n text header values₁ values choices₁ choices steps₁ steps
    → RowsRead n text header values₀ values choices₀ choices steps₀ steps
read-after w h =
    record {
      header = h.header;
      rows = record { value = filled-after w.value h.rows.value; choice = filled-after w.choice h.rows.choice; step = filled-after w.step h.rows.step };
    }

-- the word of a number leaves room for a byte
pub spelt-small : (x : ℕ) → spelt x < 16777216
unfolding spelt
spelt-small x = omega (arith, place-small x 100, place-small x 10)

-- What the walk says where it stops and where it goes through

not-passed : {A : Type 0} → false ≡ true → A
not-passed e = let z : ◌≡◌ {A = ℕ} 0 1 = cc in absurd (omega arith)

module _ {n : ℕ} {text values₀ values choices₀ choices steps₀ steps : List ℕ} where
  pub walk-stops : Touched n values₀ values choices₀ choices steps₀ steps → LinesWalked n text false values₀ values choices₀ choices steps₀ steps
  walk-stops t = record { lines = λ e. not-passed e; rows = λ e. not-passed e; touched = t }

  pub walk_ends : ((v : ℕ) → v < n → position_good n text v ≡ true) → ColumnsRead n text values₀ values choices₀ choices steps₀ steps → LinesWalked n text true values₀ values choices₀ choices steps₀ steps
  walk_ends lines columns = record { lines = λ e. lines; rows = λ e. columns; touched = columns-touched (omega arith) columns }

  pub fails : Touched n values₀ values choices₀ choices steps₀ steps → PlatePassed n text false values₀ values choices₀ choices steps₀ steps
  fails t = record { form = λ e. not-passed e; rows = λ e. not-passed e; touched = t }

  pub passes-as : {passed : Bool} → length text ≡ (n + 1) * 22 → header_good n text ≡ true → LinesWalked n text passed values₀ values choices₀ choices steps₀ steps
      → PlatePassed n text passed values₀ values choices₀ choices steps₀ steps
  passes-as size header w = record { form = λ e. lines-form n text size header (w.lines e); rows = w.rows; touched = w.touched }

-- What the answer tells
module _ {n : ℕ} {text values₀ values choices₀ choices steps₀ steps : List ℕ} {r : Result FirstLine ℕ} (is : PlateLoaded n text r values₀ values choices₀ choices steps₀ steps) where
  pub loaded-rows : {header : FirstLine} → r ≡ Ok header → (form_of n text ≡ Ok tt) × RowsRead n text header values₀ values choices₀ choices steps₀ steps
  unfolding PlateLoadedAs
  loaded-rows e = subst (PlateLoadedAs n text values₀ values choices₀ choices steps₀ steps) e is.loaded

  pub loaded-bad : {line : ℕ} → r ≡ Err line → form_of n text ≡ Err line
  unfolding PlateLoadedAs
  loaded-bad e = (subst (PlateLoadedAs n text values₀ values choices₀ choices steps₀ steps) e is.loaded).0
