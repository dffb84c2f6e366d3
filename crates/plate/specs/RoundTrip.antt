-- Reading and setting out are each other's inverse: what is read from a plate of the form, set out again, is its very bytes; and
-- every header and columns in range, set out, are of the form and read back as themselves. Line by line: a line's columns say its
-- bytes, and its bytes its columns.
use Prim.Native.Nat.{ℕ, zero, suc, ◌+◌, ◌*◌, ◌≤◌, ◌<◌}
use native.Mathlib.Omega.{arith}
use Rattle.std.proofs.Common.{add-one, ◌∙◌, length-append, drop_of_length-le}
use Rattle.std.specs.Prelude.{◌≡◌}
use Rattle.std.proofs.Math.Path.{refl, sym, ap, subst}
use mathlib.Core.List.{List, [], ◌++◌, append_assoc, append-nil}
use Rattle.std.proofs.Math.ListN.{length, drop}
use Rattle.rows.specs.Numbers.{number_of, value_of}
use Rattle.game.specs.Value.{Value}
use Rattle.rows.specs.NumberLaws.{number-of-value, value-of-number}
use Rattle.rows.specs.declared.FirstLine.{FirstLine}
use Rattle.line.specs.Text.{FieldsRead, LineReads}
use Rattle.line.specs.LineLaws.{AllWritable, line-stands, line_reads}
use Rattle.line.specs.JoinedLaws.{joined-part, joined-stands}
use Rattle.plate.specs.Text.{dash_entry, header_entries, position_entries, header_line, position_line, position_lines, plate_text}
use Rattle.plate.specs.Line.{header-line-length, position-line-length, lines-length}
use Rattle.plate.specs.Form.{column_at, NumberBelow, DashOrBelow, EverOrBelow, LineForm, OfForm}
use Rattle.plate.specs.Read.{entry_value, header_in, value_in_plate, choice_in_plate, step_in_plate}
use Rattle.plate.specs.ReadLaws.{header-line-form, position-line-form}
use Rattle.plate.specs.Range.{Below, InRange}
use Rattle.plate.specs.RangeLaws.{number-back, dash-back, ever-back, dash-value, ever-value, number-formed, dash-formed, ever-formed, number-writable, dash-writable, ever-writable, below-fits}

-- What is read is in range

module _ (n : ℕ) (text : List ℕ) (small : n ≤ 512) (form : OfForm n text) where
  highest-back : dash_entry (value_of (header_in text).highest) ≡ column_at text 0 2
  unfolding header_in
  highest-back =
      let w = dash-back 512 (column_at text 0 2) (header-line-form n text form).highest in
      ap dash_entry (value-of-number (entry_value (column_at text 0 2)) (below-fits 512 (entry_value (column_at text 0 2)) (omega arith) w.1)) ∙ sym w.0

  pub read-in-range : InRange n (header_in text) (value_in_plate text) (choice_in_plate text) (step_in_plate text)
  unfolding header_in value_in_plate choice_in_plate step_in_plate
  read-in-range =
      let h = header-line-form n text form in
      let top = (dash-back 512 (column_at text 0 2) h.highest).1 in
      record {
        rounds = omega (arith, (number-back 513 (column_at text 0 1) h.rounds).1);
        highest = subst (Below 512) (sym (value-of-number (entry_value (column_at text 0 2)) (below-fits 512 (entry_value (column_at text 0 2)) (omega arith) top))) top;
        evers = omega (arith, (number-back 513 (column_at text 0 3) h.evers).1);
        value_in = λ v l. (ever-back 512 (column_at text (v + 1) 1) (position-line-form n text form v l).value).1;
        choice-in = λ v l. (dash-back n (column_at text (v + 1) 2) (position-line-form n text form v l).choice).1;
        step_in = λ v l. (dash-back 512 (column_at text (v + 1) 3) (position-line-form n text form v l).step).1;
      }

-- What is in range has a text

module _ (n : ℕ) (h : FirstLine) (value choice step : ℕ → Value) (small : n ≤ 512) (range : InRange n h value choice step) where
  header-writable : AllWritable (header_entries n h)
  unfolding AllWritable
  header-writable = (
    number-writable n (omega arith),
    (
      number-writable h.rounds (omega (arith, range.rounds)),
      (dash-writable 512 (value_of h.highest) (omega arith) range.highest, (number-writable h.evers (omega (arith, range.evers)), tt)),
    ),
  )

  position-writable : (v : ℕ) → v < n → AllWritable (position_entries v (value v) (choice v) (step v))
  unfolding AllWritable
  position-writable v l = (
    number-writable v (omega arith),
    (
      ever-writable 512 (value v) (omega arith) (range.value_in v l),
      (dash-writable n (choice v) (omega arith) (range.choice-in v l), (dash-writable 512 (step v) (omega arith) (range.step_in v l), tt)),
    ),
  )

-- Read, and set out again

module _ (n : ℕ) (text : List ℕ) (small : n ≤ 512) (form : OfForm n text) where
  header-bytes : text ≡ header_line n (header_in text) ++ drop 22 text
  unfolding header_line header_in column_at FieldsRead
  header-bytes =
      let f = header-line-form n text form in
      line-stands text 0 80 (header_entries n (header_in text)) (omega (arith, form.size))
      (header-writable n (header_in text) (value_in_plate text) (choice_in_plate text) (step_in_plate text) small (read-in-range n text small form))
      (record {
        letter-is = f.letter;
        entries = (f.count, ((number-back 513 (column_at text 0 1) f.rounds).0, (sym (highest-back n text small form), ((number-back 513 (column_at text 0 3) f.evers).0, tt))));
        end = f.end;
      })

  position-bytes : (v : ℕ) → v < n → drop (22 + v * 22) text ≡ position_line v (value_in_plate text v) (choice_in_plate text v) (step_in_plate text v) ++ drop (22 + suc v * 22) text
  unfolding position_line value_in_plate choice_in_plate step_in_plate column_at FieldsRead
  position-bytes v l =
      let f = position-line-form n text form v l in
      let here : 22 + v * 22 ≡ (v + 1) * 22 = omega arith in
      let next : (v + 1) * 22 + 22 ≡ 22 + suc v * 22 = omega arith in
      ap (λ (k : ℕ). drop k text) here
      ∙ line-stands text ((v + 1) * 22) 86 (position_entries v (value_in_plate text v) (choice_in_plate text v) (step_in_plate text v)) (omega (arith, form.size))
      (position-writable n (header_in text) (value_in_plate text) (choice_in_plate text) (step_in_plate text) small (read-in-range n text small form) v l)
      (record {
        letter-is = f.letter;
        entries = (f.position, ((ever-back 512 (column_at text (v + 1) 1) f.value).0, ((dash-back n (column_at text (v + 1) 2) f.choice).0, ((dash-back 512 (column_at text (v + 1) 3) f.step).0, tt))));
        end = f.end;
      })
      ∙ ap (λ (k : ℕ). position_line v (value_in_plate text v) (choice_in_plate text v) (step_in_plate text v) ++ drop k text) next

  -- "Set out again as plate lines, these are the same bytes"
  pub writing-undoes-reading : plate_text n (header_in text) (value_in_plate text) (choice_in_plate text) (step_in_plate text) ≡ text
  unfolding plate_text position_lines
  writing-undoes-reading =
      let lines = position_lines (value_in_plate text) (choice_in_plate text) (step_in_plate text) n in
      let past : length text ≤ 22 + n * 22 = omega (arith, form.size) in
      sym
      (header-bytes
      ∙ ap (λ (l : List ℕ). header_line n (header_in text) ++ l)
      (joined-stands _ 22 22 text n position-bytes ∙ ap (λ (l : List ℕ). lines ++ l) (drop_of_length-le text past) ∙ append-nil lines))

-- Set out, and read

pub plate-length : (n : ℕ) (h : FirstLine) (value choice step : ℕ → Value) → length (plate_text n h value choice step) ≡ (n + 1) * 22
unfolding plate_text
plate-length n h value choice step = simp (length-append, header-line-length, lines-length) (omega arith)

-- the header and the columns that a text has
pub record ReadsAs (n : ℕ) (text : List ℕ) (h : FirstLine) (value choice step : ℕ → Value) : Type 0 where
  pub header : header_in text ≡ h
  pub value-at : (v : ℕ) → v < n → value_in_plate text v ≡ value v
  pub choice-at : (v : ℕ) → v < n → choice_in_plate text v ≡ choice v
  pub step-at : (v : ℕ) → v < n → step_in_plate text v ≡ step v

module _ (n : ℕ) (h : FirstLine) (value choice step : ℕ → Value) (small : n ≤ 512) (range : InRange n h value choice step) where
  header-columns : LineReads (plate_text n h value choice step) 0 80 (header_entries n h)
  unfolding plate_text header_line
  header-columns = line_reads [] (position_lines value choice step n) 0 80 (header_entries n h) refl (header-writable n h value choice step small range)

  position-columns : (v : ℕ) → v < n → LineReads (plate_text n h value choice step) ((v + 1) * 22) 86 (position_entries v (value v) (choice v) (step v))
  unfolding plate_text position_lines position_line
  position-columns v l =
      let line = position_line v (value v) (choice v) (step v) in
      let before = header_line n h ++ position_lines value choice step v in
      let part = joined-part _ 22 (λ u. position-line-length u (value u) (choice u) (step u)) n v l in
      let grouped : plate_text n h value choice step ≡ before ++ (line ++ part.0) =
      ap (λ (t : List ℕ). header_line n h ++ t) part.1 ∙ sym (append_assoc (header_line n h) (position_lines value choice step v) (line ++ part.0)) in
      subst (λ (t : List ℕ). LineReads t ((v + 1) * 22) 86 (position_entries v (value v) (choice v) (step v))) (sym grouped)
      (line_reads before part.0 ((v + 1) * 22) 86 _ (length-append (header_line n h) _ ∙ omega (arith, header-line-length n h, part.2)) (position-writable n h value choice step small range v l))

  -- "every header and rows in range, set out, are taken"
  pub set-out-is-of-form : OfForm n (plate_text n h value choice step)
  unfolding LineForm column_at FieldsRead
  set-out-is-of-form = record { size = plate-length n h value choice step; line = line }
    where
      line : (i : ℕ) → i ≤ n → LineForm n (plate_text n h value choice step) i
      line zero l =
          let c = header-columns in
          record {
            letter = c.letter-is;
            count = c.entries.0;
            rounds = subst (NumberBelow 513) (sym c.entries.1.0) (number-formed 513 h.rounds (omega (arith, range.rounds)));
            highest = subst (DashOrBelow 512) (sym c.entries.1.1.0) (dash-formed 512 (value_of h.highest) range.highest);
            evers = subst (NumberBelow 513) (sym c.entries.1.1.1.0) (number-formed 513 h.evers (omega (arith, range.evers)));
            end = c.end;
          }
      line (suc v) l =
          let c = subst (λ (i : ℕ). LineReads (plate_text n h value choice step) (i * 22) 86 (position_entries v (value v) (choice v) (step v))) (add-one v) (position-columns v l) in
          record {
            letter = c.letter-is;
            position = c.entries.0;
            value = subst (EverOrBelow 512) (sym c.entries.1.0) (ever-formed 512 (value v) (range.value_in v l));
            choice = subst (DashOrBelow n) (sym c.entries.1.1.0) (dash-formed n (choice v) (range.choice-in v l));
            step = subst (DashOrBelow 512) (sym c.entries.1.1.1.0) (dash-formed 512 (step v) (range.step_in v l));
            end = c.end;
          }

  -- what is set out is read back
  pub reading-undoes-writing : ReadsAs n (plate_text n h value choice step) h value choice step
  unfolding header_in value_in_plate choice_in_plate step_in_plate column_at FieldsRead entry_value number_of
  reading-undoes-writing = record {
    header = simp (header-columns.entries.1.0, header-columns.entries.1.1.0, header-columns.entries.1.1.1.0, dash-value, number-of-value);
    value-at = λ v l. ap entry_value (position-columns v l).entries.1.0 ∙ ever-value (value v);
    choice-at = λ v l. ap entry_value (position-columns v l).entries.1.1.0 ∙ dash-value (choice v);
    step-at = λ v l. ap entry_value (position-columns v l).entries.1.1.1.0 ∙ dash-value (step v);
  }
