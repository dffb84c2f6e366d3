-- Laws of a line, over the list of its entries: how long it is, the stores that write it, its bytes from what it reads as, and what it
-- reads as from its bytes. Each goes field by field.
use Rattle.std.specs.Prelude.{ℕ, suc, ◌+◌, ◌≤◌, ◌≡◌, refl, List, [], ◌∷◌, ◌++◌, length, get_or, drop, set}
use Rattle.std.proofs.Common.{arith, add-one, sym, ap, ◌∙◌, subst, append_assoc, length-append, drop-cons}
use Rattle.std.proofs.lemmas.List.{get_or_at}
use Rattle.line.specs.Text.{entry_text, entry_at, with_entry, fields_text, line_text, line_size, field_place, FieldsRead, LineReads}
use Rattle.line.specs.Written.{Written, written_none, written-sets}
use Rattle.line.specs.Entries.{Writable, entry-text-length, entry-stands, entry-behind}
use Rattle.line.specs.declared.Entry.{Entry}
use Rattle.line.specs.declared.Entry.TheVariants.{Bad}

fields-length : (es : List Entry) → length (fields_text es) ≡ field_place (length es)
unfolding fields_text
fields-length [] = refl
fields-length (e ∷ es) = simp (length-append, entry-text-length, fields-length es) (omega arith)

pub line-length : (letter : ℕ) (es : List Entry) → length (line_text letter es) ≡ line_size (length es)
unfolding line_text
line-length letter es = ap suc (fields-length es) ∙ omega arith

-- The stores of a line

-- the text with the entries from `at` on and a line feed behind them
unfoldable pub with_fields : List ℕ → ℕ → List Entry → List ℕ
with_fields text at [] = set text at 10
with_fields text at (e ∷ es) = with_fields (with_entry text at e) (at + 5) es

fields-written : (es : List Entry) (p : List ℕ) (at next : ℕ) (base text : List ℕ) → Written p at base text → at + field_place (length es) ≡ next → next ≤ length base →
    Written (p ++ fields_text es) next base (with_fields text at es)
unfolding fields_text with_fields with_entry
fields-written [] p at next base text w n h = written-sets p (10 ∷ []) at 1 next base text w refl n h
fields-written (e ∷ es) p at next base text w n h =
    let first = written-sets p (entry_text e) at 5 (at + 5) base text w (entry-text-length e) refl (omega arith) in
    subst (λ (q : List ℕ). Written q next base (with_fields (with_entry text at e) (at + 5) es)) (append_assoc p (entry_text e) (fields_text es))
    (fields-written es (p ++ entry_text e) (at + 5) next base (with_entry text at e) first (omega arith) h)

-- a letter, the entries and a line feed, stored one after the other, are the line in front of what was behind it
pub line-stores : (letter : ℕ) (es : List Entry) (base : List ℕ) → line_size (length es) ≤ length base →
    with_fields (set base 0 letter) 1 es ≡ line_text letter es ++ drop (line_size (length es)) base
unfolding line_text
line-stores letter es base h =
    let first = written-sets [] (letter ∷ []) 0 1 1 base base (written_none base) refl refl (omega arith) in
    (fields-written es (letter ∷ []) 1 (line_size (length es)) base (set base 0 letter) first (omega arith) h).bytes

-- Lines within a text

-- entries that have texts
unfoldable pub AllWritable : List Entry → Type 0
AllWritable [] = Unit {0}
AllWritable (e ∷ es) = Writable e × AllWritable es

not-bad : (e : Entry) → Writable e → e ≡ Bad → ⊥
unfolding Writable
not-bad e w q = subst Writable q w

byte-stands : (text : List ℕ) (i next x : ℕ) → i + 1 ≡ next → next ≤ length text → get_or text i 0 ≡ x → drop i text ≡ x ∷ drop next text
byte-stands text i next x e l g = drop-cons text i 0 (omega arith) ∙ ap (λ (y : ℕ). y ∷ drop (suc i) text) g ∙ ap (λ (k : ℕ). x ∷ drop k text) (sym (add-one i) ∙ e)

-- the fields from the j-th on, of k in all
fields-stand : (text : List ℕ) (at k : ℕ) → at + line_size k ≤ length text → get_or text (at + field_place k) 0 ≡ 10 →
    (es : List Entry) (j : ℕ) → j + length es ≡ k → AllWritable es → FieldsRead text at j es → drop (at + field_place j) text ≡ fields_text es ++ drop (at + line_size k) text
unfolding fields_text FieldsRead AllWritable
fields-stand text at k h end [] j e w r =
    let last : at + field_place j ≡ at + field_place k = omega arith in
    ap (λ (i : ℕ). drop i text) last ∙ byte-stands text (at + field_place k) (at + line_size k) 10 (omega arith) h end
fields-stand text at k h end (x ∷ es) j e w r =
    entry-stands text (at + field_place j) (at + field_place (suc j)) x (omega arith) (omega arith) (not-bad x w.0) r.0
    ∙ ap (λ (l : List ℕ). entry_text x ++ l) (fields-stand text at k h end es (suc j) (omega arith) w.1 r.1)
    ∙ sym (append_assoc (entry_text x) (fields_text es) (drop (at + line_size k) text))

-- a line that reads so is these bytes
pub line-stands : (text : List ℕ) (at letter : ℕ) (es : List Entry) → at + line_size (length es) ≤ length text → AllWritable es → LineReads text at letter es →
    drop at text ≡ line_text letter es ++ drop (at + line_size (length es)) text
unfolding line_text
line-stands text at letter es h w r =
    byte-stands text at (at + field_place 0) letter (omega arith) (omega arith) r.letter-is
    ∙ ap (λ (l : List ℕ). letter ∷ l) (fields-stand text at (length es) h r.end es 0 (omega arith) w r.entries)

fields_read : (es : List Entry) (front rest : List ℕ) (at j k : ℕ) → length front ≡ at + field_place j → j + length es ≡ k → AllWritable es →
    FieldsRead (front ++ (fields_text es ++ rest)) at j es × (get_or (front ++ (fields_text es ++ rest)) (at + field_place k) 0 ≡ 10)
unfolding fields_text FieldsRead AllWritable
fields_read [] front rest at j k l e w = (tt, get_or_at front 10 rest 0 (at + field_place k) (l ∙ omega arith))
fields_read (x ∷ es) front rest at j k l e w =
    let one : front ++ (entry_text x ++ (fields_text es ++ rest)) ≡ front ++ ((entry_text x ++ fields_text es) ++ rest) = simp append_assoc in
    let two : (front ++ entry_text x) ++ (fields_text es ++ rest) ≡ front ++ ((entry_text x ++ fields_text es) ++ rest) = simp append_assoc in
    let later = fields_read es (front ++ entry_text x) rest at (suc j) k (simp (length-append, entry-text-length) (omega arith)) (omega arith) w.1 in
    let more = subst (λ (t : List ℕ). FieldsRead t at (suc j) es × (get_or t (at + field_place k) 0 ≡ 10)) two later in
    ((ap (λ (t : List ℕ). entry_at t (at + field_place j)) (sym one) ∙ entry-behind front (fields_text es ++ rest) (at + field_place j) x l w.0, more.0), more.1)

-- and the bytes of a line, behind others, read so
pub line_reads : (before rest : List ℕ) (at letter : ℕ) (es : List Entry) → length before ≡ at → AllWritable es → LineReads (before ++ (line_text letter es ++ rest)) at letter es
unfolding line_text
line_reads before rest at letter es l w =
    let whole : (before ++ (letter ∷ [])) ++ (fields_text es ++ rest) ≡ before ++ (letter ∷ (fields_text es ++ rest)) = simp append_assoc in
    let fields = subst (λ (t : List ℕ). FieldsRead t at 0 es × (get_or t (at + field_place (length es)) 0 ≡ 10)) whole
    (fields_read es (before ++ (letter ∷ [])) rest at 0 (length es) (simp length-append (omega arith)) (omega arith) w) in
    record { letter-is = get_or_at before letter (fields_text es ++ rest) 0 at l; entries = fields.0; end = fields.1 }
