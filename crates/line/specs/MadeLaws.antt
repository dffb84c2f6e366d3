-- A field is made exactly when the part is as before with the entry stored in its five places, and a line exactly when it stands in front
-- of what was behind it: what Made promises leaves no byte open. A line is made by its letter, its fields one after the other, and a line
-- feed; and lines are made one after the other.
use Rattle.std.specs.Prelude.{ℕ, ◌+◌, ◌-◌, ◌*◌, ◌≤◌, ◌<◌, ◌≡◌, refl, length, get_or, take}
use Rattle.std.proofs.Common.{arith, suc-mul, add-one, sym, ap₂, ◌∙◌, inl, inr, length-append, length-take, length-drop, length-set, take-append-drop, length-take-le, drop_at, get_or-take, get_or-drop, ext_get_or}
use Rattle.std.proofs.Math.Path.{ap, subst}
use Rattle.std.proofs.Math.Logic.{⊎_elim}
use mathlib.Core.List.{List, [], ◌∷◌, ◌++◌, append_assoc}
use Rattle.std.proofs.Math.ListN.{drop, set}
use Rattle.std.proofs.lemmas.List.Edits.{sets}
use Rattle.std.proofs.Math.Seq.{sets-eq, length-sets, take_at}
use Rattle.field.specs.Text.{five}
use Rattle.field.specs.Laws.{five-splits}
use Rattle.line.specs.Text.{entry_text, entry_of, entry_at, with_entry, line_text, line_size, field_place}
use Rattle.line.specs.Entries.{entry-text-length, five-behind, written-entry-reads}
use Rattle.line.specs.LineLaws.{with_fields, line-length, line-stores, line_reads}
use Rattle.line.specs.Joined.{joined}
use Rattle.line.specs.JoinedLaws.{joined-written}
use Rattle.line.specs.Written.{Written, written-length}
use Rattle.line.specs.Made.{FieldMade, LineMade}
use Rattle.line.specs.declared.Entry.{Entry}

-- Bytes that stay, one by one and together

front-stays : (part after : List ℕ) (at i : ℕ) → take at after ≡ take at part → i < at → get_or after i 0 ≡ get_or part i 0
front-stays part after at i e l = sym (get_or-take at after i 0 l) ∙ ap (λ (t : List ℕ). get_or t i 0) e ∙ get_or-take at part i 0 l

rest-stays : (part after : List ℕ) (next i : ℕ) → drop next after ≡ drop next part → next ≤ i → get_or after i 0 ≡ get_or part i 0
rest-stays part after next i e l =
    let from : next + (i - next) ≡ i = omega arith in
    ap (λ (k : ℕ). get_or after k 0) (sym from)
    ∙ sym (get_or-drop next after (i - next) 0)
    ∙ ap (λ (t : List ℕ). get_or t (i - next) 0) e
    ∙ get_or-drop next part (i - next) 0
    ∙ ap (λ (k : ℕ). get_or part k 0) from

same-front : (part after : List ℕ) (at : ℕ) → at ≤ length part → length after ≡ length part → ((i : ℕ) → i < at → get_or after i 0 ≡ get_or part i 0) → take at after ≡ take at part
same-front part after at h size stays =
    let all : length (take at after) ≡ at = length-take-le at after (omega arith) in
    ext_get_or 0 (take at after) (take at part) (all ∙ sym (length-take-le at part h))
    (λ i l. get_or-take at after i 0 (omega arith) ∙ stays i (omega arith) ∙ sym (get_or-take at part i 0 (omega arith)))

same_rest : (part after : List ℕ) (next : ℕ) → length after ≡ length part → ((i : ℕ) → next ≤ i → get_or after i 0 ≡ get_or part i 0) → drop next after ≡ drop next part
same_rest part after next size stays =
    ext_get_or 0 (drop next after) (drop next part) (simp length-drop (omega arith))
    (λ i l. get_or-drop next after i 0 ∙ stays (next + i) (omega arith) ∙ sym (get_or-drop next part i 0))

-- Fields

module _ (part : List ℕ) (at : ℕ) (e : Entry) (h : at + 5 ≤ length part) where
  stored : with_entry part at e ≡ take at part ++ (entry_text e ++ drop (at + 5) part)
  unfolding with_entry
  stored =
      let size = entry-text-length e in
      sets-eq (entry_text e) part at (omega arith)
      ∙ ap (λ (k : ℕ). (take at part ++ entry_text e) ++ drop (at + k) part) size
      ∙ append_assoc (take at part) (entry_text e) (drop (at + 5) part)

  before : length (take at part) ≡ at
  before = length-take-le at part (omega arith)

  entry-made : FieldMade part (with_entry part at e) at e
  unfolding entry_at with_entry
  entry-made = record {
    holds = bytes;
    reads = λ w. ap entry_of bytes ∙ written-entry-reads e w;
    stays = λ i. ⊎_elim
        (front-stays part (with_entry part at e) at i (ap (take at) stored ∙ take_at (take at part) (entry_text e ++ drop (at + 5) part) at before))
        (rest-stays part (with_entry part at e) (at + 5) i behind);
    size = length-sets part at (entry_text e);
  }
    where
      bytes : five (with_entry part at e) at ≡ entry_text e
      bytes = ap (λ (t : List ℕ). five t at) stored ∙ five-behind (take at part) (entry_text e) (drop (at + 5) part) at before (entry-text-length e)

      behind : drop (at + 5) (with_entry part at e) ≡ drop (at + 5) part
      behind =
          ap (drop (at + 5)) (stored ∙ sym (append_assoc (take at part) (entry_text e) (drop (at + 5) part)))
          ∙ drop_at (take at part ++ entry_text e) (drop (at + 5) part) (at + 5) (simp length-append (omega (arith, before, entry-text-length e)))

  -- the bytes of an entry, stored in its five places, are a field made there
  pub field-made : (bytes after : List ℕ) → bytes ≡ entry_text e → after ≡ sets part at bytes → FieldMade part after at e
  unfolding with_entry
  field-made bytes after is set = subst (λ (t : List ℕ). FieldMade part t at e) (sym (set ∙ ap (sets part at) is)) entry-made

  -- and nothing else is
  pub made-field : (after : List ℕ) → FieldMade part after at e → after ≡ with_entry part at e
  made-field after made =
      sym (take-append-drop at after)
      ∙ ap₂ (λ (p r : List ℕ). p ++ r)
      (same-front part after at (omega arith) made.size (λ i l. made.stays i (inl l)))
      (five-splits after at (omega (arith, made.size))
      ∙ ap₂ (λ (p r : List ℕ). p ++ r) made.holds (same_rest part after (at + 5) made.size (λ i l. made.stays i (inr l))))
      ∙ sym stored

-- Lines

module _ (part : List ℕ) (letter : ℕ) (es : List Entry) (h : line_size (length es) ≤ length part) where
  -- a line in front of what was behind it is a line made
  pub line_made : LineMade part (line_text letter es ++ drop (line_size (length es)) part) letter es
  line_made =
      let size = line-length letter es in
      let rest = drop (line_size (length es)) part in
      record {
        holds = take_at (line_text letter es) rest (line_size (length es)) size;
        reads = line_reads [] rest 0 letter es refl;
        stays = λ i. rest-stays part (line_text letter es ++ rest) (line_size (length es)) i (drop_at (line_text letter es) rest (line_size (length es)) size);
        size = simp (length-append, length-drop) (omega (arith, size));
      }

  -- and nothing else is
  pub made-line : (after : List ℕ) → LineMade part after letter es → after ≡ line_text letter es ++ drop (line_size (length es)) part
  made-line after made =
      sym (take-append-drop (line_size (length es)) after)
      ∙ ap₂ (λ (p r : List ℕ). p ++ r) made.holds (same_rest part after (line_size (length es)) made.size made.stays)

-- fields made one after the other from `at` on, and a line feed behind them
unfoldable pub FieldsMade : List ℕ → ℕ → List Entry → List ℕ → Type 0
FieldsMade part at [] after = after ≡ set part at 10
FieldsMade part at (e ∷ es) after = (next : List ℕ) × FieldMade part next at e × FieldsMade next (at + 5) es after

fields-stored : (es : List Entry) (part after : List ℕ) (at : ℕ) → at + field_place (length es) ≤ length part → FieldsMade part at es after → after ≡ with_fields part at es
unfolding FieldsMade with_fields
fields-stored [] part after at h made = made
fields-stored (e ∷ es) part after at h made =
    let same = made-field part at e (omega arith) made.0 made.1 in
    fields-stored es made.0 after (at + 5) (omega (arith, made.1.size)) made.2 ∙ ap (λ (t : List ℕ). with_fields t (at + 5) es) same

-- a letter, the fields and a line feed make the line
pub line-of-fields : (letter : ℕ) (es : List Entry) (part after : List ℕ) → line_size (length es) ≤ length part → FieldsMade (set part 0 letter) 1 es after → LineMade part after letter es
line-of-fields letter es part after h made =
    let whole = fields-stored es (set part 0 letter) after 1 (simp length-set (omega arith)) made ∙ line-stores letter es part h in
    subst (λ (t : List ℕ). LineMade part t letter es) (sym whole) (line_made part letter es h)

-- one line more of lines of one size, made in the part behind those before it
pub line-more : (letter : ℕ) (es : ℕ → List Entry) (size : ℕ) → ((i : ℕ) → line_size (length (es i)) ≡ size) → (i : ℕ) (base text part : List ℕ) →
    Written (joined (λ k. line_text letter (es k)) i) (i * size) base text → (i + 1) * size ≤ length base →
    LineMade (take (length text - i * size) (drop (i * size) text)) part letter (es i) →
    Written (joined (λ k. line_text letter (es k)) (i + 1)) ((i + 1) * size) base (take (i * size) text ++ (part ++ drop (length text - i * size) (drop (i * size) text)))
line-more letter es size sized i base text part w h made =
    let next : i * size + size ≡ (i + 1) * size = sym (suc-mul i size) ∙ ap (λ (m : ℕ). m * size) (sym (add-one i)) in
    let same = written-length _ (i * size) base text w (omega arith) in
    let behind = take (length text - i * size) (drop (i * size) text) in
    let room : size ≤ length behind = simp (length-take, length-drop) (omega arith) in
    joined-written _ size (λ k. line-length letter (es k) ∙ sized k) i base text part w h
    (made-line behind letter (es i) (omega (arith, sized i)) part made ∙ ap (λ (k : ℕ). line_text letter (es i) ++ drop k behind) (sized i))
