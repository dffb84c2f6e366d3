-- A chart's line as what it reads: the bytes of a line from its columns, its columns from its bytes, and its form. The first two are the
-- laws of a line of two numbers; a field that reads as a number is the entry of that number.
use Rattle.std.specs.Prelude.{ℕ, ◌+◌, ◌*◌, ◌≤◌, ◌≡◌, List, [], ◌∷◌, ◌++◌, length, drop}
use Rattle.std.proofs.Common.{arith, sym, ap, ◌∙◌, subst}
use Rattle.field.specs.Laws.{field-small}
use Rattle.field.specs.declared.Field.{Field}
use Rattle.field.specs.declared.Field.TheVariants.{Number}
use Rattle.line.specs.Text.{FieldsRead, LineReads}
use Rattle.line.specs.Entries.{Writable, number-entry}
use Rattle.line.specs.LineLaws.{AllWritable, line-stands, line_reads}
use Rattle.line.specs.declared.Entry.TheVariants.{Number as Of}
use Rattle.chart.specs.Text.{letter_at, first_at, second_at, end_at, field_number}
use Rattle.chart.specs.Meaning.{chart_line}
use Rattle.chart.specs.Good.{Formed}

-- line i has this letter, this number, this field and a line feed
pub record Reads (text : List ℕ) (i letter first : ℕ) (second : Field) : Type 0 where
  pub letter-is : letter_at text i ≡ letter
  pub first-is : first_at text i ≡ Number first
  pub second_is : second_at text i ≡ second
  pub end_is : end_at text i ≡ 10

-- a field that reads as a number
pub number-again : (f : Field) (x : ℕ) → f ≡ Number x → (f ≡ Number (field_number f)) × (field_number f ≡ x)
unfolding field_number
number-again f x e = (e ∙ ap (λ (g : Field). Number (field_number g)) (sym e), ap field_number e)

-- the form of a line that reads so, where what its second field stands for is a number
pub reads-formed : (Letter : ℕ → Type 0) (text : List ℕ) (i letter first : ℕ) (second stands : Field) (x : ℕ) → Reads text i letter first second → stands ≡ Number x → Letter letter →
    Formed (Letter (letter_at text i)) (first_at text i) stands (end_at text i)
reads-formed Letter text i letter first second stands x r s w = record {
  allowed = subst Letter (sym r.letter-is) w;
  first-number = (number-again (first_at text i) first r.first-is).0;
  second-number = (number-again stands x s).0;
  ends = r.end_is;
}

-- a line that reads so has these bytes
pub reads_bytes : (text : List ℕ) (i letter first second : ℕ) → (i + 1) * 12 ≤ length text → Reads text i letter first (Number second) →
    drop (i * 12) text ≡ chart_line letter first second ++ drop ((i + 1) * 12) text
unfolding letter_at first_at second_at end_at FieldsRead AllWritable Writable
reads_bytes text i letter first second h r =
    let one = field-small text (i * 12 + 1) first r.first-is in
    let two = field-small text (i * 12 + 6) second r.second_is in
    let next : i * 12 + 12 ≡ (i + 1) * 12 = omega arith in
    line-stands text (i * 12) letter (Of first ∷ Of second ∷ []) (omega arith) (one, (two, tt))
    (record {
      letter-is = r.letter-is;
      entries = ((number-entry text (i * 12 + 1) first).0 r.first-is, ((number-entry text (i * 12 + 6) second).0 r.second_is, tt));
      end = r.end_is;
    })
    ∙ ap (λ (k : ℕ). chart_line letter first second ++ drop k text) next

-- and the bytes of a line, behind the lines before it, read so
pub bytes_read : (text before rest : List ℕ) (i letter first second : ℕ) → first ≤ 99999 → second ≤ 99999 → length before ≡ i * 12 →
    text ≡ before ++ (chart_line letter first second ++ rest) → Reads text i letter first (Number second)
unfolding letter_at first_at second_at end_at FieldsRead AllWritable Writable
bytes_read text before rest i letter first second f s l e =
    let r = subst (λ (t : List ℕ). LineReads t (i * 12) letter (Of first ∷ Of second ∷ [])) (sym e) (line_reads before rest (i * 12) letter (Of first ∷ Of second ∷ []) l (f, (s, tt))) in
    record {
      letter-is = r.letter-is;
      first-is = (number-entry text (i * 12 + 1) first).1 r.entries.0;
      second_is = (number-entry text (i * 12 + 6) second).1 r.entries.1.0;
      end_is = r.end;
    }
