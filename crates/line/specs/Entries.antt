-- Reading and writing an entry are each other's inverse: five bytes read as a number, as `-` or as `ever` exactly when they
-- are its bytes. Numbers go by the field's law; the two words are no numbers, and are compared byte by byte.
use Rattle.std.specs.Prelude.{ℕ, ◌+◌, ◌≤◌, ◌≡◌, refl, ◌↔◌, Bool, true, false, cond, List, [], ◌∷◌, ◌++◌, length, take, drop, eqb}
use Rattle.std.proofs.Common.{arith, sym, ap, ap₂, ◌∙◌, subst, length-append, take_at, drop_at, eqb-true}
use Rattle.field.specs.Text.{field_of, field_at, scan, stepped, digit_after, ended, five, blank_text, number_text}
use Rattle.field.specs.Laws.{field-exact, number-reads, blank-reads, number-text-length, five-splits}
use Rattle.field.specs.declared.Field.{Field}
use Rattle.field.specs.declared.Field.TheVariants.{Number as Digits, Blank, Bad as Wrong}
use Rattle.line.specs.Text.{dash_text, ever_text, entry_text, same_text, word_of, or_word, entry_of, entry_at}
use Rattle.line.specs.declared.Entry.{Entry}
use Rattle.line.specs.declared.Entry.TheVariants.{Number, Dash, Ever, Bad}

-- an entry that has a text of its own: not bad, and a number of at most five digits
unfoldable pub Writable : Entry → Type 0
Writable (Number x) = x ≤ 99999
Writable Dash = Unit {0}
Writable Ever = Unit {0}
Writable Bad = ⊥

pub entry-text-length : (e : Entry) → length (entry_text e) ≡ 5
unfolding entry_text dash_text ever_text blank_text
entry-text-length (Number x) = number-text-length x
entry-text-length Dash = refl
entry-text-length Ever = refl
entry-text-length Bad = refl

same_text_lem : (xs ys : List ℕ) → same_text xs ys ≡ true → xs ≡ ys
unfolding same_text
same_text_lem [] [] e = refl
same_text_lem [] (y ∷ ys) e = let z : ◌≡◌ {A = ℕ} 0 1 = cc in absurd (omega arith)
same_text_lem (x ∷ xs) [] e = let z : ◌≡◌ {A = ℕ} 0 1 = cc in absurd (omega arith)
same_text_lem (x ∷ xs) (y ∷ ys) e = go (eqb x y) refl (same_text_lem xs ys)
  where
    go : (b : Bool) → eqb x y ≡ b → (same_text xs ys ≡ true → xs ≡ ys) → x ∷ xs ≡ y ∷ ys
    go true p rest = let head = eqb-true x y p in let tail = rest (simp p at e) in cc
    go false p rest = let bad : false ≡ true = simp p at e in let z : ◌≡◌ {A = ℕ} 0 1 = cc in absurd (omega arith)

-- the bytes of an entry read as it
pub written-entry-reads : (e : Entry) → Writable e → entry_of (entry_text e) ≡ e
unfolding Writable entry_of entry_text or_word word_of same_text dash_text ever_text field_of scan stepped digit_after ended
written-entry-reads (Number x) h = ap (or_word (number_text x)) (number-reads x h)
written-entry-reads Dash h = refl
written-entry-reads Ever h = refl
written-entry-reads Bad h = absurd h

-- a blank is no entry
pub blank-is-bad : (text : List ℕ) (at : ℕ) → five text at ≡ blank_text → entry_at text at ≡ Bad
unfolding entry_at entry_of or_word
blank-is-bad text at e = ap entry_of e ∙ ap (or_word blank_text) blank-reads

-- an entry that is not bad is read from its bytes only
pub read-entry-stands : (bytes : List ℕ) (e : Entry) → length bytes ≡ 5 → (e ≡ Bad → ⊥) → entry_of bytes ≡ e → (bytes ≡ entry_text e) × Writable e
unfolding entry_of or_word word_of entry_text Writable
read-entry-stands bytes e l good q = go (field_of bytes) refl (same_text bytes dash_text) (same_text bytes ever_text) refl refl
  where
    is : (x : Entry) → entry_of bytes ≡ x → (bytes ≡ entry_text x) × Writable x → (bytes ≡ entry_text e) × Writable e
    is x r w = subst (λ (y : Entry). (bytes ≡ entry_text y) × Writable y) (sym r ∙ q) w

    go : (f : Field) → field_of bytes ≡ f → (a b : Bool) → same_text bytes dash_text ≡ a → same_text bytes ever_text ≡ b → (bytes ≡ entry_text e) × Writable e
    go (Digits x) p a b s t = is (Number x) (simp p) ((field-exact bytes x l).0 p)
    go Blank p a b s t = let bad : entry_of bytes ≡ Bad = simp p in absurd (good (sym q ∙ bad))
    go Wrong p true b s t = is Dash (simp (p, s)) (same_text_lem bytes dash_text s, tt)
    go Wrong p false true s t = is Ever (simp (p, s, t)) (same_text_lem bytes ever_text t, tt)
    go Wrong p false false s t = let bad : entry_of bytes ≡ Bad = simp (p, s, t) in absurd (good (sym q ∙ bad))

-- five bytes read as a number, `-` or `ever` exactly when they are the bytes that writing it makes
pub entry-exact : (bytes : List ℕ) (e : Entry) → length bytes ≡ 5 → (e ≡ Bad → ⊥) → entry_of bytes ≡ e ↔ (bytes ≡ entry_text e) × Writable e
entry-exact bytes e l good = (read-entry-stands bytes e l good, λ w. ap entry_of w.0 ∙ written-entry-reads e w.1)

-- Entries within a text

-- the entry at `at` is the bytes there
pub entry-stands : (text : List ℕ) (at next : ℕ) (e : Entry) → at + 5 ≡ next → next ≤ length text → (e ≡ Bad → ⊥) → entry_at text at ≡ e → drop at text ≡ entry_text e ++ drop next text
unfolding entry_at five
entry-stands text at next e n h good q =
    five-splits text at (omega arith)
    ∙ ap₂ (λ (l : List ℕ) (k : ℕ). l ++ drop k text) (read-entry-stands (five text at) e refl good q).0 n

-- the five bytes behind p
pub five-behind : (p vs rest : List ℕ) (at : ℕ) → length p ≡ at → length vs ≡ 5 → five (p ++ (vs ++ rest)) at ≡ vs
unfolding five
five-behind p vs rest at l k =
    let h : at + 5 ≤ length (p ++ (vs ++ rest)) = simp length-append (omega arith) in
    ap (take 5) (sym (five-splits (p ++ (vs ++ rest)) at h) ∙ drop_at p (vs ++ rest) at l) ∙ take_at vs rest 5 k

-- an entry behind p is read
pub entry-behind : (p rest : List ℕ) (at : ℕ) (e : Entry) → length p ≡ at → Writable e → entry_at (p ++ (entry_text e ++ rest)) at ≡ e
unfolding entry_at
entry-behind p rest at e l w = ap entry_of (five-behind p (entry_text e) rest at l (entry-text-length e)) ∙ written-entry-reads e w

word-is-no-number : (a b : Bool) (x : ℕ) → cond a Dash (cond b Ever Bad) ≡ Number x → ⊥
word-is-no-number true b x e = let z : ◌≡◌ {A = ℕ} 0 1 = cc in omega arith
word-is-no-number false true x e = let z : ◌≡◌ {A = ℕ} 0 1 = cc in omega arith
word-is-no-number false false x e = let z : ◌≡◌ {A = ℕ} 0 1 = cc in omega arith

-- a number read by its field is that entry, and no other field is
pub number-entry : (text : List ℕ) (at x : ℕ) → field_at text at ≡ Digits x ↔ entry_at text at ≡ Number x
unfolding field_at entry_at entry_of or_word word_of
number-entry text at x = ((λ e. ap (or_word (five text at)) e), back (field_of (five text at)))
  where
    back : (f : Field) → or_word (five text at) f ≡ Number x → f ≡ Digits x
    back (Digits y) e = let same : y ≡ x = cc in ap Digits same
    back Blank e = let z : ◌≡◌ {A = ℕ} 0 1 = cc in absurd (omega arith)
    back Wrong e = absurd (word-is-no-number (same_text (five text at) dash_text) (same_text (five text at) ever_text) x e)
