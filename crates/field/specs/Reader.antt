-- The cases in which `read` takes five bytes: spaces before the digits count as zeros, and all five are then digits. Each law
-- follows the definition of `scan` byte by byte.
use Rattle.std.specs.Prelude.{ℕ, ◌+◌, ◌-◌, ◌*◌, ◌≤◌, ◌<◌, ◌≡◌, refl, Bool, true, false, not, cond, List, [], ◌∷◌, ltb, leb, eqb}
use Rattle.std.proofs.Common.{arith, sym, ap, ◌∙◌, ltb-false, leb-true, leb-false, eqb-true, le-ltb, lt-ltb}
use Rattle.std.proofs.lemmas.Bool.{not-true, not-false}
use Rattle.field.specs.Text.{Scan, Digits, Wrong, digit_after, stepped, scan, ended, field_of}
use Rattle.field.specs.Laws.{wrong_stays}
use Rattle.field.specs.declared.Field.TheVariants.{Number, Blank, Bad}

false-true : ◌≡◌ {A = Bool} false true → ⊥
false-true e = let z : ◌≡◌ {A = ℕ} 0 1 = cc in omega arith

unfoldable pub is_digit : ℕ → Bool
is_digit b = cond (ltb b 48) false (leb b 57)

-- what the test of a digit tells, t its answer
pub digit-range : (b : ℕ) (t : Bool) → t ≡ is_digit b → not t ≡ false → (48 ≤ b) × (b ≤ 57)
unfolding is_digit
digit-range b t e f = go (ltb b 48) refl (sym e ∙ not-false t f)
  where
    go : (p : Bool) → ltb b 48 ≡ p → cond p false (leb b 57) ≡ true → (48 ≤ b) × (b ≤ 57)
    go true q h = absurd (false-true h)
    go false q h = (ltb-false b 48 q, leb-true b 57 h)

-- no other byte goes on with a number
other : (x b : ℕ) → is_digit b ≡ false → digit_after x b ≡ Wrong
unfolding digit_after is_digit
other x b = go (ltb 9999 x) (ltb b 48) refl refl
  where
    go : (p q : Bool) → ltb 9999 x ≡ p → ltb b 48 ≡ q → is_digit b ≡ false → digit_after x b ≡ Wrong
    go true q k g h = simp k
    go false true k g h = simp (k, g)
    go false false k g h =
        let high : 57 < b = leb-false b 57 (simp g at h) in
        simp (k, g, lt-ltb 57 b high)

pub stops : (x b : ℕ) (bs : List ℕ) (t : Bool) → t ≡ is_digit b → not t ≡ true → Bad ≡ ended (scan (Digits x) (b ∷ bs))
unfolding scan stepped ended
stops x b bs t e f = sym (ap ended (ap (λ (s : Scan). scan s bs) (other x b (sym e ∙ not-true t f)) ∙ wrong_stays bs))

-- a digit goes on with it
pub goes : (x most b : ℕ) (bs : List ℕ) → x ≤ most → most ≤ 9999 → (48 ≤ b) × (b ≤ 57) → (ended (scan (Digits (x * 10 + (b - 48))) bs) ≡ ended (scan (Digits x) (b ∷ bs))) × (x * 10 + (b - 48) ≤ most * 10 + 9)
unfolding scan stepped digit_after
goes x most b bs h k r =
    (simp (le-ltb 9999 x (omega arith), le-ltb b 48 r.0, le-ltb 57 b r.1), omega (arith, r.0, r.1))

pub starts : (b : ℕ) (bs : List ℕ) → (48 ≤ b) × (b ≤ 57) → (ended (scan (Digits (b - 48)) bs) ≡ ended (scan (Digits 0) (b ∷ bs))) × (b - 48 ≤ 9)
starts b bs r =
    let same : b - 48 ≡ 0 * 10 + (b - 48) = omega arith in
    (ap (λ (x : ℕ). ended (scan (Digits x) bs)) same ∙ (goes 0 0 b bs (omega arith) (omega arith) r).0, omega (arith, r.1))

pub spells : (x : ℕ) → Number x ≡ ended (scan (Digits x) [])
unfolding scan ended
spells x = refl

-- a zero before the digits adds nothing
pub zero-adds : (bs : List ℕ) → scan (Digits 0) (48 ∷ bs) ≡ scan (Digits 0) bs
unfolding scan stepped digit_after
zero-adds bs = refl

-- a space before the rest changes nothing
pub space : (b : ℕ) (bs : List ℕ) → b ≡ 32 → field_of (b ∷ bs) ≡ field_of bs
unfolding field_of scan stepped
space b bs e = rw e

pub blank : field_of [] ≡ Blank
unfolding field_of scan ended
blank = refl

-- the first byte that is no space, with bytes after it
pub lead : (b c : ℕ) (bs : List ℕ) → eqb b 32 ≡ false → field_of (b ∷ c ∷ bs) ≡ cond (eqb b 48) Bad (ended (scan (Digits 0) (b ∷ c ∷ bs)))
unfolding field_of scan stepped ended
lead b c bs h = go (eqb b 48) refl
  where
    go : (p : Bool) → eqb b 48 ≡ p → field_of (b ∷ c ∷ bs) ≡ cond p Bad (ended (scan (Digits 0) (b ∷ c ∷ bs)))
    go true e = simp (h, e) (ap ended (wrong_stays bs))
    go false e = simp (h, e)

-- the last byte after spaces
pub last : (b : ℕ) → eqb b 32 ≡ false → field_of (b ∷ []) ≡ ended (scan (Digits 0) (b ∷ []))
unfolding field_of scan stepped ended digit_after
last b h = go (eqb b 48) refl
  where
    go : (p : Bool) → eqb b 48 ≡ p → field_of (b ∷ []) ≡ ended (scan (Digits 0) (b ∷ []))
    go true e = rw (eqb-true b 48 e) refl
    go false e = simp (h, e)
