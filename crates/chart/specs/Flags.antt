-- Laws of the row of flags by which the positions without a meant move are found.
use Rattle.std.specs.Prelude.{ℕ, zero, suc, ◌+◌, ◌-◌, ◌≤◌, ◌<◌, ◌≡◌, refl, Bool, true, false, cond, List, length, get_or, set, replicate, ltb, eqb, Ok, Err}
use Rattle.std.proofs.Common.{arith, add-one, sym, ap, ◌∙◌, subst, get_or-set_same, get_or-set_other, ltb-true, ltb-false, eqb-true}
use Rattle.std.proofs.lemmas.Bool.{eqb-false}
use Rattle.chart.specs.Text.{letter_at}
use Rattle.chart.specs.Examined.{meant_line, is_clean, first_fault, meant_in, missing_at, unflagged_at}
use Rattle.search.proofs.FirstLaws.{first-same}
use Rattle.refusal.specs.declared.Misdrawn.TheVariants.{NoMeant}

-- a flag that is set at `from`
pub flag-set : (flags : List ℕ) (from v : ℕ) → from < length flags → get_or (set flags from 1) v 0 ≡ cond (eqb from v) 1 (get_or flags v 0)
flag-set flags from v h = go (eqb from v) refl
  where
    go : (b : Bool) → eqb from v ≡ b → get_or (set flags from 1) v 0 ≡ cond b 1 (get_or flags v 0)
    go true e = subst (λ (w : ℕ). get_or (set flags from 1) w 0 ≡ 1) (eqb-true from v e) (get_or-set_same flags from 1 0 h)
    go false e = get_or-set_other flags from v 1 0 (λ p. eqb-false from v e (sym p))

-- one more line
pub flag-more : (text : List ℕ) (n k v old : ℕ) → cond (meant_line text (n + 1 + k) v) 1 (cond (meant_in text n k v) 1 old) ≡ cond (meant_in text n (k + 1) v) 1 old
unfolding meant_in
flag-more text n k v old = rw (add-one k) (both (meant_line text (n + 1 + k) v) (meant_in text n k v))
  where
    both : (a b : Bool) → cond a 1 (cond b 1 old) ≡ cond (cond b true a) 1 old
    both true true = refl
    both true false = refl
    both false true = refl
    both false false = refl

-- the same by the line, where the first n are no moves
pub flag-next : (text : List ℕ) (n line v old : ℕ) → 1 ≤ line → cond (cond (ltb n line) (meant_line text line v) false) 1 (cond (meant_in text n (line - 1 - n) v) 1 old) ≡ cond (meant_in text n (line + 1 - 1 - n) v) 1 old
flag-next text n line v old h = go (ltb n line) refl
  where
    go : (b : Bool) → ltb n line ≡ b → cond (cond b (meant_line text line v) false) 1 (cond (meant_in text n (line - 1 - n) v) 1 old) ≡ cond (meant_in text n (line + 1 - 1 - n) v) 1 old
    go true e =
        let l : n < line = ltb-true n line e in
        let p : line ≡ n + 1 + (line - 1 - n) = omega arith in
        let q : line + 1 - 1 - n ≡ line - 1 - n + 1 = omega arith in
        ap (λ (i : ℕ). cond (meant_line text i v) 1 (cond (meant_in text n (line - 1 - n) v) 1 old)) p
        ∙ flag-more text n (line - 1 - n) v old
        ∙ ap (λ (k : ℕ). cond (meant_in text n k v) 1 old) (sym q)
    go false e =
        let l : line ≤ n = ltb-false n line e in
        let q : line - 1 - n ≡ line + 1 - 1 - n = omega arith in
        ap (λ (k : ℕ). cond (meant_in text n k v) 1 old) q

-- where the flags were 0, the unflagged positions that are no `R` are those without a meant move that are none
pub flags-tell : (text flags : List ℕ) (n m v : ℕ) → get_or flags v 0 ≡ cond (meant_in text n m v) 1 0 → unflagged_at text flags v ≡ missing_at text n m v
unfolding unflagged_at missing_at
flags-tell text flags n m v e = rw e (both (meant_in text n m v) (eqb (letter_at text (v + 1)) 82))
  where
    both : (b r : Bool) → cond (eqb (cond b 1 0) 0) (cond r (Ok (tt {0})) (Err (NoMeant (v + 1)))) (Ok tt) ≡ cond r (Ok tt) (cond b (Ok tt) (Err (NoMeant (v + 1))))
    both true true = refl
    both true false = refl
    both false true = refl
    both false false = refl

pub zeros : (count v : ℕ) → get_or {A = ℕ} (replicate count 0) v 0 ≡ 0
zeros zero v = refl
zeros (suc count) zero = refl
zeros (suc count) (suc v) = zeros count v

-- so the first of them is the same
pub flags-first : (text flags : List ℕ) (n m : ℕ) → ((v : ℕ) → v < n → get_or flags v 0 ≡ cond (meant_in text n m v) 1 0) → first_fault (unflagged_at text flags) n 0 ≡ first_fault (missing_at text n m) n 0
flags-first text flags n m h = first-same _ _ (unflagged_at text flags) (missing_at text n m) (Ok tt) n 0 (λ j l k. let e = flags-tell text flags n m j (h j (omega arith)) in (ap is_clean e, e))
