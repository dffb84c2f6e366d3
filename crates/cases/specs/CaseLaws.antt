-- A case's places are in order and within the input, wherever the case is looked for and whatever its fields say.
use Rattle.std.specs.Prelude.{ℕ, ◌+◌, ◌-◌, ◌<◌, ◌≤◌, ◌≡◌, refl, Bool, true, false, cond, List, length, ltb}
use Rattle.std.proofs.Common.{arith, le-ltb, lt-ltb, ltb-false}
use Rattle.field.specs.Text.{field_at}
use Rattle.cases.specs.Cases.{after, case_at, end_at, first_at, length_in, no_case, second_at, third_at, whole_case}
use Rattle.cases.specs.declared.Case.{Case}

pub record Ordered (size : ℕ) (c : Case) : Type 0 where
  pub first : c.name ≤ c.first
  pub second : c.first ≤ c.second
  pub third : c.second ≤ c.third
  pub end : c.third ≤ c.end
  pub within : c.end ≤ size

pub after-within : (size from count : ℕ) → from ≤ size → (from ≤ after size from count) × (after size from count ≤ size)
unfolding after
after-within size from count h = go (ltb size (from + count)) refl
  where
    go : (b : Bool) → ltb size (from + count) ≡ b → (from ≤ cond b size (from + count)) × (cond b size (from + count) ≤ size)
    go true e = (omega arith, omega arith)
    go false e = (omega arith, omega (arith, ltb-false size (from + count) e))

pub after-fits : {r size from : ℕ} (count : ℕ) → r ≡ after size from count → from ≤ size → r ≤ size
after-fits {size = size} {from = from} count e h = omega (arith, e, (after-within size from count h).1)

-- the same by what is left of the input
pub after-end : (size from count : ℕ) → from ≤ size → size - from < count → size ≡ after size from count
unfolding after
after-end size from count h l = rw (lt-ltb size (from + count) (omega arith))

pub after_more : (size from count : ℕ) → from ≤ size → count ≤ size - from → from + count ≡ after size from count
unfolding after
after_more size from count h l = rw (le-ltb size (from + count) (omega arith))

-- a place without a whole line of lengths, and one with it
pub no-case : (input : List ℕ) (at : ℕ) → length input < at + 21 → no_case (length input) ≡ case_at input at
unfolding case_at
no-case input at l = rw (lt-ltb (length input) (at + 21) l)

pub whole-case : (input : List ℕ) (at : ℕ) → at + 21 ≤ length input → whole_case input at ≡ case_at input at
unfolding case_at
whole-case input at l = rw (le-ltb (length input) (at + 21) l)

pub case-ordered : (input : List ℕ) (at : ℕ) → Ordered (length input) (case_at input at)
unfolding case_at no_case whole_case first_at second_at third_at end_at
case-ordered input at = go (ltb (length input) (at + 21)) refl
  where
    go : (b : Bool) → ltb (length input) (at + 21) ≡ b → Ordered (length input) (cond b (no_case (length input)) (whole_case input at))
    go true e = record { first = omega arith; second = omega arith; third = omega arith; end = omega arith; within = omega arith }
    go false e =
        let w : (from count : ℕ) → from ≤ length input → (from ≤ after (length input) from count) × (after (length input) from count ≤ length input) = after-within (length input) in
        let a = w (at + 21) (length_in (field_at input at)) (ltb-false (length input) (at + 21) e) in
        let b = w (first_at input at) (length_in (field_at input (at + 5))) a.1 in
        let c = w (second_at input at) (length_in (field_at input (at + 10))) b.1 in
        let d = w (third_at input at) (length_in (field_at input (at + 15))) c.1 in
        record { first = a.0; second = b.0; third = c.0; end = d.0; within = d.1 }
