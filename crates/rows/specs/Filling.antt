-- Laws of a row that a loop fills from the front, one number a turn.
use Rattle.std.specs.Prelude.{ℕ, ◌+◌, ◌≤◌, ◌<◌, ◌≡◌, refl, Bool, true, false, cond, List, length, get_or, set, replicate}
use Rattle.std.proofs.Common.{le_refl, arith, sym, ◌∙◌, subst, length-set, get_or-set_same, get_or-set_other, ext_get_or, below_more}
use Rattle.std.proofs.Math.Decide.{dec_le}
use Rattle.std.proofs.lemmas.List.{get_or-replicate}
use Rattle.rows.specs.Rows.{RowIs, Filled, Kept, Stays}

pub filled_none : (l : List ℕ) (f : ℕ → ℕ) → Filled l l 0 f
filled_none l f = record { row = λ k h. absurd (omega arith); rest = λ k h. refl; same_length = refl }

pub filled_more : (old new : List ℕ) (k x : ℕ) (f : ℕ → ℕ) → Filled old new k f → k < length old → x ≡ f k → Filled old (set new k x) (k + 1) f
filled_more old new k x f w h e = record {
  row =
      below_more (λ (j : ℕ). get_or (set new k x) j 0 ≡ f j) k
      (λ j l. get_or-set_other new k j x 0 (λ p. omega arith) ∙ w.row j l)
      (get_or-set_same new k x 0 (subst (λ (n : ℕ). k < n) (sym w.same_length) h) ∙ e);
  rest = λ j l. get_or-set_other new k j x 0 (λ p. omega arith) ∙ w.rest j (omega arith);
  same_length = length-set new k x ∙ w.same_length;
}

-- the same row by another count and another function
pub filled-same : (old new : List ℕ) (count total : ℕ) (f g : ℕ → ℕ) → count ≡ total → ((k : ℕ) → k < count → f k ≡ g k) → Filled old new count f → Filled old new total g
filled-same old new count total f g e h w = record {
  row = λ k l. let m : k < count = omega arith in w.row k m ∙ h k m;
  rest = λ k l. w.rest k (omega arith);
  same_length = w.same_length;
}

-- the count, the function and what was there before settle the row
pub filled-unique : {old new other : List ℕ} {count : ℕ} {f : ℕ → ℕ} → Filled old new count f → Filled old other count f → new ≡ other
filled-unique {old} {new} {other} {count} {f} w x =
    ext_get_or 0 new other (w.same_length ∙ sym x.same_length) (λ k h. go k (dec_le (k + 1) count))
  where
    go : (k : ℕ) → Dec (k + 1 ≤ count) → get_or new k 0 ≡ get_or other k 0
    go k (yes l) = w.row k (omega arith) ∙ sym (x.row k (omega arith))
    go k (no l) = w.rest k (omega arith) ∙ sym (x.rest k (omega arith))

-- a row that is only looked at, one filled up to some place, and one filled after it was touched
pub kept_same : (count : ℕ) (row : List ℕ) → Kept count row row
kept_same count row = record { rest = λ j l. refl; same_length = refl }

pub filled-kept : {i count : ℕ} {f : ℕ → ℕ} {old new : List ℕ} → i ≤ count → Filled old new i f → Kept count old new
filled-kept h w = record { rest = λ j l. w.rest j (omega arith); same_length = w.same_length }

pub filled-after : {count : ℕ} {f : ℕ → ℕ} {old touched new : List ℕ} → Kept count old touched → Filled touched new count f → Filled old new count f
filled-after w h = record { row = h.row; rest = λ j l. h.rest j l ∙ w.rest j l; same_length = h.same_length ∙ w.same_length }

-- the row with x at v, if the test passes
abbrev pub set_if : Bool → ℕ → ℕ → List ℕ → List ℕ
set_if true v x row = set row v x
set_if false v x row = row

pub length-set_if : (b : Bool) (v x : ℕ) (row : List ℕ) → length (set_if b v x row) ≡ length row
length-set_if true v x row = length-set row v x
length-set_if false v x row = refl

pub set_if-stays : (b : Bool) (n v x : ℕ) (row : List ℕ) → v < n → Stays n row (set_if b v x row)
set_if-stays true n v x row l j k = get_or-set_other row v j x 0 (λ e. omega arith)
set_if-stays false n v x row l j k = refl

-- a turn: the number is stored, or was right already
pub filled_next : {i : ℕ} {f : ℕ → ℕ} {before after : List ℕ} → Filled before after i f → (b : Bool) (x : ℕ) → i < length after
    → f i ≡ cond b x (get_or before i 0) → Filled before (set_if b i x after) (i + 1) f
filled_next {i} {f} {before} {after} h true x l e = filled_more before after i x f h (subst (λ (k : ℕ). i < k) h.same_length l) (sym e)
filled_next {i} {f} {before} {after} h false x l e =
    record {
      row = below_more (λ (j : ℕ). get_or after j 0 ≡ f j) i h.row (h.rest i (le_refl i) ∙ sym e);
      rest = λ j m. h.rest j (omega arith);
      same_length = h.same_length;
    }

-- a fresh row
pub row-replicate : {n : ℕ} (count x : ℕ) → n ≤ count → RowIs (replicate count x) n (λ v. x)
row-replicate count x l v m = get_or-replicate count v x 0 (omega arith)
