-- Columns that agree below n have the same numbers on the first line, and no two first lines have them.
use Rattle.std.specs.Prelude.{ℕ, zero, suc, ◌≡◌, refl, Bool, not, ◌&&◌}
use Rattle.std.proofs.Common.{arith, ap, ap₂, ◌∙◌}
use Rattle.search.specs.Below.{count_same, some_same}
use Rattle.game.specs.Value.{Value, ever, value_eq}
use Rattle.game.specs.FirstLine.{first_of_pair, pair_count, higher, highest, ever_count}
use Rattle.rows.specs.Numbers.{number_of, Agree}
use Rattle.rows.specs.FirstLine.{FirstLineIs, first_line_of}
use Rattle.rows.specs.declared.FirstLine.{FirstLine}

pairs-same : (f g s t : ℕ → Value) (n : ℕ) → Agree n f g → Agree n s t → pair_count f s n ≡ pair_count g t n
unfolding pair_count first_of_pair
pairs-same f g s t n h k =
    count_same (first_of_pair f s) (first_of_pair g t) n
    (λ v l.
    ap₂ (λ (b c : Bool). not b && not c) (ap (λ (x : Value). value_eq x ever) (h v l))
    (some_same (λ u. value_eq (f u) (f v) && value_eq (s u) (s v)) (λ u. value_eq (g u) (g v) && value_eq (t u) (t v)) v
    (λ u m. rw (h u (omega arith), h v l, k u (omega arith), k v l))))

highest-same : (f g : ℕ → Value) (n : ℕ) → Agree n f g → highest f n ≡ highest g n
unfolding highest
highest-same f g zero h = refl
highest-same f g (suc n) h = ap₂ higher (highest-same f g n (λ v l. h v (omega arith))) (h n (omega arith))

evers-same : (f g : ℕ → Value) (n : ℕ) → Agree n f g → ever_count f n ≡ ever_count g n
unfolding ever_count
evers-same f g n h = count_same (λ v. value_eq (f v) ever) (λ v. value_eq (g v) ever) n (λ v l. rw (h v l))

pub first-line-same : {n : ℕ} {f g s t : ℕ → Value} {r : FirstLine} → Agree n f g → Agree n s t → FirstLineIs n f s r → FirstLineIs n g t r
first-line-same {n} {f} {g} {s} {t} h k is =
    record {
      rounds = is.rounds ∙ pairs-same f g s t n h k;
      highest-value = is.highest-value ∙ ap number_of (highest-same f g n h);
      evers = is.evers ∙ evers-same f g n h;
    }

-- no other numbers are
pub first-line-is : (n : ℕ) (value step : ℕ → Value) (r : FirstLine) → FirstLineIs n value step r → r ≡ first_line_of n value step
unfolding first_line_of
first-line-is n value step r is = λ i. record { rounds = is.rounds i; highest = is.highest-value i; evers = is.evers i }
