-- Comparing over a chart's rows is Comparing in the arena: the row of worths holds the arena's, and rows that are equal have the same
-- first difference.
use Rattle.std.specs.Prelude.{ℕ, ◌<◌, ◌≡◌, refl, Bool, true, false, List, eqb, ⊤, Option, Some, None, Result, Ok, Err}
use Rattle.verdict.specs.declared.FoundFault.{FoundFault}
use Rattle.verdict.specs.Verdict.{fault_of}
use Rattle.comparing.specs.declared.Difference.{Difference}
use Rattle.comparing.specs.Comparing.{difference_of}
use Rattle.std.proofs.Common.{arith, sym, ap, ◌∙◌}
use Rattle.rows.specs.Numbers.{number_at}
use Rattle.rows.specs.Rows.{RowsOf}
use Rattle.game.specs.Arena.{Arena}
use Rattle.weighing.specs.Weighing.{RowsWeighed}
use Rattle.checking.specs.Checking.{FormedIs}
use Rattle.comparing.specs.Comparing.{value_number, worth_number, first_difference, FormedCompared, compared_verdict, compared_formed}
use Rattle.search.proofs.FirstLaws.{first-same}
use Rattle.refusal.specs.declared.Refusal.{Refusal}
use Rattle.refusal.specs.declared.Refusal.TheVariants.{Choice, Fault}

-- rows that are equal at each position have the same first difference
pub difference-same : (f g f' g' : ℕ → ℕ) (n : ℕ) → ((v : ℕ) → v < n → f v ≡ f' v) → ((v : ℕ) → v < n → g v ≡ g' v) → first_difference f g n ≡ first_difference f' g' n
difference-same f g f' g' n p q =
    first-same (λ v. eqb (f v) (g v)) (λ v. eqb (f' v) (g' v)) (λ v. Ok (Some (difference_of v (f v) (g v)))) (λ v. Ok (Some (difference_of v (f' v) (g' v)))) (Ok None) n 0
    (λ v l h. let k : v < n = omega arith in (rw (p v k, q v k), rw (p v k, q v k)))

module _ {n m : ℕ} {owners marks costs froms tos plate choices worths worths' : List ℕ} {b : Bool}
    (weighing : RowsWeighed n m owners marks costs froms tos choices worths worths' b) where
  pub unlawful-compared : b ≡ false → FormedCompared n m owners marks costs froms tos plate choices (Err Choice)
  unfolding compared_formed
  unlawful-compared e = record { answer = λ a d. rw (d.positions, ← weighing.answer a d, e) }

  module _ (lawful : b ≡ true) {r : Result ⊤ FoundFault} (verdict : FormedIs n m owners marks costs froms tos plate r) where
    -- by the verdict
    judged : {v : Result ⊤ FoundFault} {s : Result (Option Difference) Refusal} → r ≡ v → ((a : Arena) → RowsOf a n m owners marks costs froms tos → s ≡ compared_verdict a plate choices v)
        → FormedCompared n m owners marks costs froms tos plate choices s
    unfolding compared_formed
    judged e is =
        record { answer = λ a d. is a d ∙ rw (d.positions, ← weighing.answer a d, lawful) (ap (compared_verdict a plate choices) (sym e ∙ verdict.verdict a d)) }

    pub faulty-compared : {v c : ℕ} → r ≡ Err (fault_of v c) → FormedCompared n m owners marks costs froms tos plate choices (Err (Fault v c))
    unfolding compared_verdict
    faulty-compared e = judged e (λ a d. refl)

    pub sound-compared : {s : Result (Option Difference) Refusal} → r ≡ Ok tt → s ≡ first_difference (value_number plate) (number_at worths') n → FormedCompared n m owners marks costs froms tos plate choices s
    unfolding compared_verdict
    sound-compared e is =
        judged e
        (λ a d.
        is ∙ difference-same (value_number plate) (number_at worths') (value_number plate) (worth_number a choices) n (λ v l. refl) (λ v l. (weighing.taken a d lawful).row.row v l)
        ∙ rw d.positions)
