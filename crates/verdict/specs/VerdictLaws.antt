-- The search for the first fault, of which `First` has the laws: a position passes where its fault is 0.
use Rattle.std.specs.Prelude.{ℕ, ◌<◌, ◌≡◌, ◌⊎◌, Bool, eqb, ⊤, Result, Err}
use Rattle.verdict.specs.declared.FoundFault.{FoundFault}
use Rattle.verdict.specs.Verdict.{fault_of}
use Rattle.std.proofs.Common.{arith, sym, ◌∙◌}
use Rattle.std.proofs.Math.Path.{ap}
use Rattle.std.proofs.Math.Logic.{⊎_map}
use borrow.Author.Tests.{eq-eqb, ne_eqb, eqb-true, eqb-false}
use Rattle.search.proofs.FirstLaws.{first-none, first-at, first_or_none, first-same}
use Rattle.verdict.specs.Verdict.{first_fault}

-- faults that agree have the same first one
pub same_first : (f g : ℕ → ℕ) (end : Result ⊤ FoundFault) (n : ℕ) → ((u : ℕ) → u < n → f u ≡ g u) → first_fault f end n ≡ first_fault g end n
unfolding first_fault
same_first f g end n same =
    first-same (λ v. eqb (f v) 0) (λ v. eqb (g v) 0) (λ v. Err (fault_of v (f v))) (λ v. Err (fault_of v (g v))) end n 0
    (λ j l h. let e = same j (omega arith) in (ap (λ (x : ℕ). eqb x 0) e, ap (λ (c : ℕ). Err (fault_of j c)) e))

module _ (fault : ℕ → ℕ) (end : Result ⊤ FoundFault) (n : ℕ) where
  abbrev passes : ℕ → Bool
  passes v = eqb (fault v) 0

  pub no-fault : ((u : ℕ) → u < n → fault u ≡ 0) → first_fault fault end n ≡ end
  unfolding first_fault
  no-fault clean = first-none passes (λ v. Err (fault_of v (fault v))) end n 0 (λ k l h. eq-eqb (fault k) 0 (clean k (omega arith)))

  pub first-fault : (v c : ℕ) → v < n → ((u : ℕ) → u < v → fault u ≡ 0) → fault v ≡ c → (c ≡ 0 → ⊥) → first_fault fault end n ≡ Err (fault_of v c)
  unfolding first_fault
  first-fault v c inside clean is wrong =
      first-at passes (λ v. Err (fault_of v (fault v))) end n 0 v
      (record { low = omega arith; high = omega arith; fails = ne_eqb (fault v) 0 (λ z. wrong (sym is ∙ z)); passed = λ k l h. eq-eqb (fault k) 0 (clean k h) })
      ∙ ap (λ (c : ℕ). Err (fault_of v c)) is

  -- there is a first fault, or none
  pub fault-or-none : ((u : ℕ) → u < n → fault u ≡ 0) ⊎ ((v : ℕ) × (v < n) × ((u : ℕ) → u < v → fault u ≡ 0) × (fault v ≡ 0 → ⊥))
  fault-or-none =
      ⊎_map (λ all u l. eqb-true (fault u) 0 (all u (omega arith) (omega arith)))
      (λ (v, w). (v, omega (arith, w.high), λ u l. eqb-true (fault u) 0 (w.passed u (omega arith) l), eqb-false (fault v) 0 w.fails))
      (first_or_none passes n 0)
