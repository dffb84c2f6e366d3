-- a plate's rows are sound exactly when they have the certificate and the header's numbers are those of the lines; else
-- the answer is exactly the first fault, "positions from 0 up and in each the conditions in order".
use Rattle.std.specs.Prelude.{ℕ, zero, suc, ◌<◌, ◌≡◌, refl, ◌⊎◌, ◌↔◌, Bool, not, ◌&&◌, eqb, ⊤, Result, Ok, Err}
use Rattle.verdict.specs.declared.FoundFault.{FoundFault}
use Rattle.verdict.specs.Verdict.{fault_of}
use Rattle.std.proofs.Common.{arith, sym, ◌∙◌, inl, inr, eqb→eq, eq-eqb}
use Rattle.std.proofs.Math.Path.{subst}
use Rattle.std.proofs.Math.Logic.{⊎_elim}
use Rattle.std.proofs.Math.Dec.{T, T_not}
use Rattle.rows.specs.Numbers.{number_of}
use Rattle.rows.specs.FirstLine.{FirstLineIs}
use Rattle.game.specs.Value.{Value}
use Rattle.game.specs.Arena.{Arena, size}
use Rattle.game.specs.Certificate.{Certificate}
use Rattle.game.specs.Fault.{fault_at}
use Rattle.game.proofs.FaultLaws.{fault-exactly, no-fault-exactly}
use Rattle.game.proofs.MoveTests.{and_left, and_right, and_both, is_true, is_false, passes-or-fails}
use Rattle.game.specs.FirstLine.{pair_count, highest, ever_count}
use Rattle.rows.specs.declared.FirstLine.{FirstLine}
use Rattle.verdict.specs.Verdict.{FirstFaultIs, at_header, at_position, first_fault, header_right, header_verdict, verdict_of}
use Rattle.verdict.specs.VerdictLaws.{fault-or-none, first-fault, no-fault}

-- the test of the header is its record
pub header-test : (n : ℕ) (value step : ℕ → Value) (h : FirstLine) → T (header_right n value step h) ↔ FirstLineIs n value step h
unfolding header_right
header-test n value step h = (
  λ t. record {
    rounds = eqb→eq h.rounds (pair_count value step n) (and_left p q (and_left (p && q) r t));
    highest-value = eqb→eq h.highest (number_of (highest value n)) (and_right p q (and_left (p && q) r t));
    evers = eqb→eq h.evers (ever_count value n) (and_right (p && q) r t);
  },
  λ is. and_both (p && q) r (and_both p q (same is.rounds) (same is.highest-value)) (same is.evers),
)
  where
    p : Bool
    p = eqb h.rounds (pair_count value step n)

    q : Bool
    q = eqb h.highest (number_of (highest value n))

    r : Bool
    r = eqb h.evers (ever_count value n)

    same : {x y : ℕ} → x ≡ y → T (eqb x y)
    same {x} {y} e = subst T (sym (eq-eqb x y e)) tt

module _ (a : Arena) (value choice step : ℕ → Value) (h : FirstLine) where
  abbrev fault : ℕ → ℕ
  fault = fault_at a value choice step

  abbrev end : Result ⊤ FoundFault
  end = header_verdict (size a) value step h

  header-sound : FirstLineIs (size a) value step h → end ≡ Ok tt
  unfolding header_verdict
  header-sound is = rw (is_true (header_right (size a) value step h) ((header-test (size a) value step h).1 is))

  header-faulty : (FirstLineIs (size a) value step h → ⊥) → end ≡ Err (fault_of (size a) 6)
  unfolding header_verdict
  header-faulty wrong = go (passes-or-fails (header_right (size a) value step h))
    where
      go : T (header_right (size a) value step h) ⊎ T (not (header_right (size a) value step h)) → end ≡ Err (fault_of (size a) 6)
      go (inl t) = absurd (wrong ((header-test (size a) value step h).0 t))
      go (inr f) = rw (is_false (header_right (size a) value step h) f)

  -- the answer is one of these
  Answer : Result ⊤ FoundFault → Type 0
  Answer (Ok _) = Certificate a value choice step × FirstLineIs (size a) value step h
  Answer (Err f) = FirstFaultIs a value choice step h f.position f.condition

  certified : ((u : ℕ) → u < size a → fault u ≡ 0) → Certificate a value choice step
  certified clean u l = (no-fault-exactly a value choice step u).0 (clean u l)

  answered : Answer (verdict_of a value choice step h)
  unfolding verdict_of Answer
  answered = ⊎_elim clean-case fault-case (fault-or-none fault end (size a))
    where
      clean-case : ((u : ℕ) → u < size a → fault u ≡ 0) → Answer (first_fault fault end (size a))
      clean-case clean = go (passes-or-fails (header_right (size a) value step h))
        where
          go : T (header_right (size a) value step h) ⊎ T (not (header_right (size a) value step h)) → Answer (first_fault fault end (size a))
          go (inl t) =
              let is = (header-test (size a) value step h).0 t in
              subst Answer (sym (no-fault fault end (size a) clean ∙ header-sound is)) (certified clean, is)
          go (inr f) =
              let wrong : FirstLineIs (size a) value step h → ⊥ = λ is. T_not (header_right (size a) value step h) f ((header-test (size a) value step h).1 is) in
              subst Answer (sym (no-fault fault end (size a) clean ∙ header-faulty wrong)) (at_header (certified clean) wrong)

      fault-case : ((v : ℕ) × (v < size a) × ((u : ℕ) → u < v → fault u ≡ 0) × (fault v ≡ 0 → ⊥)) → Answer (first_fault fault end (size a))
      fault-case (v, inside, clean, wrong) = go (fault v) refl
        where
          go : (c : ℕ) → fault v ≡ c → Answer (first_fault fault end (size a))
          go zero e = absurd (wrong e)
          go (suc c) e =
              subst Answer (sym (first-fault fault end (size a) v (suc c) inside clean e (λ z. omega arith)))
              (at_position inside (λ u l. (no-fault-exactly a value choice step u).0 (clean u l)) ((fault-exactly a value choice step v (suc c)).0 e))

  -- accepted exactly when the certificate holds and the header's numbers are those of the lines
  pub sound-exactly : (verdict_of a value choice step h ≡ Ok tt) ↔ (Certificate a value choice step × FirstLineIs (size a) value step h)
  unfolding verdict_of Answer
  sound-exactly = (
    λ e. subst Answer e answered,
    λ is. no-fault fault end (size a) (λ u l. (no-fault-exactly a value choice step u).1 (is.0 u l)) ∙ header-sound is.1,
  )

  -- else exactly the first fault
  pub first-fault-exactly : (v c : ℕ) → (verdict_of a value choice step h ≡ Err (fault_of v c)) ↔ FirstFaultIs a value choice step h v c
  unfolding verdict_of Answer
  first-fault-exactly v c = (λ e. subst Answer e answered, from)
    where
      from : {v c : ℕ} → FirstFaultIs a value choice step h v c → first_fault fault end (size a) ≡ Err (fault_of v c)
      from (at_position {v} {c} inside clean first) =
          first-fault fault end (size a) v (suc c) inside (λ u l. (no-fault-exactly a value choice step u).1 (clean u l)) ((fault-exactly a value choice step v (suc c)).1 first) (λ z. omega arith)
      from (at_header certificate wrong) =
          no-fault fault end (size a) (λ u l. (no-fault-exactly a value choice step u).1 (certificate u l)) ∙ header-faulty wrong
