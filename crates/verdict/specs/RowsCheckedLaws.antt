-- The first fault of the rows, and then the header's test, is Checking's answer for every arena that the rows hold.
use Rattle.std.specs.Prelude.{ℕ, ◌<◌, refl, ◌⊎◌, Bool, cond, ◌&&◌, get_or, eqb, ⊤, Result, Ok, Err}
use Rattle.verdict.specs.declared.FoundFault.{FoundFault}
use Rattle.verdict.specs.Verdict.{fault_of}
use native.Mathlib.Omega.{arith}
use Rattle.std.proofs.Math.Path.{◌≡◌}
use Rattle.std.proofs.Common.{sym, ◌∙◌, inl, inr, ⊎_elim}
use Rattle.std.proofs.Math.Bool.{true, false, not}
use borrow.Author.Tests.{eq-eqb, ne_eqb}
use Rattle.rows.specs.Rows.{RowsOf}
use Rattle.game.specs.Arena.{Arena}
use Rattle.game.specs.Fault.{fault_at}
use Rattle.first_line.specs.Counting.{PairsFit}
use Rattle.rows.specs.declared.FirstLine.{FirstLine}
use Rattle.conditions.specs.Position.{before_moves, is_unsafe}
use Rattle.verdict.specs.Sheet.{Formed, Sheet, choice_at, line_at, row_fault, step_at, value_at}
use Rattle.verdict.specs.Verdict.{first_fault, header_verdict, verdict_of}
use Rattle.verdict.specs.VerdictLaws.{fault-or-none, first-fault, no-fault, same_first}
use Rattle.verdict.specs.RowFault.{row-fault-is}
use Rattle.verdict.specs.RowsChecked.{RowsChecked}

-- conditions 1 to 5 alone, and then what comes after them
module _ (fault : ℕ → ℕ) (end : Result ⊤ FoundFault) (n : ℕ) where
  none-then-end : first_fault fault (Ok tt) n ≡ Ok tt → ((u : ℕ) → u < n → fault u ≡ 0) × (first_fault fault end n ≡ end)
  none-then-end e = ⊎_elim (λ clean. (clean, no-fault fault end n clean)) (λ w. absurd (never w)) (fault-or-none fault end n)
    where
      never : ((v : ℕ) × (v < n) × ((u : ℕ) → u < v → fault u ≡ 0) × (fault v ≡ 0 → ⊥)) → ⊥
      never w =
          let f = sym e ∙ first-fault fault (Ok tt) n w.0 (fault w.0) w.1 w.2 refl w.3 in
          let z : ◌≡◌ {A = ℕ} 0 1 = cc in
          omega arith

  fault-then-fault : (v c : ℕ) → first_fault fault (Ok tt) n ≡ Err (fault_of v c) → first_fault fault end n ≡ Err (fault_of v c)
  fault-then-fault v c e = ⊎_elim (λ clean. absurd (never clean)) same (fault-or-none fault end n)
    where
      never : ((u : ℕ) → u < n → fault u ≡ 0) → ⊥
      never clean =
          let f = sym e ∙ no-fault fault (Ok tt) n clean in
          let z : ◌≡◌ {A = ℕ} 0 1 = cc in
          omega arith

      same : ((v : ℕ) × (v < n) × ((u : ℕ) → u < v → fault u ≡ 0) × (fault v ≡ 0 → ⊥)) → first_fault fault end n ≡ Err (fault_of v c)
      same (u, inside, clean, wrong) =
          first-fault fault end n u (fault u) inside clean refl wrong ∙ sym (first-fault fault (Ok tt) n u (fault u) inside clean refl wrong) ∙ e

module _ (n m : ℕ) (s : Sheet) (formed : Formed n s.values s.steps) where
  -- where condition 2 holds, a finite value has a finite step
  paired : (v : ℕ) → row_fault m s v ≡ 0 → (get_or s.values v 0 ≡ 65535 → ⊥) → get_or s.steps v 0 ≡ 65535 → ⊥
  unfolding row_fault before_moves
  paired v clean finite dash =
      go (is_unsafe (line_at s v) && not (eqb (get_or s.values v 0) 0)) _ (rw (ne_eqb (get_or s.values v 0) 65535 finite, eq-eqb (get_or s.steps v 0) 65535 dash) at clean)
    where
      go : (p : Bool) (x : ℕ) → ◌≡◌ {A = ℕ} (cond (eqb (cond p 1 2) 0) x (cond p 1 2)) 0 → ⊥
      go true x e = omega arith
      go false x e = omega arith

  pub sound-fits : (Ok tt) ≡ first_fault (row_fault m s) (Ok tt) n → PairsFit n s.values s.steps
  sound-fits e v l finite = (go (formed.value v l), step (formed.step v l))
    where
      go : (get_or s.values v 0 ≡ 65535) ⊎ (get_or s.values v 0 < 512) → get_or s.values v 0 < 512
      go (inl z) = absurd (finite z)
      go (inr z) = z

      step : (get_or s.steps v 0 ≡ 65535) ⊎ (get_or s.steps v 0 < 512) → get_or s.steps v 0 < 512
      step (inl z) = absurd (paired v ((none-then-end (row_fault m s) (Ok tt) n (sym e)).0 v l) finite z)
      step (inr z) = z

module _ (n m : ℕ) (s : Sheet) (formed : Formed n s.values s.steps) (h : FirstLine) where
  verdict-is : (a : Arena) → RowsOf a n m s.owners s.marks s.costs s.froms s.tos
      → first_fault (row_fault m s) (header_verdict n (value_at s) (step_at s) h) n ≡ verdict_of a (value_at s) (choice_at s) (step_at s) h
  unfolding verdict_of
  verdict-is a d =
      rw d.positions
      (same_first (row_fault m s) (fault_at a (value_at s) (choice_at s) (step_at s)) (header_verdict n (value_at s) (step_at s) h) n
      (λ u l. row-fault-is a n m s d formed u l))

  -- a fault of conditions 1 to 5
  pub fault-checked : (v c : ℕ) → Err (fault_of v c) ≡ first_fault (row_fault m s) (Ok tt) n → RowsChecked n m s h (Err (fault_of v c))
  fault-checked v c e =
      record { verdict = λ a d. sym (fault-then-fault (row_fault m s) (header_verdict n (value_at s) (step_at s) h) n v c (sym e)) ∙ verdict-is a d }

  -- none, and then the header's test
  pub header-checked : (r : Result ⊤ FoundFault) → (Ok tt) ≡ first_fault (row_fault m s) (Ok tt) n → r ≡ header_verdict n (value_at s) (step_at s) h → RowsChecked n m s h r
  header-checked r e f =
      record { verdict = λ a d. f ∙ sym (none-then-end (row_fault m s) (header_verdict n (value_at s) (step_at s) h) n (sym e)).1 ∙ verdict-is a d }
