-- Laws of the first that fails (specs/First.antt): each turn of a loop that looks for it, what the whole search answers, and what an
-- answer tells.
use Prim.Native.Nat.{ℕ, zero, suc, ◌+◌, ◌≤◌, ◌<◌, ◌-◌}
use native.Mathlib.Omega.{arith}
use Rattle.std.proofs.Common.{eq-or-lt_of_le, sym, ◌∙◌, inl, inr}
use Rattle.std.specs.Prelude.{◌≡◌, ◌⊎◌, Bool, true, false}
use Rattle.std.proofs.Math.Path.{refl, ap, subst}
use Rattle.std.proofs.Math.Logic.{⊎_elim}
use Rattle.std.proofs.Math.Bool.{cond}
use Rattle.search.specs.First.{first_from, FirstAt, AllPass}

module _ (good : ℕ → Bool) where
  passed-more : (left i : ℕ) → good i ≡ true → AllPass good left (i + 1) → AllPass good (suc left) i
  passed-more left i e rest k l h = ⊎_elim (λ q. subst (λ (m : ℕ). good m ≡ true) q e) (λ m. rest k (omega arith) (omega arith)) (eq-or-lt_of_le l)

  first-later : (left i place : ℕ) → good i ≡ true → FirstAt good left (i + 1) place → FirstAt good (suc left) i place
  first-later left i place e w = record {
    low = omega (arith, w.low);
    high = omega (arith, w.high);
    fails = w.fails;
    passed = λ k l h. ⊎_elim (λ q. subst (λ (m : ℕ). good m ≡ true) q e) (λ m. w.passed k (omega arith) h) (eq-or-lt_of_le l);
  }

  -- there is a first that fails, or every one passes
  pub first_or_none : (left i : ℕ) → AllPass good left i ⊎ ((place : ℕ) × FirstAt good left i place)
  first_or_none zero i = inl (λ k l h. absurd (omega arith))
  first_or_none (suc left) i = go (good i) refl (first_or_none left (i + 1))
    where
      go : (b : Bool) → good i ≡ b → AllPass good left (i + 1) ⊎ ((place : ℕ) × FirstAt good left (i + 1) place) → AllPass good (suc left) i ⊎ ((place : ℕ) × FirstAt good (suc left) i place)
      go true e later = ⊎_elim (λ rest. inl (passed-more left i e rest)) (λ w. inr (w.0, first-later left i w.0 e w.1)) later
      go false e later = inr (i, record { low = omega arith; high = omega arith; fails = e; passed = λ k l h. absurd (omega arith) })

module _ {A : Type 0} (good : ℕ → Bool) (answer : ℕ → A) (end : A) where
  -- the three turns of a loop from i up to `stop`: a test that passes, one that fails, and the end
  opens : (stop i : ℕ) → i < stop → first_from good answer end (stop - i) i ≡ cond (good i) (first_from good answer end (stop - (i + 1)) (i + 1)) (answer i)
  unfolding first_from
  opens stop i h =
      let e : stop - i ≡ suc (stop - (i + 1)) = omega arith in
      ap (λ (k : ℕ). first_from good answer end k i) e

  pub first_next : (stop i : ℕ) → i < stop → good i ≡ true → first_from good answer end (stop - (i + 1)) (i + 1) ≡ first_from good answer end (stop - i) i
  first_next stop i h e = sym (opens stop i h ∙ rw e)

  pub first-stop : (stop i : ℕ) → i < stop → good i ≡ false → first_from good answer end (stop - i) i ≡ answer i
  first-stop stop i h e = opens stop i h ∙ rw e

  pub first_done : (stop i : ℕ) → stop ≤ i → first_from good answer end (stop - i) i ≡ end
  unfolding first_from
  first_done stop i h =
      let e : stop - i ≡ 0 = omega arith in
      ap (λ (k : ℕ). first_from good answer end k i) e

  -- what the whole search answers
  pub first-none : (left i : ℕ) → AllPass good left i → first_from good answer end left i ≡ end
  unfolding first_from
  first-none zero i all = refl
  first-none (suc left) i all = rw (all i (omega arith) (omega arith)) (first-none left (i + 1) (λ k l h. all k (omega arith) (omega arith)))

  pub first-at : (left i place : ℕ) → FirstAt good left i place → first_from good answer end left i ≡ answer place
  unfolding first_from
  first-at zero i place w = absurd (omega (arith, w.low, w.high))
  first-at (suc left) i place w =
      ⊎_elim (λ q. subst (λ (m : ℕ). cond (good m) (first_from good answer end left (m + 1)) (answer m) ≡ answer place) (sym q) (rw w.fails))
      (λ l.
      rw (w.passed i (omega arith) l)
      (first-at left (i + 1) place (record { low = omega arith; high = omega (arith, w.high); fails = w.fails; passed = λ k m h. w.passed k (omega arith) h })))
      (eq-or-lt_of_le w.low)

  -- what an answer tells: the end, where no answer at a failure is the end, that every one passes; another, where it was found
  pub first_ended : ((i : ℕ) → good i ≡ false → answer i ≡ end → ⊥) → (left i : ℕ) → first_from good answer end left i ≡ end → AllPass good left i
  first_ended apart left i e =
      ⊎_elim (λ all. all) (λ w. absurd (apart w.0 w.1.fails (sym (first-at left i w.0 w.1) ∙ e))) (first_or_none good left i)

  pub first-answered : (x : A) → (end ≡ x → ⊥) → (left i : ℕ) → first_from good answer end left i ≡ x → (place : ℕ) × FirstAt good left i place × (answer place ≡ x)
  first-answered x other left i e =
      ⊎_elim (λ all. absurd (other (sym (first-none left i all) ∙ e))) (λ w. (w.0, w.1, sym (first-at left i w.0 w.1) ∙ e)) (first_or_none good left i)

-- searches whose tests and answers agree
pub first-same : {A : Type 0} (f g : ℕ → Bool) (p q : ℕ → A) (end : A) (left i : ℕ) → ((j : ℕ) → i ≤ j → j < i + left → (f j ≡ g j) × (p j ≡ q j))
    → first_from f p end left i ≡ first_from g q end left i
unfolding first_from
first-same f g p q end zero i h = refl
first-same f g p q end (suc left) i h =
    let w = h i (omega arith) (omega arith) in
    rw (w.0, w.1, first-same f g p q end left (i + 1) (λ j l k. h j (omega arith) (omega arith)))
