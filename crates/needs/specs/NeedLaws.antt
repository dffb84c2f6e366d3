-- The needs from the counts of all codes, position by position.
use Rattle.std.specs.Prelude.{ℕ, ◌+◌, ◌*◌, ◌≤◌, ◌<◌, ◌≡◌, refl, Bool, true, false, List, length, get_or, set, eqb}
use Rattle.std.proofs.Common.{arith, sym, ◌∙◌, length-set, get_or-set_same, get_or-set_other, ne_eqb}
use Rattle.std.proofs.Math.Decide.{ℕ_discrete, dec_lt}
use Rattle.std.proofs.Math.Path.{ap}
use Rattle.std.proofs.Math.Bool.{cond}
use Rattle.std.proofs.Math.ListN.{get_or-eq_default}
use Rattle.search.specs.Below.{count_below}
use Rattle.search.specs.Counting.{count_none}
use Rattle.rows.specs.Rows.{Filled, Stays}
use Rattle.filing.specs.Filing.{Tallied}
use Rattle.needs.specs.Needs.{Needs, need_of}

-- the codes of the first v positions have their needs, by the counts that were there; all other numbers are as they were
pub record SetBefore (v : ℕ) (owners counts needs : List ℕ) : Type 0 where
  pub meant : (u : ℕ) → u < v → get_or needs (2 * u) 0 ≡ cond (eqb (get_or owners u 0) 0) (get_or counts (2 * u) 0) 4097
  pub disturbed : (u : ℕ) → u < v → get_or needs (2 * u + 1) 0 ≡ 4097
  pub rest : Stays (2 * v) counts needs

pub set-none : (owners counts : List ℕ) → SetBefore 0 owners counts counts
set-none owners counts = record { meant = λ u l. absurd (omega arith); disturbed = λ u l. absurd (omega arith); rest = λ j l. refl }

pub set-turn : {v x : ℕ} {owners counts needs : List ℕ} → SetBefore v owners counts needs → 2 * v + 1 < length needs → x ≡ cond (eqb (get_or owners v 0) 0) (get_or counts (2 * v) 0) 4097
    → SetBefore (v + 1) owners counts (set (set needs (2 * v) x) (2 * v + 1) 4097)
set-turn {v} {x} {owners} {counts} {needs} h room e = record {
  meant = λ u l. meant u l (ℕ_discrete u v);
  disturbed = λ u l. disturbed u l (ℕ_discrete u v);
  rest = λ j l. other j (λ z. omega arith) (λ z. omega arith) ∙ h.rest j (omega arith);
}
  where
    one : List ℕ
    one = set needs (2 * v) x

    other : (j : ℕ) → (j ≡ 2 * v → ⊥) → (j ≡ 2 * v + 1 → ⊥) → get_or (set (set needs (2 * v) x) (2 * v + 1) 4097) j 0 ≡ get_or needs j 0
    other j a b = get_or-set_other (set needs (2 * v) x) (2 * v + 1) j 4097 0 b ∙ get_or-set_other needs (2 * v) j x 0 a

    meant : (u : ℕ) → u < v + 1 → Dec (u ≡ v) → get_or (set (set needs (2 * v) x) (2 * v + 1) 4097) (2 * u) 0 ≡ cond (eqb (get_or owners u 0) 0) (get_or counts (2 * u) 0) 4097
    meant u l (yes z) = rw z (get_or-set_other (set needs (2 * v) x) (2 * v + 1) (2 * v) 4097 0 (λ q. omega arith) ∙ get_or-set_same needs (2 * v) x 0 (omega arith) ∙ e)
    meant u l (no z) = other (2 * u) (λ q. z (omega arith)) (λ q. omega arith) ∙ h.meant u (omega arith)

    disturbed : (u : ℕ) → u < v + 1 → Dec (u ≡ v) → get_or (set (set needs (2 * v) x) (2 * v + 1) 4097) (2 * u + 1) 0 ≡ 4097
    disturbed u l (yes z) = rw z (get_or-set_same (set needs (2 * v) x) (2 * v + 1) 4097 0 (rw (length-set needs (2 * v) x) room))
    disturbed u l (no z) = other (2 * u + 1) (λ q. omega arith) (λ q. z (omega arith)) ∙ h.disturbed u (omega arith)

over : (b : Bool) (count : ℕ) → cond b (4096 + count) 4097 ≡ 4096 + cond b count 1
over true count = refl
over false count = refl

-- filled, tallied and set: the needs
module _ (n : ℕ) {m : ℕ} {codes row filled counts : List ℕ} (even : Filled row filled (2 * n) (λ v. 4096)) (long : 2 * n ≤ length row) (tallied : Tallied m codes filled counts) where
  counts-are : (e : ℕ) → e < 2 * n → get_or counts e 0 ≡ 4096 + count_below (λ i. eqb (get_or codes i 0) e) m
  counts-are e l = tallied.count e (omega (arith, even.same_length)) ∙ ap (λ (x : ℕ). x + count_below (λ i. eqb (get_or codes i 0) e) m) (even.row e l)

  pub needs-set : {owners needs : List ℕ} → SetBefore n owners counts needs → Needs n m owners codes needs
  unfolding need_of
  needs-set {owners} h = record {
    meant = λ v l. h.meant v l ∙ ap (λ (x : ℕ). cond (eqb (get_or owners v 0) 0) x 4097) (counts-are (2 * v) (omega arith)) ∙ over (eqb (get_or owners v 0) 0) _;
    disturbed = h.disturbed;
  }

  -- and what lies past them stays: no code names it
  pub needs_stay : {owners needs : List ℕ} → ((i : ℕ) → i < m → get_or codes i 0 < 2 * n) → SetBefore n owners counts needs → Stays (2 * n) row needs
  needs_stay inside h j l = h.rest j l ∙ kept (dec_lt j (length filled)) ∙ even.rest j l
    where
      kept : Dec (j < length filled) → get_or counts j 0 ≡ get_or filled j 0
      kept (yes k) = tallied.count j k ∙ ap (λ (x : ℕ). get_or filled j 0 + x) (count_none (λ i. eqb (get_or codes i 0) j) m (λ i u. ne_eqb (get_or codes i 0) j (λ z. omega (arith, inside i u)))) ∙ omega arith
      kept (no k) = get_or-eq_default counts 0 (omega (arith, tallied.same_length)) ∙ sym (get_or-eq_default filled 0 (omega arith))
