-- The search for the first move that leaves a position: what the parting of the moves says of it, and what v's moves then are.
use Rattle.std.specs.Prelude.{ℕ, ◌+◌, ◌/◌, ◌≤◌, ◌<◌, ◌≡◌, Bool, true, false, List, length, get_or, take, ltb}
use Rattle.std.specs.List.Sorted.{IsPartitionedBy, IsPartitionPoint}
use Rattle.std.proofs.Common.{arith, ◌∙◌, ltb-true, ltb-false, lt-ltb, length-take-le}
use Rattle.std.proofs.lemmas.List.{get_or-take, get_or_default}
use Rattle.rows.specs.Rows.{Ascending}
use Rattle.rows.specs.Numbers.{number_at}
use Rattle.rows.specs.Notes.{found, found_all, found_none}
use Rattle.moves.specs.Moves.{FirstFrom}

-- the first m numbers, parted by the test that one is below v: the moves lie in the order of the positions that they leave
module _ (m v : ℕ) (froms row : List ℕ) (part : row ≡ take m froms) (long : m ≤ length froms) where
  size : length row ≡ m
  size = rw part (length-take-le m froms long)

  read : (k d : ℕ) → k < m → get_or row k d ≡ get_or froms k 0
  read k d l = rw part (get_or-take m froms k d l) ∙ get_or_default froms k d 0 (omega arith)

  pub parted : Ascending m froms → IsPartitionedBy (λ y. ltb y v) row
  parted ascending i j d l h t =
      let inside : j < m = omega (arith, size) in
      let below : get_or froms j 0 < v = omega (arith, ltb-true _ _ t, read j d inside) in
      lt-ltb _ _ (omega (arith, read i d (omega arith), ascending i j l inside))

  pub parted-first : {i : ℕ} → i ≤ length row → IsPartitionPoint (λ y. ltb y v ≡ true) (λ y. ltb y v ≡ false) row i → FirstFrom m froms v i
  parted-first h p = record {
    within = omega (arith, size);
    before = λ k l. let inside : k < m = omega (arith, size) in omega (arith, read k 0 inside, ltb-true _ _ (p.0 k 0 (omega arith) l));
    after = λ k l b. omega (arith, read k 0 b, ltb-false _ _ (p.1 k 0 l (omega (arith, size))));
  }

-- The same search by halves: what holds between its two ends, and how a half takes that on

-- the moves before `low` leave earlier positions, those from `high` on do not
pub record Between (m : ℕ) (froms : List ℕ) (v low high : ℕ) : Type 0 where
  pub order : low ≤ high
  pub within : high ≤ m
  pub before : (i : ℕ) → i < low → get_or froms i 0 < v
  pub after : (i : ℕ) → high ≤ i → i < m → v ≤ get_or froms i 0

-- half-way between two numbers
pub halfway : (low high : ℕ) → low < high → (low ≤ (low + high) / 2) × ((low + high) / 2 < high)
halfway low high l = (omega arith, omega arith)

module _ {m : ℕ} {froms : List ℕ} {v : ℕ} where
  pub between-all : Between m froms v 0 m
  between-all = record { order = omega arith; within = omega arith; before = λ i l. absurd (omega arith); after = λ i l h. absurd (omega arith) }

  module _ {low high middle : ℕ} (ascending : Ascending m froms) (b : Between m froms v low high) (less : low ≤ middle) (more : middle < high) where
    pub upper-half : get_or froms middle 0 < v → Between m froms v (middle + 1) high
    upper-half e = record {
      order = omega arith;
      within = b.within;
      before = λ i l. omega (arith, e, ascending i middle (omega arith) (omega (arith, b.within)));
      after = b.after;
    }

    pub lower-half : v ≤ get_or froms middle 0 → Between m froms v low middle
    lower-half e = record {
      order = less;
      within = omega (arith, b.within);
      before = b.before;
      after = λ i l h. omega (arith, e, ascending middle i l h);
    }

  pub between_none : {low high : ℕ} → high ≤ low → Between m froms v low high → FirstFrom m froms v low
  between_none l b = record { within = omega (arith, b.order, b.within); before = b.before; after = λ i k h. b.after i (omega (arith, b.order)) h }

module _ {m : ℕ} {froms : List ℕ} {v : ℕ} where
  -- v's moves are those from the first on that leave v, up to one that does not
  module _ {first : ℕ} (q : ℕ → Bool) (f : FirstFrom m froms v first) where
    pub none_before : found (number_at froms) q first v ≡ false
    none_before = found_none (number_at froms) q v first f.before

    pub none_after : (i : ℕ) → first ≤ i → i < m → Ascending m froms → (get_or froms i 0 ≡ v → ⊥) → found (number_at froms) q i v ≡ found (number_at froms) q m v
    none_after i l h ascending other =
        found_all (number_at froms) q v i m (omega arith) (λ j k x. later j (ascending i j k x))
      where
        later : (j : ℕ) → get_or froms i 0 ≤ get_or froms j 0 → v < get_or froms j 0
        later j le = past le (f.after i l h)
          where
            past : get_or froms i 0 ≤ get_or froms j 0 → v ≤ get_or froms i 0 → v < get_or froms j 0
            past a b = omega (arith, other)
