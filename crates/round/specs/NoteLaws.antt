-- The notes of a walk over the moves, turned into flags, are those that the rounds want: a first flag is turned over where a move
-- of the kind sought met what its position seeks.
use Rattle.std.specs.Prelude.{ℕ, ◌<◌, ◌≡◌, refl, Bool, cond, not, List, get_or, eqb}
use Rattle.std.proofs.Common.{◌∙◌}
use Rattle.std.proofs.Math.Bool.{true, false}
use Rattle.search.specs.Below.{bit}
use Rattle.game.proofs.MoveTests.{of-disturbance, of-meant}
use Rattle.rows.specs.Rows.{RowIs, Within}
use Rattle.rows.specs.Numbers.{number_at, free}
use Rattle.rows.specs.Notes.{Noted, found, found-same}
use Rattle.round.specs.Round.{decides, disturbs, meets, ready_flag}

-- at O a free target decides, at L one that is placed
seeks-decides : (o b : Bool) → eqb (cond o 1 0) (bit b) ≡ cond o b (not b)
seeks-decides true true = refl
seeks-decides true false = refl
seeks-decides false true = refl
seeks-decides false false = refl

turned-ready : (o b : Bool) → bit (not (eqb (cond o 1 0) (bit b))) ≡ cond o (bit (not b)) (bit b)
turned-ready true true = refl
turned-ready true false = refl
turned-ready false true = refl
turned-ready false false = refl

-- where a position shows 1 if it passes a test, and 1 is sought, the test is what decides
seeks-one : (b : Bool) → eqb 1 (bit b) ≡ b
seeks-one true = refl
seeks-one false = refl

turned_none : (b : Bool) → bit (not (eqb 0 (bit b))) ≡ bit b
turned_none true = refl
turned_none false = refl

-- from the notes that a walk left, and the row of flags that was turned by them
module _ {n m : ℕ} {costs froms tos : List ℕ} (w : Within n m costs froms tos) (values firsts shows : List ℕ) {notes flags : List ℕ} where
  pub ready-noted : (owners : List ℕ) → RowIs firsts n (λ v. ready_flag owners v false) → RowIs shows n (λ v. bit (free values v))
      → Noted n (number_at froms) (meets true firsts shows costs froms tos) (λ v. bit) m notes
      → RowIs flags n (λ v. bit (not (eqb (get_or firsts v 0) (get_or notes v 0))))
      → Noted n (number_at froms) (decides owners costs froms tos values) (ready_flag owners) m flags
  unfolding meets decides ready_flag
  ready-noted owners first show noted turned =
      record { notes = λ v l. turned v l ∙ rw (first v l, noted.notes v l, found-same (number_at froms) (meets true firsts shows costs froms tos) (decides owners costs froms tos values) m v same) (turned-ready (eqb (get_or owners v 0) 0) (found (number_at froms) (decides owners costs froms tos values) m v)) }
    where
      same : (j : ℕ) → j < m → meets true firsts shows costs froms tos j ≡ decides owners costs froms tos values j
      same j l = rw (first (get_or froms j 0) (w.from-inside j l), show (get_or tos j 0) (w.to_inside j l), seeks-decides, of-meant)

  pub disturbed-noted : (k : ℕ) (ones : List ℕ) → RowIs ones n (λ v. 1) → RowIs firsts n (λ v. 0) → RowIs shows n (λ v. bit (eqb (get_or values v 0) k))
      → Noted n (number_at froms) (meets false ones shows costs froms tos) (λ v. bit) m notes
      → RowIs flags n (λ v. bit (not (eqb (get_or firsts v 0) (get_or notes v 0))))
      → Noted n (number_at froms) (disturbs costs tos values k) (λ v. bit) m flags
  unfolding meets disturbs
  disturbed-noted k ones one first show noted turned =
      record { notes = λ v l. turned v l ∙ rw (first v l, noted.notes v l, found-same (number_at froms) (meets false ones shows costs froms tos) (disturbs costs tos values k) m v same) (turned_none (found (number_at froms) (disturbs costs tos values k) m v)) }
    where
      same : (j : ℕ) → j < m → meets false ones shows costs froms tos j ≡ disturbs costs tos values k j
      same j l = rw (one (get_or froms j 0) (w.from-inside j l), show (get_or tos j 0) (w.to_inside j l), seeks-one, of-disturbance)
