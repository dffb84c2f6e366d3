-- Copying the good moves goes move by move: laws for the start, for a turn and for the end.
use Rattle.std.specs.Prelude.{ℕ, ◌+◌, ◌≤◌, ◌<◌, ◌≡◌, refl, List, length}
use Rattle.std.proofs.Common.{arith, subst, ◌∙◌}
use Rattle.search.specs.Below.{bit_le}
use Rattle.search.specs.Passing.{passing, passing-count, passing-length}
use Rattle.rows.specs.Copies.{copy-none, copy-next}
use Rattle.good_moves.specs.Picking.{Picked, PickedMove, is_good}

module _ {owners costs froms tos values : List ℕ} where
  pub picked_none : {positions targets : List ℕ} → Picked owners costs froms tos values 0 0 positions targets
  unfolding passing
  picked_none {positions} {targets} =
      let q = is_good owners costs froms tos values in
      record { counted = refl; position = copy-none q froms positions; target = copy-none q tos targets }

  pub picked_next : {i count next : ℕ} {positions targets positions' targets' : List ℕ} → Picked owners costs froms tos values i count positions targets
      → count < length positions → count < length targets
      → PickedMove owners costs froms tos values i count positions targets positions' targets' next → Picked owners costs froms tos values (i + 1) next positions' targets'
  picked_next {i} {positions = positions} {targets = targets} h lp lt one =
      let q = is_good owners costs froms tos values in
      let e = h.counted in
      record {
        counted = one.counted ∙ rw (passing-count q i, e);
        position = rw (one.position, e) (copy-next q i froms positions h.position (omega arith));
        target = rw (one.target, e) (copy-next q i tos targets h.target (omega arith));
      }

  pub next-at-most : {i at next : ℕ} {positions targets positions' targets' : List ℕ}
      → PickedMove owners costs froms tos values i at positions targets positions' targets' next → next ≤ at + 1
  next-at-most {i} one = omega (arith, one.counted, bit_le (is_good owners costs froms tos values i))

  pub picked_all : {i m count : ℕ} {positions targets : List ℕ} → i ≡ m → Picked owners costs froms tos values i count positions targets
      → Picked owners costs froms tos values m count positions targets
  picked_all {count = count} {positions = positions} {targets = targets} e h = subst (λ (j : ℕ). Picked owners costs froms tos values j count positions targets) e h

  -- no more moves are good than there are
  pub picked-fewer : {m count : ℕ} {positions targets : List ℕ} → Picked owners costs froms tos values m count positions targets → count ≤ m
  picked-fewer {m} h = omega (arith, h.counted, passing-length (is_good owners costs froms tos values) m)
