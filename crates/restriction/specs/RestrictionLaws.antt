-- Copying the moves that stay goes move by move: laws for the start, for a turn and for the end.
use Rattle.std.specs.Prelude.{ℕ, ◌+◌, ◌≤◌, ◌<◌, ◌≡◌, refl, Bool, true, false, List, length}
use Rattle.std.proofs.Common.{arith, subst, ◌∙◌}
use Rattle.search.specs.Below.{bit}
use Rattle.search.specs.Passing.{passing, passing-count, passing-length}
use Rattle.rows.specs.Copies.{copy-none, copy-next}
use Rattle.restriction.specs.Restriction.{Copied, CopiedMove, move_stays}

module _ {owners costs froms tos choices : List ℕ} where
  pub copied_none : {costs' froms' tos' : List ℕ} → Copied owners costs froms tos choices 0 0 costs' froms' tos'
  unfolding passing
  copied_none {costs'} {froms'} {tos'} =
      let q = move_stays owners costs froms tos choices in
      record {
        counted = refl;
        cost = copy-none q costs costs';
        from = copy-none q froms froms';
        to = copy-none q tos tos';
      }

  pub copied_next : {i count next : ℕ} {costs' froms' tos' costs'' froms'' tos'' : List ℕ} → Copied owners costs froms tos choices i count costs' froms' tos'
      → count < length costs' → count < length froms' → count < length tos'
      → CopiedMove owners costs froms tos choices i count costs' froms' tos' costs'' froms'' tos'' next → Copied owners costs froms tos choices (i + 1) next costs'' froms'' tos''
  copied_next {i} {count} {costs'} {froms'} {tos'} h lc lf lt one =
      let q = move_stays owners costs froms tos choices in
      let e = h.counted in
      record {
        counted = one.counted ∙ rw (passing-count q i, e);
        cost = rw (one.cost, e) (copy-next q i costs costs' h.cost (omega arith));
        from = rw (one.from, e) (copy-next q i froms froms' h.from (omega arith));
        to = rw (one.to, e) (copy-next q i tos tos' h.to (omega arith));
      }

  pub next-at-most : {i at next : ℕ} {costs' froms' tos' costs'' froms'' tos'' : List ℕ}
      → CopiedMove owners costs froms tos choices i at costs' froms' tos' costs'' froms'' tos'' next → next ≤ at + 1
  next-at-most {i} {at} one = rw one.counted (go (move_stays owners costs froms tos choices i))
    where
      go : (b : Bool) → at + bit b ≤ at + 1
      go true = omega arith
      go false = omega arith

  pub copied_all : {i m count : ℕ} {costs' froms' tos' : List ℕ} → i ≡ m → Copied owners costs froms tos choices i count costs' froms' tos'
      → Copied owners costs froms tos choices m count costs' froms' tos'
  copied_all {count} {costs'} {froms'} {tos'} e h = subst (λ (j : ℕ). Copied owners costs froms tos choices j count costs' froms' tos') e h

  -- no more moves stay than there are
  pub copied-fewer : {m count : ℕ} {costs' froms' tos' : List ℕ} → Copied owners costs froms tos choices m count costs' froms' tos' → count ≤ m
  copied-fewer {m} copied = let e = copied.counted in let b = passing-length (move_stays owners costs froms tos choices) m in omega arith
