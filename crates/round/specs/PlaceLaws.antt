-- A round places position by position: the laws of `Placing` for the start and for a turn.
use Rattle.std.specs.Prelude.{ℕ, ◌+◌, ◌≤◌, ◌<◌, ◌≡◌, Bool, true, false, cond, List, length, get_or, set, eqb}
use Rattle.std.proofs.Common.{le_refl}
use Rattle.std.proofs.Math.Path.{refl}
use Rattle.std.proofs.lemmas.List.{set-get_or}
use Rattle.rows.specs.Filling.{filled_next, set_if, filled_none}
use Rattle.search.specs.Below.{bit, count_below, bit_le, count_next}
use Rattle.round.specs.Round.{taken, Placing, PlacingAt}

-- a round at one position counts one at most
pub one_at_most : {v : ℕ} {flags : List ℕ} {k s : ℕ} {values steps values' steps' : List ℕ} {one : ℕ} → PlacingAt v flags k s values steps values' steps' one → one ≤ 1
one_at_most {v} {flags} {values} e = rw e.counted (bit_le (taken flags values v))

module _ (flags : List ℕ) (k s : ℕ) (values steps : List ℕ) where
  pub placing-none : Placing 0 flags k s values steps values steps 0
  unfolding count_below
  placing-none = record { value = filled_none values _; step = filled_none steps _; counted = refl }

  module _ (v : ℕ) (values' steps' : List ℕ) (count : ℕ) (h : Placing v flags k s values steps values' steps' count) where
    -- the position v is as it was
    taken-as-before : taken flags values' v ≡ taken flags values v
    unfolding taken
    taken-as-before = rw (h.value.rest v (le_refl v))

    pub placing-next : v < length values' → v < length steps' → (values'' steps'' : List ℕ) (one : ℕ) → PlacingAt v flags k s values' steps' values'' steps'' one
        → Placing (v + 1) flags k s values steps values'' steps'' (count + one)
    placing-next l m values'' steps'' one e = record {
      value = rw e.value (filled_next h.value (taken flags values' v) k l (rw taken-as-before));
      step = rw e.step (filled_next h.step (taken flags values' v) s m (rw taken-as-before));
      counted = rw (count_next, e.counted, h.counted, taken-as-before);
    }

-- a position that is not taken is stored as it was
pub set-taken : (b : Bool) (v x : ℕ) (row : List ℕ) → set row v (cond b x (get_or row v 0)) ≡ set_if b v x row
set-taken true v x row = refl
set-taken false v x row = set-get_or row v 0

-- the same where a number says whether
pub set-picked : (b : Bool) (v x : ℕ) (row : List ℕ) {take : ℕ} → take ≡ bit b → set row v (cond (eqb take 1) x (get_or row v 0)) ≡ set_if b v x row
set-picked true v x row e = rw e refl
set-picked false v x row e = rw e (set-get_or row v 0)
