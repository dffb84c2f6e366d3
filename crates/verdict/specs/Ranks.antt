-- Value and step of each position as one number, and a move's target taken apart from it again.
use Rattle.std.specs.Prelude.{ℕ, ◌+◌, ◌*◌, ◌/◌, ◌%◌, ◌≤◌, ◌<◌, ◌≡◌, List, length, get_or, set}
use Rattle.std.proofs.Common.{arith, ap₂, below_more}
use Rattle.rows.specs.Rows.{Filled}
use Rattle.rows.specs.Filling.{filled_none, filled_more}
use Rattle.conditions.specs.declared.Target.{Target}
use Rattle.verdict.specs.Sheet.{target_of}

-- the row became the ranks of n positions, whose steps are 16-bit numbers
pub record RowsRanked (n : ℕ) (values steps ranks₀ ranks : List ℕ) : Type 0 where
  pub filled : Filled ranks₀ ranks n (λ v. get_or values v 0 * 65536 + get_or steps v 0)
  pub low : (v : ℕ) → v < n → get_or steps v 0 < 65536

-- a row that holds them
pub record Ranked (n : ℕ) (values steps ranks : List ℕ) : Type 0 where
  pub long : n ≤ length ranks
  pub rank : (v : ℕ) → v < n → get_or ranks v 0 ≡ get_or values v 0 * 65536 + get_or steps v 0
  pub low : (v : ℕ) → v < n → get_or steps v 0 < 65536

-- the j-th move, by the ranks
abbrev pub ranked_target : (costs tos ranks : List ℕ) → ℕ → Target
ranked_target costs tos ranks j =
    record { cost = get_or costs j 0; to = get_or tos j 0; value = get_or ranks (get_or tos j 0) 0 / 65536; step = get_or ranks (get_or tos j 0) 0 % 65536 }

pub ranked-none : (values steps ranks : List ℕ) → RowsRanked 0 values steps ranks ranks
ranked-none values steps ranks = record { filled = filled_none _ _; low = λ v l. absurd (omega arith) }

pub ranked-next : {v x : ℕ} {values steps ranks₀ ranks : List ℕ} → v < length ranks₀ → get_or steps v 0 < 65536 → x ≡ get_or values v 0 * 65536 + get_or steps v 0
    → RowsRanked v values steps ranks₀ ranks → RowsRanked (v + 1) values steps ranks₀ (set ranks v x)
ranked-next l s e h = record { filled = filled_more _ _ _ _ _ h.filled l e; low = below_more _ _ h.low s }

pub ranked-row : {n : ℕ} {values steps ranks₀ ranks : List ℕ} → n ≤ length ranks₀ → RowsRanked n values steps ranks₀ ranks → Ranked n values steps ranks
ranked-row l h = record { long = omega (arith, h.filled.same_length); rank = h.filled.row; low = h.low }

-- is the move that the plate's columns say
pub ranked-target : {n : ℕ} {values steps ranks : List ℕ} (costs tos : List ℕ) (j : ℕ) → Ranked n values steps ranks → get_or tos j 0 < n → ranked_target costs tos ranks j ≡ target_of costs tos values steps j
ranked-target {n} {values} {steps} {ranks} costs tos j h l =
    let is = h.rank (get_or tos j 0) l in
    let low = h.low (get_or tos j 0) l in
    ap₂ (λ (x y : ℕ). record { cost = get_or costs j 0; to = get_or tos j 0; value = x; step = y }) (omega arith) (omega arith)
