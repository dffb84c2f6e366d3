-- What the condition of a number tells of the number.
use Rattle.std.specs.Prelude.{ℕ, zero, suc, ◌≡◌, Some}
use Rattle.std.proofs.Common.{arith, refl}
use Rattle.conditions.specs.Position.{failing}

pub failing-some : (k : ℕ) {c : ℕ} → failing k ≡ Some c → (k ≡ c) × (c ≡ 0 → ⊥)
failing-some zero e = let z : ◌≡◌ {A = ℕ} 0 1 = cc in absurd (omega arith)
failing-some (suc k) {c = c} e = let same : suc k ≡ c = cc in (same, λ z. omega arith)

pub failing-none : (k : ℕ) → ((c : ℕ) → failing k ≡ Some c → ⊥) → k ≡ 0
failing-none zero none = refl
failing-none (suc k) none = absurd (none (suc k) refl)
