-- Comparing a value and a step as one number is comparing the values, and where they are equal the steps.
use Rattle.std.specs.Prelude.{ℕ, ◌<◌, ◌≡◌, ◌&&◌, ◌||◌, eqb, ltb}
use Rattle.std.proofs.Math.Decide.{ℕ_discrete, dec_lt}
use Rattle.std.proofs.Common.{arith, eq-eqb, ne_eqb, lt-ltb, le-ltb}
use Rattle.conditions.specs.Position.{Rank}

pub rank-order : {j k s t q r : ℕ} → Rank j s q → Rank k t r → ltb q r ≡ (ltb j k || (eqb j k && ltb s t))
rank-order {j} {k} {s} {t} {q} {r} a b = go (dec_lt j k) (ℕ_discrete j k) (dec_lt s t)
  where
    go : Dec (j < k) → Dec (j ≡ k) → Dec (s < t) → ltb q r ≡ (ltb j k || (eqb j k && ltb s t))
    go (yes l) e m = rw (lt-ltb j k l, lt-ltb q r (omega arith))
    go (no l) (yes e) (yes m) = rw (le-ltb j k (omega arith), eq-eqb j k e, lt-ltb s t m, lt-ltb q r (omega arith))
    go (no l) (yes e) (no m) = rw (le-ltb j k (omega arith), eq-eqb j k e, le-ltb s t (omega arith), le-ltb q r (omega arith))
    go (no l) (no e) m = rw (le-ltb j k (omega arith), ne_eqb j k e, le-ltb q r (omega arith))
