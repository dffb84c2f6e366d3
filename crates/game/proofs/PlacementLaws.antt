-- A placement by cases: whether it is one, and the value and the step that it stands for.
use Rattle.std.specs.Prelude.{ℕ, ◌≡◌, refl, ◌⊎◌, T}
use Rattle.std.proofs.Common.{sym, ap, subst, inl, inr}
use Rattle.game.specs.Value.{fin, ever}
use Rattle.game.specs.Table.{Placement, unplaced, placed, is_placed, placed_value, placed_step}
use Rattle.game.proofs.ValueLaws.{fin-injective, fin-is-not-ever}

pub is-placed : {x : Placement} {k s : ℕ} → x ≡ placed k s → T (is_placed x)
unfolding is_placed
is-placed e = subst (λ (y : Placement). T (is_placed y)) (sym e) tt

pub is-not-placed : {x : Placement} → x ≡ unplaced → T (is_placed x) → ⊥
unfolding is_placed
is-not-placed e h = subst (λ (y : Placement). T (is_placed y)) e h

-- where it is placed; and that it is not
pub placed-where : (x : Placement) → T (is_placed x) → (k s : ℕ) × (x ≡ placed k s)
unfolding is_placed
placed-where unplaced h = absurd h
placed-where (placed k s) h = (k, s, refl)

pub placed-or-not : (x : Placement) → T (is_placed x) ⊎ (x ≡ unplaced)
unfolding is_placed
placed-or-not unplaced = inr refl
placed-or-not (placed k s) = inl tt

-- its value and step, both ways
pub value-of-placed : {x : Placement} {k s : ℕ} → x ≡ placed k s → placed_value x ≡ fin k
unfolding placed_value
value-of-placed e = ap placed_value e

pub step-of-placed : {x : Placement} {k s : ℕ} → x ≡ placed k s → placed_step x ≡ fin s
unfolding placed_step
step-of-placed e = ap placed_step e

pub value-of-unplaced : {x : Placement} → x ≡ unplaced → placed_value x ≡ ever
unfolding placed_value
value-of-unplaced e = ap placed_value e

pub step-of-unplaced : {x : Placement} → x ≡ unplaced → placed_step x ≡ ever
unfolding placed_step
step-of-unplaced e = ap placed_step e

pub placed-of-value : (x : Placement) (k : ℕ) → placed_value x ≡ fin k → (s : ℕ) × (x ≡ placed k s)
unfolding placed_value
placed-of-value unplaced k e = absurd (fin-is-not-ever k (sym e))
placed-of-value (placed i s) k e = (s, ap (λ (j : ℕ). placed j s) (fin-injective i k e))

pub placed-of-step : (x : Placement) (s : ℕ) → placed_step x ≡ fin s → (k : ℕ) × (x ≡ placed k s)
unfolding placed_step
placed-of-step unplaced s e = absurd (fin-is-not-ever s (sym e))
placed-of-step (placed k i) s e = (k, ap (placed k) (fin-injective i s e))

pub unplaced-of-value : (x : Placement) → placed_value x ≡ ever → x ≡ unplaced
unfolding placed_value
unplaced-of-value unplaced e = refl
unplaced-of-value (placed k s) e = absurd (fin-is-not-ever k e)

pub unplaced-of-step : (x : Placement) → placed_step x ≡ ever → x ≡ unplaced
unfolding placed_step
unplaced-of-step unplaced e = refl
unplaced-of-step (placed k s) e = absurd (fin-is-not-ever s e)
