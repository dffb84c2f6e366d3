-- Three readings of a value that document 01 names as wrong ("Charts at the edges"), and one of R: each is defined here, and answers
-- something else than the value on a chart.
use Rattle.std.specs.Prelude.{ℕ, zero, suc, ◌+◌, ◌≤◌, ◌≡◌, refl, Bool, true, false, cond, ◌&&◌, List, [], ◌∷◌, T, eqb}
use Rattle.std.proofs.Common.{arith, sym, ap, subst, eqb→eq}
use Rattle.game.specs.Value.{Value, fin, ever, ◌⊕◌, value_le}
use Rattle.game.specs.Arena.{Arena, Move, Owner, controller, environment, nobody, owner_at, unsafe, Meant, meant_move, disturbance_move}
use Rattle.game.specs.Play.{Trail, still, meant, disturbed, last, Controller, Play, Unsafe}
use Rattle.game.specs.Worth.{IsValue}
use Rattle.game.specs.Rounds.{Positions, JoinsAs}
use Rattle.game.specs.Journal.{Edge, Unending}
use Rattle.game.specs.Table.{some_move, every_move, meant_from, disturbance_from}
use Rattle.game.proofs.ValueLaws.{fin-injective, fin-is-not-ever}
use Rattle.game.proofs.MoveTests.{every-meant, every-found}
use Rattle.game.proofs.ChartValues.{O, L, R, chart_is, chart-value, chart-value-only}

-- "starting all values at 0 and raising them": passes of the local rule over a row of zeros. An unsafe position has 0, at L
-- the least of the meant targets counts, at O the greatest of them, but no more than a disturbance's target and one, which is all at R.
unfoldable pub lower : Value → Value → Value
lower x y = cond (value_le x y) x y

unfoldable pub upper : Value → Value → Value
upper x y = cond (value_le x y) y x

unfoldable pub least_meant : (ℕ → Value) → ℕ → List Move → Value
least_meant value v [] = ever
least_meant value v (m ∷ ms) = cond (meant_from v m) (lower (value m.to) (least_meant value v ms)) (least_meant value v ms)

unfoldable pub greatest_meant : (ℕ → Value) → ℕ → List Move → Value
greatest_meant value v [] = fin 0
greatest_meant value v (m ∷ ms) = cond (meant_from v m) (upper (value m.to) (greatest_meant value v ms)) (greatest_meant value v ms)

unfoldable pub least_disturbed : (ℕ → Value) → ℕ → List Move → Value
least_disturbed value v [] = ever
least_disturbed value v (m ∷ ms) = cond (disturbance_from v m) (lower (value m.to ⊕ 1) (least_disturbed value v ms)) (least_disturbed value v ms)

unfoldable pub local_as : Owner → Arena → (ℕ → Value) → ℕ → Value
local_as controller a value v = lower (greatest_meant value v a.moves) (least_disturbed value v a.moves)
local_as environment a value v = least_meant value v a.moves
local_as nobody a value v = least_disturbed value v a.moves

unfoldable pub raised : Arena → ℕ → ℕ → Value
raised a zero v = fin 0
raised a (suc s) v = cond (unsafe a v) (fin 0) (local_as (owner_at a v) a (raised a s) v)

-- "j: two safe L, each moving to the other: ever." "c: O safe, M to itself: ever."
abbrev pub chart-j : Arena
chart-j = record { positions = L 0 ∷ L 0 ∷ []; moves = meant_move 0 1 ∷ meant_move 1 0 ∷ [] }

abbrev pub chart-c : Arena
chart-c = record { positions = O 0 ∷ []; moves = meant_move 0 0 ∷ [] }

-- both are ever, and raising leaves them at 0, however often
pub raising-leaves-j-at-zero : (s : ℕ) → (raised chart-j s 0 ≡ fin 0) × (raised chart-j s 1 ≡ fin 0)
unfolding raised local_as least_meant lower value_le meant_from
raising-leaves-j-at-zero zero = (refl, refl)
raising-leaves-j-at-zero (suc s) =
    let r = raising-leaves-j-at-zero s in
    (ap (λ (x : Value). lower x ever) r.1, ap (λ (x : Value). lower x ever) r.0)

pub j-is-ever-not-zero : IsValue chart-j 0 ever × (¬ (IsValue chart-j 0 (fin 0)))
unfolding chart_is
j-is-ever-not-zero = (chart-value chart-j 0 ever tt, λ i. fin-is-not-ever 0 (chart-value-only chart-j 0 ever tt (fin 0) i))

pub raising-leaves-c-at-zero : (s : ℕ) → raised chart-c s 0 ≡ fin 0
unfolding raised local_as greatest_meant least_disturbed lower upper value_le meant_from disturbance_from
raising-leaves-c-at-zero zero = refl
raising-leaves-c-at-zero (suc s) = ap (λ (x : Value). lower (upper x (fin 0)) ever) (raising-leaves-c-at-zero s)

pub c-is-ever-not-zero : IsValue chart-c 0 ever × (¬ (IsValue chart-c 0 (fin 0)))
unfolding chart_is
c-is-ever-not-zero = (chart-value chart-c 0 ever tt, λ i. fin-is-not-ever 0 (chart-value-only chart-c 0 ever tt (fin 0) i))

-- "counting a disturbance where the controller itself chose that target"
unfoldable pub counted_anyway : Arena → ℕ → Trail → ℕ
counted_anyway a v still = 0
counted_anyway a v (meant t w) = counted_anyway a v t + cond (some_move (λ m. disturbance_from (last v t) m && eqb m.to w) a.moves) 1 0
counted_anyway a v (disturbed t w) = counted_anyway a v t + 1

-- "f: O with M and D to a safe L that stays", with 1 unsafe
abbrev pub chart-f : Arena
chart-f = record { positions = O 0 ∷ L 1 ∷ []; moves = meant_move 0 1 ∷ disturbance_move 1 0 1 ∷ meant_move 1 1 ∷ [] }

-- "f, if 1 were unsafe, is 0"
pub f-is-zero : IsValue chart-f 0 (fin 0)
unfolding chart_is
f-is-zero = chart-value chart-f 0 (fin 0) tt

only-to-one : (w : ℕ) → Meant chart-f 0 w → w ≡ 1
unfolding every_move some_move meant_from
only-to-one w m = eqb→eq w 1 ((every-meant chart-f 0 (λ x. eqb x 1)).0 tt w m)

abbrev Moved : Trail → Type 0
Moved still = ⊥
Moved (meant t w) = Unit {0}
Moved (disturbed t w) = Unit {0}

moved-counts : (σ : Controller chart-f) (t : Trail) → Play chart-f σ 0 t → Moved t → 1 ≤ counted_anyway chart-f 0 t
unfolding Play last counted_anyway some_move disturbance_from
moved-counts σ still p m = absurd m
moved-counts σ (meant still w) p m = subst (λ (x : ℕ). 1 ≤ counted_anyway chart-f 0 (meant still x)) (sym (only-to-one w p.1)) (omega arith)
moved-counts σ (meant (meant t u) w) p m = let h = moved-counts σ (meant t u) p.0 tt in omega arith
moved-counts σ (meant (disturbed t u) w) p m = let h = moved-counts σ (disturbed t u) p.0 tt in omega arith
moved-counts σ (disturbed t w) p m = omega arith

unsafe-moved : (t : Trail) → Unsafe chart-f 0 t → Moved t
unfolding Unsafe
unsafe-moved still u = u
unsafe-moved (meant t w) u = tt
unsafe-moved (disturbed t w) u = tt

-- but this count is at least 1 on each unsafe play from there
pub counting-anyway-gives-f-one : (σ : Controller chart-f) (t : Trail) → Play chart-f σ 0 t → Unsafe chart-f 0 t → 1 ≤ counted_anyway chart-f 0 t
counting-anyway-gives-f-one σ t p u = moved-counts σ t p (unsafe-moved t u)

-- R as an O without meant moves: all its meant targets are placed, whatever is placed, so that round (0, 1) would take it
abbrev pub chart-rest : Arena
chart-rest = record { positions = R 0 ∷ R 1 ∷ []; moves = disturbance_move 1 0 1 ∷ [] }

pub idle-controller-joins-at-once : (placed : Positions) → JoinsAs controller chart-rest placed 0
unfolding every_move some_move meant_from
idle-controller-joins-at-once placed w m = absurd ((every-meant chart-rest 0 (λ x. false)).0 tt w m)

-- but it stands one disturbance
pub rest-is-one-not-zero : IsValue chart-rest 0 (fin 1) × (¬ (IsValue chart-rest 0 (fin 0)))
unfolding chart_is
rest-is-one-not-zero = (
  chart-value chart-rest 0 (fin 1) tt,
  λ i. let e : ◌≡◌ {A = ℕ} 0 1 = fin-injective 0 1 (chart-value-only chart-rest 0 (fin 1) tt (fin 0) i) in omega arith,
)

-- "letting a play recover after an unsafe position": it is safe from some point on
abbrev pub Recovers : {a : Arena} {v : ℕ} → Unending a v → Type 0
Recovers {a} ρ = (n : ℕ) × ((j : ℕ) → n ≤ j → T (unsafe a (ρ.position j)) → ⊥)

-- "i: O unsafe, its one M to a safe L that stays: 0"
abbrev pub chart-i : Arena
chart-i = record { positions = O 1 ∷ L 0 ∷ []; moves = meant_move 0 1 ∷ meant_move 1 1 ∷ [] }

pub i-is-zero-not-ever : IsValue chart-i 0 (fin 0) × (¬ (IsValue chart-i 0 ever))
unfolding chart_is
i-is-zero-not-ever = (chart-value chart-i 0 (fin 0) tt, λ i. fin-is-not-ever 0 (sym (chart-value-only chart-i 0 (fin 0) tt ever i)))

all-to-one : (b : Bool) (v w : ℕ) → Edge b chart-i v w → w ≡ 1
unfolding every_move some_move
all-to-one true v w e = eqb→eq w 1 (every-found (λ m. eqb m.to 1) chart-i.moves (disturbance_move (suc e.0) v w) tt e.1)
all-to-one false v w e = eqb→eq w 1 (every-found (λ m. eqb m.to 1) chart-i.moves (meant_move v w) tt (meant v e))
  where
    -- nothing rests there
    meant : (v : ℕ) → Edge false chart-i v w → Meant chart-i v w
    meant zero m = m
    meant (suc zero) m = m
    meant (suc (suc v)) m = m

-- every play from there recovers, as if nothing could go wrong
pub every-play-of-i-recovers : (ρ : Unending chart-i 0) → Recovers ρ
every-play-of-i-recovers ρ = (1, safe)
  where
    safe : (j : ℕ) → 1 ≤ j → T (unsafe chart-i (ρ.position j)) → ⊥
    safe zero h u = omega arith
    safe (suc j) h u = subst (λ (x : ℕ). T (unsafe chart-i x)) (all-to-one (ρ.bit j) (ρ.position j) (ρ.position (suc j)) (ρ.edge j)) u
