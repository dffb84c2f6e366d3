-- Laws of plays: a play stays inside the arena, one that stands at an unsafe position is unsafe, a disturbance costs
-- something, and only a controller's position is disturbed.
use Rattle.std.specs.Prelude.{ℕ, suc, ◌≤◌, ◌<◌, ◌≡◌, refl, ◌⊎◌, Bool, true, false, T}
use Rattle.std.proofs.Common.{arith, sym, inl, inr}
use mathlib.Core.List.{Memᴰ}
use Rattle.game.specs.Value.{Value, fin, ever}
use Rattle.game.proofs.ValueLaws.{fin-is-not-ever}
use Rattle.game.specs.Arena.{Arena, Move, controller, environment, nobody, size, unsafe, meant_move, disturbance_move, Meant, Disturbance, WellFormed}
use Rattle.game.specs.Play.{Trail, still, meant, disturbed, last, disturbance_cost, Controller, Play, Unsafe, Legal, positional, target_of}

-- "a disturbance, which counts one"
pub disturbance-costs-one : (a : Arena) (v w : ℕ) → disturbance_cost a v w ≡ 1
unfolding disturbance_cost
disturbance-costs-one a v w = refl

pub disturbance-costs : (a : Arena) (v w : ℕ) → 0 < disturbance_cost a v w
disturbance-costs a v w = rw (disturbance-costs-one a v w) (omega arith)

-- and one digit at most
pub disturbance-cost-small : (a : Arena) (v w : ℕ) → disturbance_cost a v w ≤ 9
disturbance-cost-small a v w = rw (disturbance-costs-one a v w) (omega arith)

-- the owners differ
pub environment-is-not-controller : environment ≡ controller → ⊥
environment-is-not-controller e = let z : ◌≡◌ {A = ℕ} 0 1 = cc in omega arith

pub nobody-is-not-controller : nobody ≡ controller → ⊥
nobody-is-not-controller e = let z : ◌≡◌ {A = ℕ} 0 1 = cc in omega arith

-- a test is passed or failed
pub by-test : (b : Bool) → T b ⊎ (b ≡ false)
by-test true = inl tt
by-test false = inr refl

-- a trail that stands at an unsafe position is unsafe
pub stands-unsafe : (a : Arena) (v : ℕ) (t : Trail) → T (unsafe a (last v t)) → Unsafe a v t
unfolding last Unsafe
stands-unsafe a v still h = h
stands-unsafe a v (meant t w) h = inr h
stands-unsafe a v (disturbed t w) h = inr h

module _ (a : Arena) (wf : WellFormed a) where
  pub meant-inside : (v w : ℕ) → Meant a v w → w < size a
  meant-inside v w m = wf.to-position (meant_move v w) m

  pub disturbance-inside : (v w : ℕ) → Disturbance a v w → w < size a
  disturbance-inside v w d = wf.to-position (disturbance_move (suc d.0) v w) d.1

  pub disturbance-leaves : (v w : ℕ) → Disturbance a v w → v < size a
  disturbance-leaves v w d = wf.from-position (disturbance_move (suc d.0) v w) d.1

  -- what a disturbance counts is its move's cost
  pub disturbance-counts : (m : Move) → Memᴰ m a.moves → (m.cost ≡ 0 → ⊥) → disturbance_cost a m.from m.to ≡ m.cost
  disturbance-counts m mem costs = rw (disturbance-costs-one a m.from m.to) (omega (arith, wf.kind m mem))

  pub stays-inside : (σ : Controller a) (v : ℕ) (t : Trail) → Play a σ v t → last v t < size a
  unfolding last Play
  stays-inside σ v still p = p
  stays-inside σ v (meant t w) p = meant-inside (last v t) w p.1
  stays-inside σ v (disturbed t w) p = disturbance-inside (last v t) w p.1

-- what the controller of a row picks
pub positional-pick :
    (a : Arena) (choice : ℕ → Value) (legal : Legal a choice) (v : ℕ) (t : Trail)
    → (positional a choice legal).pick v t ≡ target_of (choice (last v t))
unfolding positional
positional-pick a choice legal v t = refl

-- a choice that names a target names the one that it is read as
pub target-is-named : (x : Value) (w : ℕ) → x ≡ fin w → x ≡ fin (target_of x)
unfolding target_of
target-is-named (fin k) w e = refl
target-is-named ever w e = absurd (fin-is-not-ever w (sym e))
