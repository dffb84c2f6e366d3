-- Optimal controllers, two ways that are the same where every position has a value: its worths are the values; no controller
-- is worth more anywhere. The choices of a positional one don't fall: a cheap unsafe play from the target would be one from the
-- position. So right values with any optimal positional controller, and the steps of any certificate, are a certificate.
use Rattle.std.specs.Prelude.{ℕ, ◌<◌, ◌≡◌, ◌↔◌}
use Rattle.std.proofs.Math.Path.{refl, subst}
use Rattle.std.proofs.Common.{sym}
use Rattle.game.specs.Value.{Value, fin, ever, ◌≼◌}
use Rattle.game.specs.Arena.{Arena, Owner, controller, size, owner_at, WellFormed}
use Rattle.game.specs.Play.{Controller, Allows, Legal, picked, positional, target_of}
use Rattle.game.specs.Worth.{WorthIs, AtMost, IsValue}
use Rattle.game.specs.Certificate.{Certificate}
use Rattle.game.proofs.ValueLaws.{≼antisym}
use Rattle.game.proofs.PlayLaws.{meant-inside}
use Rattle.game.proofs.Bounds.{bounds-in-order, worth-is-both-bounds}
use Rattle.game.proofs.Certified.{certificate-gives-values}
use Rattle.game.proofs.Unique.{value-is-unique, worth-at-most-value, value-is-greatest}
use Rattle.game.proofs.Carry.{SameRow, NeverFalls, certificate-carries}
use Rattle.game.proofs.Prepend.{after, after-cost, after-unsafe, after-play}

-- at every position the row has the value
abbrev pub RightValues : Arena → (ℕ → Value) → Type 0
RightValues a value = (v : ℕ) → v < size a → IsValue a v (value v)

-- optimal: the controller's worth is the value at every position
abbrev pub WorthsAre : (a : Arena) → Controller a → (ℕ → Value) → Type 0
WorthsAre a σ value = (v : ℕ) → v < size a → WorthIs a σ v (value v)

-- optimal: the controller has a worth at every position, and none is worth more there
pub record UnsurpassedAt (a : Arena) (σ : Controller a) (v : ℕ) : Type 0 where
  pub worth : Value
  pub attained : WorthIs a σ v worth
  pub greatest : (τ : Controller a) (y : Value) → WorthIs a τ v y → y ≼ worth

abbrev pub Unsurpassed : (a : Arena) → Controller a → Type 0
Unsurpassed a σ = (v : ℕ) → v < size a → UnsurpassedAt a σ v

pub optimal-both-ways : (a : Arena) (value : ℕ → Value) (σ : Controller a) → RightValues a value → WorthsAre a σ value ↔ Unsurpassed a σ
optimal-both-ways a value σ right = (
  λ worths v inside. best v (right v inside) (worths v inside),
  λ bests v inside. worth v (right v inside) (bests v inside),
)
  where
    best : (v : ℕ) → IsValue a v (value v) → WorthIs a σ v (value v) → UnsurpassedAt a σ v
    best v i w = record { worth = value v; attained = w; greatest = λ τ y q. worth-at-most-value a v τ (value v) y i q }

    worth : (v : ℕ) → IsValue a v (value v) → UnsurpassedAt a σ v → WorthIs a σ v (value v)
    worth v i b =
        let g = value-is-greatest a v (value v) i in
        let same = ≼antisym b.worth (value v) (g.greatest σ b.worth b.attained) (b.greatest g.best (value v) g.attained) in
        subst (λ (y : Value). WorthIs a σ v y) same b.attained

module _ (a : Arena) (choice : ℕ → Value) (legal : Legal a choice) where
  -- from a position of its own the row's controller is worth at most what it is worth at the target
  pub at-most-target :
      (v : ℕ) (x : Value) → v < size a
      → owner_at a v ≡ controller
      → AtMost a (positional a choice legal) (target_of (choice v)) x
      → AtMost a (positional a choice legal) v x
  unfolding AtMost
  at-most-target v (fin k) inside own (u, h) =
      let w = target_of (choice v) in
      let chosen = subst (λ (o : Owner). Allows o w w) (sym own) refl in (
        record {
          trail = after w u.trail;
          play = after-play a choice legal v w inside (picked a choice v own (legal v inside)) chosen u.trail u.play;
          ends = after-unsafe a v w u.trail u.ends;
        },
        rw (after-cost a v w u.trail) h,
      )
  at-most-target v ever inside own h = tt

  -- worths of the row's controller don't fall along its choices
  pub optimal-never-falls : (value : ℕ → Value) → WellFormed a → WorthsAre a (positional a choice legal) value → NeverFalls a value choice
  optimal-never-falls value wf worths v inside own =
      let σ = positional a choice legal in
      let w = target_of (choice v) in
      let there = worths w (meant-inside a wf v w (picked a choice v own (legal v inside))) in
      let at_least_lem = ((worth-is-both-bounds a σ v (value v)).0 (worths v inside)).0 in
      let at_most = at-most-target v (value w) inside own ((worth-is-both-bounds a σ w (value w)).0 there).1 in
      bounds-in-order a σ v (value v) (value w) at_least_lem at_most

-- right values and any optimal choices, over the steps of any certificate
pub optimal-choices-have-certificate :
    (a : Arena) (wf : WellFormed a) (value choice step value' choice' step' : ℕ → Value)
    → Certificate a value choice step
    → RightValues a value'
    → SameRow a step step'
    → (legal : Legal a choice')
    → WorthsAre a (positional a choice' legal) value'
    → Certificate a value' choice' step'
optimal-choices-have-certificate a wf value choice step value' choice' step' certificate right steps legal worths =
    let never-falls = optimal-never-falls a choice' legal value wf (λ v inside. rw (same v inside) (worths v inside)) in
    certificate-carries a wf value choice step value' choice' step' same steps certificate legal never-falls
  where
    same : SameRow a value value'
    same v inside = value-is-unique a v _ _ (certificate-gives-values a wf value choice step certificate v inside) (right v inside)
