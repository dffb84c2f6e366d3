-- Under a certificate the values are right, and the one controller of its choices has them as its worths at
-- every position at once. The two halves are put together.
use Rattle.std.specs.Prelude.{ℕ, ◌<◌}
use Rattle.game.specs.Value.{Value}
use Rattle.game.specs.Arena.{Arena, size, WellFormed}
use Rattle.game.specs.Play.{Controller, Legal, positional}
use Rattle.game.specs.Worth.{WorthIs, AtMost, IsValue}
use Rattle.game.specs.Certificate.{Certificate}
use Rattle.game.proofs.Bounds.{worth-is-both-bounds, value-is-bounds}
use Rattle.game.proofs.Holding.{Keeps, keeping-gives-at-least, choices-keep}
use Rattle.game.proofs.Ruin.{certificate-gives-at-most}

-- condition 3: the choices are a legal row
pub certificate-is-legal : (a : Arena) (value choice step : ℕ → Value) → Certificate a value choice step → Legal a choice
certificate-is-legal a value choice step certificate v inside = (certificate v inside).legal

module _ (a : Arena) (wf : WellFormed a) (value choice step : ℕ → Value) (certificate : Certificate a value choice step) where
  -- every controller is worth at most the value
  at_most : (σ : Controller a) (v : ℕ) → v < size a → AtMost a σ v (value v)
  at_most σ v inside = certificate-gives-at-most a wf value choice step certificate σ v inside

  -- a controller that keeps the values is worth them
  pub keeping-gives-worth : (σ : Controller a) (v : ℕ) → v < size a → Keeps a value σ v → WorthIs a σ v (value v)
  keeping-gives-worth σ v inside keeps =
      let at_least_lem = keeping-gives-at-least a wf value choice step certificate σ v keeps in
      (worth-is-both-bounds a σ v (value v)).1 (at_least_lem, at_most σ v inside)

  pub certificate-gives-worths : (legal : Legal a choice) (v : ℕ) → v < size a → WorthIs a (positional a choice legal) v (value v)
  certificate-gives-worths legal v inside =
      keeping-gives-worth (positional a choice legal) v inside (choices-keep a wf value choice step certificate legal v)

  pub certificate-gives-values : (v : ℕ) → v < size a → IsValue a v (value v)
  certificate-gives-values v inside =
      let legal = certificate-is-legal a value choice step certificate in
      let σ = positional a choice legal in
      let at_least_lem = ((worth-is-both-bounds a σ v (value v)).0 (certificate-gives-worths legal v inside)).0 in
      (value-is-bounds a v (value v)).1 ((σ, at_least_lem), λ τ. at_most τ v inside)
