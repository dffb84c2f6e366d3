-- The plate that Writing makes is in the plate's range: values, steps and the highest are below 512, choices are positions.
use Rattle.std.specs.Prelude.{ℕ, ◌≤◌, ◌<◌}
use Rattle.std.proofs.Common.{arith, sym}
use Rattle.std.proofs.Math.Path.{subst}
use Rattle.rows.specs.FirstLine.{first_line_of}
use Rattle.rows.specs.NumberLaws.{value-of-number}
use Rattle.game.specs.Arena.{Arena, WellFormed, size, owner_at}
use Rattle.game.specs.Table.{round_value, round_step}
use Rattle.game.specs.Best.{best_at}
use Rattle.game.proofs.BestLaws.{best-is-legal}
use Rattle.game.proofs.RoundBounds.{round-value-within-size, round-step-within-size, highest-within-size}
use Rattle.game.specs.FirstLine.{highest}
use Rattle.game.proofs.FirstLineLaws.{pairs-within-size, evers-within-size}
use Rattle.plate.specs.Range.{Below, InRange}
use Rattle.plate.specs.RangeLaws.{below-fits, below-when, legal-below}
use Rattle.writing.specs.Writing.{rounds_first_line}

module _ (a : Arena) (wf : WellFormed a) (few : size a ≤ 512) where
  value-below : (v : ℕ) → Below 512 (round_value a v)
  value-below v = below-when 512 (round_value a v) (λ k e. let h = round-value-within-size a wf v k e in omega arith)

  choice-below : (v : ℕ) → v < size a → Below (size a) (best_at a (round_value a) v)
  choice-below v l = legal-below a wf (owner_at a v) v (best_at a (round_value a) v) (best-is-legal a (round_value a) wf v l)

  step-below : (v : ℕ) → Below 512 (round_step a v)
  step-below v = below-when 512 (round_step a v) (λ k e. let h = round-step-within-size a wf v k e in omega arith)

  highest-below : Below 512 (highest (round_value a) (size a))
  highest-below = below-when 512 (highest (round_value a) (size a)) (λ k e. let h = highest-within-size a wf k e in omega arith)

  pub arena-in-range : InRange (size a) (rounds_first_line a) (round_value a) (best_at a (round_value a)) (round_step a)
  unfolding first_line_of
  arena-in-range = record {
    rounds = omega (arith, pairs-within-size (round_value a) (round_step a) (size a));
    highest = subst (Below 512) (sym (value-of-number (highest (round_value a) (size a)) (below-fits 512 _ (omega arith) highest-below))) highest-below;
    evers = omega (arith, evers-within-size (round_value a) (size a));
    value_in = λ v l. value-below v;
    choice-in = choice-below;
    step_in = λ v l. step-below v;
  }
