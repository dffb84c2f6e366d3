-- The rows that Valuing gives, read as values, are the arena's columns: their numbers are small, so each stands for what it was made of.
-- The first line's numbers counted from them are those of the rounds.
use Rattle.std.specs.Prelude.{ℕ, ◌≤◌, ◌≡◌, refl, List}
use Rattle.std.proofs.Common.{arith, sym, ap, subst, ◌∙◌}
use Rattle.rows.specs.FirstLine.{FirstLineIs, first_line_of}
use Rattle.rows.specs.FirstLineLaws.{first-line-same, first-line-is}
use Rattle.rows.specs.Numbers.{value_of, row_value, Agree}
use Rattle.rows.specs.NumberLaws.{Fits, value-of-number}
use Rattle.game.specs.Value.{Value}
use Rattle.game.specs.Arena.{Arena, Owner, controller, environment, nobody, WellFormed, size, owner_at}
use Rattle.game.specs.Play.{LegalAs}
use Rattle.game.proofs.PlayLaws.{meant-inside}
use Rattle.game.specs.Table.{round_value, round_step}
use Rattle.game.specs.Best.{best_at}
use Rattle.game.proofs.BestLaws.{best-is-legal}
use Rattle.valuing.specs.Valuing.{PlateRows}
use Rattle.valuing.specs.ValuingLaws.{round-value-fits, round-step-fits}

pub first-line-counted : (n : ℕ) (value step : ℕ → Value) → FirstLineIs n value step (first_line_of n value step)
unfolding first_line_of
first-line-counted n value step = record { rounds = refl; highest-value = refl; evers = refl }

module _ (a : Arena) (wf : WellFormed a) (few : size a ≤ 512) where
  -- a legal choice is a position, so its number stands for it
  legal-fits : (o : Owner) (v : ℕ) (x : Value) → LegalAs o a v x → Fits x
  legal-fits controller v x (w, e, m) = subst Fits (sym e) (omega (arith, meant-inside a wf v w m))
  legal-fits environment v x e = subst Fits (sym e) tt
  legal-fits nobody v x e = subst Fits (sym e) tt

  module _ {values values' choices choices' steps steps' : List ℕ} (rows : PlateRows a (size a) values values' choices choices' steps steps') where
    pub value-column : Agree (size a) (row_value values') (round_value a)
    value-column v l = ap value_of (rows.value.row v l) ∙ value-of-number (round_value a v) (round-value-fits a wf few v)

    pub choice-column : Agree (size a) (row_value choices') (best_at a (round_value a))
    choice-column v l =
        let best = best_at a (round_value a) v in
        ap value_of (rows.choice.row v l) ∙ value-of-number best (legal-fits (owner_at a v) v best (best-is-legal a (round_value a) wf v l))

    pub step-column : Agree (size a) (row_value steps') (round_step a)
    step-column v l = ap value_of (rows.step.row v l) ∙ value-of-number (round_step a v) (round-step-fits a wf few v)

    pub first-line-column : first_line_of (size a) (row_value values') (row_value steps') ≡ first_line_of (size a) (round_value a) (round_step a)
    first-line-column =
        first-line-is (size a) (round_value a) (round_step a) _
        (first-line-same value-column step-column (first-line-counted (size a) (row_value values') (row_value steps')))
