-- The refusals in the table's order, each under its own condition: 1 to 9 and 17, then 10, 11, 12 and 14, and where none holds the rows are
-- compared.
use Rattle.std.specs.Prelude.{ℕ, ◌≤◌, ◌<◌, ◌≡◌, true, false, List, length, Ok, Err}
use Rattle.verdict.specs.Verdict.{fault_of}
use Rattle.std.proofs.Math.Path.{ap}
use Rattle.std.proofs.Common.{◌∙◌}
use borrow.Author.Tests.{le-leb, lt-leb}
use Rattle.rows.specs.Numbers.{row_value}
use Rattle.game.specs.Arena.{size}
use Rattle.refusal.specs.declared.Misdrawn.{Misdrawn}
use Rattle.refusal.specs.declared.Refusal.TheVariants.{Chart as OfChart, Short, Plate, Choice, Fault}
use Rattle.rows.specs.declared.Chart.{Chart}
use Rattle.chart.specs.Meaning.{arena_of}
use Rattle.chart.specs.Examined.{examined}
use Rattle.weighing.specs.Weighing.{legal_row}
use Rattle.plate.specs.Formed.{form_of}
use Rattle.checking.specs.Checking.{plate_verdict}
use Rattle.comparing.specs.Comparing.{value_number, worth_number, first_difference, compared_verdict, compared_formed, compared_form, compared_by, compared}

module _ (text plate choices : List ℕ) where
  pub first-the-chart : (r : Misdrawn) → examined text ≡ Err r → compared text plate choices ≡ Err (OfChart r)
  unfolding compared compared_by
  first-the-chart r e = rw e

  module _ (chart : Chart) (taken : examined text ≡ Ok chart) where
    pub then-ten : length choices < chart.positions → compared text plate choices ≡ Err Short
    unfolding compared compared_by
    then-ten l = rw (taken, lt-leb chart.positions (length choices) l)

    module _ (enough : chart.positions ≤ length choices) where
      past-ten : compared text plate choices ≡ compared_form (arena_of text) plate choices (form_of chart.positions plate)
      unfolding compared compared_by
      past-ten = rw (taken, le-leb chart.positions (length choices) enough)

      pub then-eleven : (line : ℕ) → form_of chart.positions plate ≡ Err line → compared text plate choices ≡ Err (Plate line)
      unfolding compared_form
      then-eleven line e = past-ten ∙ ap (compared_form (arena_of text) plate choices) e

      module _ (form : form_of chart.positions plate ≡ Ok tt) where
        pub past-eleven : compared text plate choices ≡ compared_formed (arena_of text) plate choices
        unfolding compared_form
        past-eleven = past-ten ∙ ap (compared_form (arena_of text) plate choices) form

        pub then-twelve : legal_row (arena_of text) (row_value choices) (size (arena_of text)) ≡ false → compared text plate choices ≡ Err Choice
        unfolding compared_formed
        then-twelve e = past-eleven ∙ rw e

        module _ (legal : legal_row (arena_of text) (row_value choices) (size (arena_of text)) ≡ true) where
          past-twelve : compared text plate choices ≡ compared_verdict (arena_of text) plate choices (plate_verdict (arena_of text) plate)
          unfolding compared_formed
          past-twelve = past-eleven ∙ rw legal

          pub then-fourteen : (v c : ℕ) → plate_verdict (arena_of text) plate ≡ Err (fault_of v c) → compared text plate choices ≡ Err (Fault v c)
          unfolding compared_verdict
          then-fourteen v c e = past-twelve ∙ ap (compared_verdict (arena_of text) plate choices) e

          pub then-the-rows : plate_verdict (arena_of text) plate ≡ Ok tt
              → compared text plate choices ≡ first_difference (value_number plate) (worth_number (arena_of text) choices) (size (arena_of text))
          unfolding compared_verdict
          then-the-rows e = past-twelve ∙ ap (compared_verdict (arena_of text) plate choices) e
