-- Valuing's rows: what solving, choosing and counting leave is the arena's plate.
use Rattle.std.specs.Prelude.{ℕ, ◌≤◌, ◌<◌, true, false, ◌&&◌, List, length, leb, Ok, Err}
use native.Mathlib.Omega.{arith}
use Rattle.std.proofs.Math.Path.{◌≡◌, refl}
use Rattle.std.proofs.Common.{ap, ◌∙◌}
use Rattle.rows.specs.FirstLineLaws.{first-line-same}
use Rattle.rows.specs.FirstLine.{FirstLineIs}
use Rattle.rows.specs.Rows.{RowIs, RowsOf}
use Rattle.rows.specs.Numbers.{number_of, value_of, row_value}
use Rattle.rows.specs.NumberLaws.{Fits, value-of-number, same-values}
use Rattle.game.specs.Value.{Value, fin, ever}
use Rattle.game.specs.Arena.{Arena, WellFormed, size}
use Rattle.game.specs.Table.{table, placement_at, placed_value, placed_step, Placement, placed, unplaced, round_value, round_step}
use Rattle.game.proofs.RoundBounds.{round-value-within-size, round-step-within-size, pair-within-size}
use Rattle.game.specs.FirstLine.{pair_count}
use Rattle.chart.specs.Meaning.{arena_of}
use Rattle.chart.specs.Examined.{examined}
use Rattle.chart.specs.Accepted.{accepted-size}
use Rattle.rows.specs.declared.Chart.{Chart}
use Rattle.refusal.specs.declared.Misdrawn.{Misdrawn}
use Rattle.refusal.specs.declared.Refusal.{Refusal}
use Rattle.refusal.specs.declared.Refusal.TheVariants.{Chart as OfChart, Short}
use Rattle.solver.specs.Solving.{Solved}
use Rattle.choice.specs.Choose.{ValuesAre, Chosen}
use Rattle.first_line.specs.Counting.{PairsFit}
use Rattle.valuing.specs.Valuing.{PlateRows, RowsValued, valued, valued_by, ValuedIs}
use Rattle.rows.specs.declared.FirstLine.{FirstLine}

-- The rounds' numbers are small

module _ (a : Arena) (wf : WellFormed a) (few : size a ≤ 512) where
  pub round-value-fits : (v : ℕ) → Fits (round_value a v)
  round-value-fits v = go (round_value a v) refl
    where
      go : (x : Value) → round_value a v ≡ x → Fits x
      go (fin k) e = let h = round-value-within-size a wf v k e in omega arith
      go ever e = tt

  pub round-step-fits : (v : ℕ) → Fits (round_step a v)
  round-step-fits v = go (round_step a v) refl
    where
      go : (x : Value) → round_step a v ≡ x → Fits x
      go (fin k) e = let h = round-step-within-size a wf v k e in omega arith
      go ever e = tt

  -- a finite value and the step beside it are below 512
  pair_small : (v : ℕ) → (number_of (round_value a v) ≡ 65535 → ⊥) → (number_of (round_value a v) < 512) × (number_of (round_step a v) < 512)
  unfolding round_value round_step placed_value placed_step number_of
  pair_small v finite = go (placement_at (table a) v) refl
    where
      go : (x : Placement) → placement_at (table a) v ≡ x → (number_of (placed_value x) < 512) × (number_of (placed_step x) < 512)
      go unplaced e = absurd (finite (ap (λ (p : Placement). number_of (placed_value p)) e))
      go (placed k s) e = let h = pair-within-size a wf v k s e in (omega arith, omega arith)

module _ {n m : ℕ} {owners marks costs froms tos values values' steps steps' : List ℕ}
    (solved : Solved n m owners marks costs froms tos values steps values' steps')
    (same-values : length values' ≡ length values) (same-steps : length steps' ≡ length steps) where
  module _ (a : Arena) (d : RowsOf a n m owners marks costs froms tos) where
    few : size a ≤ 512
    few = let p = d.positions in let h = d.few-positions in omega arith

    value_row : RowIs values' n (λ v. number_of (round_value a v))
    unfolding round_value
    value_row = (solved.rows a d).value

    step_row : RowIs steps' n (λ v. number_of (round_step a v))
    unfolding round_step
    step_row = (solved.rows a d).step

    values-are : ValuesAre values' n (round_value a)
    values-are v l = (value_row v l, round-value-fits a d.well few v)

    pub pairs-fit : PairsFit n values' steps'
    pairs-fit v l finite =
        rw (value_row v l, step_row v l) (pair_small a d.well few v (λ e. finite (value_row v l ∙ e)))

    pub rows-plate : {choices choices' : List ℕ} → Chosen n m owners costs froms tos values' choices choices' → length choices' ≡ length choices
        → PlateRows a n values values' choices choices' steps steps'
    rows-plate chosen same-choices =
        record {
          value = record { row = value_row; rest = solved.values-stay; same_length = same-values };
          choice = record { row = chosen.rows a marks (round_value a) d values-are; rest = chosen.stay; same_length = same-choices };
          step = record { row = step_row; rest = solved.steps-stay; same_length = same-steps };
        }

    pub rows-first-line : {r : FirstLine} → FirstLineIs n (row_value values') (row_value steps') r → FirstLineIs n (round_value a) (round_step a) r
    rows-first-line =
        first-line-same (λ v l. ap value_of (value_row v l) ∙ value-of-number (round_value a v) (round-value-fits a d.well few v))
        (λ v l. ap value_of (step_row v l) ∙ value-of-number (round_step a v) (round-step-fits a d.well few v))

  pub rows-valued : {choices choices' : List ℕ} {r : FirstLine} → Chosen n m owners costs froms tos values' choices choices' → length choices' ≡ length choices → FirstLineIs n (row_value values') (row_value steps') r
      → RowsValued n m owners marks costs froms tos values values' choices choices' steps steps' r
  rows-valued chosen same-choices s =
      record { rows = λ a d. rows-plate a d chosen same-choices; first-line = λ a d. rows-first-line a d s }

-- The answers

module _ {text values choices steps : List ℕ} where
  -- a refusal leaves the rows
  turned : (x : Refusal) → Err x ≡ valued text (length values) (length choices) (length steps) → ValuedIs text values values choices choices steps steps (Err x)
  turned x e = record { answer = e; taken = λ k z. let w : ◌≡◌ {A = ℕ} 0 1 = cc in absurd (omega arith); refused = λ y z. (refl, refl, refl) }

  pub valued-refused : {r : Misdrawn} → examined text ≡ Err r → ValuedIs text values values choices choices steps steps (Err (OfChart r))
  unfolding valued valued_by
  valued-refused {r} e = turned (OfChart r) (rw e)

  pub valued-short : {chart : Chart} → examined text ≡ Ok chart
      → (leb chart.positions (length values) && (leb chart.positions (length choices) && leb chart.positions (length steps))) ≡ false
      → ValuedIs text values values choices choices steps steps (Err Short)
  unfolding valued valued_by
  valued-short e short = turned Short (rw (e, short))

  pub valued-taken : {chart : Chart} {k : ℕ} {values' choices' steps' : List ℕ} → examined text ≡ Ok chart
      → (leb chart.positions (length values) && (leb chart.positions (length choices) && leb chart.positions (length steps))) ≡ true
      → k ≡ pair_count (round_value (arena_of text)) (round_step (arena_of text)) chart.positions
      → PlateRows (arena_of text) chart.positions values values' choices choices' steps steps'
      → ValuedIs text values values' choices choices' steps steps' (Ok k)
  unfolding valued valued_by
  valued-taken {chart} {k} e room count rows =
      let n = accepted-size text chart e in
      record {
        answer = rw (e, room, n) (ap Ok count);
        taken = λ j z. rw n rows;
        refused = λ x z. let w : ◌≡◌ {A = ℕ} 0 1 = cc in absurd (omega arith);
      }
