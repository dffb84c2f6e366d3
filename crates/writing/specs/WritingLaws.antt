-- The plate of valued rows is the arena's plate, and the job's answers.
use Rattle.std.specs.Prelude.{ℕ, ◌+◌, ◌*◌, ◌≤◌, refl, true, false, List, ◌++◌, length, drop, leb, Ok, Err}
use Rattle.std.proofs.Common.{arith, sym, ap, subst, ◌∙◌, length-append}
use Rattle.std.proofs.Math.Path.{◌≡◌}
use Rattle.rows.specs.FirstLineLaws.{first-line-is}
use Rattle.rows.specs.FirstLine.{first_line_of}
use Rattle.rows.specs.Rows.{RowsOf}
use Rattle.rows.specs.Numbers.{row_value}
use Rattle.game.specs.Arena.{Arena, WellFormed, size}
use Rattle.game.specs.Table.{round_value, round_step}
use Rattle.game.specs.Best.{best_at}
use Rattle.chart.specs.Meaning.{arena_of}
use Rattle.chart.specs.Examined.{examined}
use Rattle.rows.specs.declared.Chart.{Chart}
use Rattle.refusal.specs.declared.Misdrawn.{Misdrawn}
use Rattle.refusal.specs.declared.Refusal.{Refusal}
use Rattle.refusal.specs.declared.Refusal.TheVariants.{Chart as OfChart, Short}
use Rattle.valuing.specs.Valuing.{PlateRows, RowsValued}
use Rattle.valuing.specs.Columns.{value-column, choice-column, step-column, first-line-column}
use Rattle.rows.specs.declared.FirstLine.{FirstLine}
use Rattle.plate.specs.Text.{plate_text}
use Rattle.plate.specs.Line.{header-line-length, lines-length}
use Rattle.plate.specs.RowTrip.{plate-same}
use Rattle.writing.specs.Writing.{rounds_first_line, plate_of, PlateWritten, written, written_by, WrittenIs}

pub plate-length : (a : Arena) → length (plate_of a) ≡ (size a + 1) * 22
unfolding plate_of plate_text
plate-length a = simp (length-append, header-line-length, lines-length) (omega arith)

-- rows that Valuing gives, set out under the first line counted from them, are the arena's plate
pub plate-of-rows : {a : Arena} {values values' choices choices' steps steps' : List ℕ} → WellFormed a → size a ≤ 512
    → PlateRows a (size a) values values' choices choices' steps steps'
    → plate_text (size a) (first_line_of (size a) (row_value values') (row_value steps')) (row_value values') (row_value choices') (row_value steps') ≡ plate_of a
unfolding plate_of
plate-of-rows {a} wf few rows =
    rw (first-line-column a wf few rows)
    (plate-same (size a) (rounds_first_line a) _ (round_value a) _ (best_at a (round_value a)) _ (round_step a)
    (value-column a wf few rows) (choice-column a wf few rows) (step-column a wf few rows))

module _ {n m : ℕ} {owners marks costs froms tos values values' choices choices' steps steps' out out' : List ℕ} {s : FirstLine}
    (valued : RowsValued n m owners marks costs froms tos values values' choices choices' steps steps' s)
    (bytes : out' ≡ plate_text n s (row_value values') (row_value choices') (row_value steps') ++ drop ((n + 1) * 22) out) where
  pub plate-written : PlateWritten n m owners marks costs froms tos out out'
  plate-written = record { bytes = λ a d. bytes ∙ ap (λ (p : List ℕ). p ++ drop ((n + 1) * 22) out) (same a d) }
    where
      same : (a : Arena) → RowsOf a n m owners marks costs froms tos → plate_text n s (row_value values') (row_value choices') (row_value steps') ≡ plate_of a
      same a d =
          let p = d.positions in
          let few : size a ≤ 512 = omega (arith, d.few-positions) in
          let rows = subst (λ (i : ℕ). PlateRows a i values values' choices choices' steps steps') (sym p) (valued.rows a d) in
          rw (first-line-is n (round_value a) (round_step a) s (valued.first-line a d), ← p, ← first-line-column a d.well few rows)
          (plate-of-rows d.well few rows)

-- The answers

module _ {text out : List ℕ} where
  -- a refusal leaves the buffer
  turned : (x : Refusal) → Err x ≡ written text (length out) → WrittenIs text out out (Err x)
  turned x e = record { answer = e; taken = λ k z. let w : ◌≡◌ {A = ℕ} 0 1 = cc in absurd (omega arith); refused = λ y z. refl }

  pub written-refused : {r : Misdrawn} → examined text ≡ Err r → WrittenIs text out out (Err (OfChart r))
  unfolding written written_by
  written-refused {r} e = turned (OfChart r) (rw e)

  pub written-short : {chart : Chart} → examined text ≡ Ok chart → leb ((chart.positions + 1) * 22) (length out) ≡ false → WrittenIs text out out (Err Short)
  unfolding written written_by
  written-short e short = turned Short (rw (e, short))

  pub written-taken : {chart : Chart} {m : ℕ} {owners marks costs froms tos out' : List ℕ} → examined text ≡ Ok chart
      → leb ((chart.positions + 1) * 22) (length out) ≡ true → RowsOf (arena_of text) chart.positions m owners marks costs froms tos
      → PlateWritten chart.positions m owners marks costs froms tos out out'
      → WrittenIs text out out' (Ok ((chart.positions + 1) * 22))
  unfolding written written_by
  written-taken {chart} e room d plate =
      record {
        answer = rw (e, room);
        taken = λ k z. let f : (chart.positions + 1) * 22 ≡ k = cc in rw (← f) (plate.bytes (arena_of text) d);
        refused = λ x z. let w : ◌≡◌ {A = ℕ} 0 1 = cc in absurd (omega arith);
      }
