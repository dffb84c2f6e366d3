-- The lines of the moves that the rows' test picks are the arena's sheet, and the job's answers.
use Rattle.std.specs.Prelude.{ℕ, ◌*◌, ◌≤◌, ◌<◌, refl, true, false, length, get_or, leb, Result, Ok, Err}
use Rattle.std.proofs.Common.{arith, ◌∙◌}
use Rattle.std.proofs.Math.Path.{◌≡◌, sym, ap, ap₂}
use mathlib.Core.List.{List, [], ◌∷◌, ◌++◌}
use Rattle.std.proofs.Math.ListN.{drop}
use Rattle.line.specs.Text.{line_text}
use Rattle.line.specs.Joined.{joined}
use Rattle.line.specs.JoinedLaws.{joined_same}
use Rattle.line.specs.declared.Entry.TheVariants.{Number}
use Rattle.rows.specs.Rows.{RowIs, RowsOf}
use Rattle.rows.specs.RowsLaws.{from-inside, to_inside, owner-test}
use Rattle.rows.specs.Numbers.{number_of}
use Rattle.rows.specs.NumberLaws.{Fits, at-most-numbers}
use Rattle.rows.specs.Copies.{CopyOf, kept-count, kept-column}
use Rattle.rows.specs.declared.Chart.{Chart}
use Rattle.game.specs.Arena.{Arena, Move, size, move_at, no_move}
use Rattle.game.specs.Table.{round_value}
use Rattle.game.specs.GoodMoves.{holds_value, good_move, good_moves}
use Rattle.chart.specs.Meaning.{arena_of}
use Rattle.chart.specs.Examined.{examined}
use Rattle.refusal.specs.declared.Misdrawn.{Misdrawn}
use Rattle.refusal.specs.declared.Refusal.TheVariants.{Chart as OfChart, Short}
use Rattle.solver.specs.Solving.{Solved}
use Rattle.valuing.specs.ValuingLaws.{round-value-fits}
use Rattle.good_moves.specs.Picking.{is_good, Picked}
use Rattle.sheet_lines.specs.Lines.{pair_lines}
use Rattle.listing.specs.Sheet.{good_line}
use Rattle.refusal.specs.declared.Refusal.{Refusal}
use Rattle.listing.specs.Listing.{good_count, good_sheet, listed_rows, listed_by, listed, RowsListed, ListedIs}

module _ {n m : ℕ} {owners marks costs froms tos values₀ values steps₀ steps positions targets : List ℕ} {count : ℕ}
    (solved : Solved n m owners marks costs froms tos values₀ steps₀ values steps)
    (picked : Picked owners costs froms tos values m count positions targets) where
  module _ (a : Arena) (d : RowsOf a n m owners marks costs froms tos) where
    few : size a ≤ 512
    few = let p = d.positions in let h = d.few-positions in omega arith

    value_row : RowIs values n (λ v. number_of (round_value a v))
    unfolding round_value
    value_row = (solved.rows a d).value

    fits : (v : ℕ) → Fits (round_value a v)
    fits v = round-value-fits a d.well few v

    -- the rows' test is the arena's
    good-is : (j : ℕ) → j < m → is_good owners costs froms tos values j ≡ good_move a (move_at a j)
    unfolding is_good good_move holds_value
    good-is j l =
        let from = from-inside a n m owners marks costs froms tos d j l in
        let to = to_inside a n m owners marks costs froms tos d j l in
        rw (
          d.cost j l,
          d.from j l,
          d.to j l,
          owner-test a n m owners marks costs froms tos d (move_at a j).from from,
          value_row (move_at a j).from from,
          value_row (move_at a j).to to,
          at-most-numbers (round_value a (move_at a j).from) (round_value a (move_at a j).to) (fits (move_at a j).from) (fits (move_at a j).to),
        )

    pub count-is : count ≡ good_count a
    unfolding good_count good_moves
    count-is = picked.counted ∙ sym (kept-count a m d.moves (good_move a) (is_good owners costs froms tos values) good-is)

    -- a column of the good moves
    column : (f : Move → ℕ) (row copy : List ℕ) → RowIs row m (λ i. f (move_at a i)) → CopyOf (is_good owners costs froms tos values) m row copy
        → RowIs copy count (λ j. f (get_or (good_moves a) j no_move))
    unfolding good_moves
    column f row copy is copied j l =
        kept-column a m d.moves (good_move a) (is_good owners costs froms tos values) good-is f row copy is copied j
        (omega (arith, picked.counted, kept-count a m d.moves (good_move a) (is_good owners costs froms tos values) good-is))

    lines_are : pair_lines 71 positions targets count ≡ good_sheet a
    unfolding pair_lines good_sheet
    lines_are =
        joined_same _ (λ i. good_line (get_or (good_moves a) i no_move)) count
        (λ j l. ap₂ (λ (x y : ℕ). line_text 71 (Number x ∷ Number y ∷ [])) (column (λ x. x.from) froms positions d.from picked.position j l) (column (λ x. x.to) tos targets d.to picked.target j l))
        ∙ ap (joined (λ i. good_line (get_or (good_moves a) i no_move))) count-is

  pub rows_short : {out : List ℕ} → leb (count * 12) (length out) ≡ false → RowsListed n m owners marks costs froms tos out out (Err Short)
  unfolding listed_rows
  rows_short {out} short = record {
    answer = λ a d. rw (← count-is a d, short);
    taken = λ a d k z. let w : ◌≡◌ {A = ℕ} 0 1 = cc in absurd (omega arith);
    refused = λ x z. refl;
  }

  pub rows-listed : {out out' : List ℕ} → leb (count * 12) (length out) ≡ true → out' ≡ pair_lines 71 positions targets count ++ drop (count * 12) out
      → RowsListed n m owners marks costs froms tos out out' (Ok count)
  unfolding listed_rows
  rows-listed {out} {out'} room bytes = record {
    answer = λ a d. rw (← count-is a d, room);
    taken = λ a d k z. let f : count ≡ k = cc in rw (← f) (bytes ∙ ap (λ (p : List ℕ). p ++ drop (count * 12) out) (lines_are a d));
    refused = λ x z. let w : ◌≡◌ {A = ℕ} 0 1 = cc in absurd (omega arith);
  }

-- The answers

module _ {text out : List ℕ} where
  pub listed-refused : {r : Misdrawn} → examined text ≡ Err r → ListedIs text out out (Err (OfChart r))
  unfolding listed listed_by
  listed-refused {r} e = record {
    answer = rw e;
    taken = λ k z. let w : ◌≡◌ {A = ℕ} 0 1 = cc in absurd (omega arith);
    refused = λ x z. refl;
  }

  pub listed-rows : {chart : Chart} {n m : ℕ} {owners marks costs froms tos out' : List ℕ} {r : Result ℕ Refusal} → examined text ≡ Ok chart
      → RowsOf (arena_of text) n m owners marks costs froms tos → RowsListed n m owners marks costs froms tos out out' r → ListedIs text out out' r
  unfolding listed listed_by
  listed-rows e d rows = record { answer = rw e (rows.answer (arena_of text) d); taken = rows.taken (arena_of text) d; refused = rows.refused }
