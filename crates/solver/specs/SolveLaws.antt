-- All rounds, value after value: where the first round of a value places nobody, the table is that of the last round.
use Rattle.std.specs.Prelude.{ℕ, suc, ◌+◌, ◌≤◌, ◌<◌, ◌≡◌, refl, List, replicate}
use Rattle.std.proofs.Math.Numerals.{add-one}
use Rattle.std.proofs.Common.{arith, sym, ◌∙◌}
use Rattle.std.proofs.Math.Path.{ap, subst}
use Rattle.std.proofs.lemmas.List.{length-replicate, get_or-replicate}
use Rattle.std.proofs.Math.Dec.{eqb}
use Rattle.search.specs.Below.{bit}
use Rattle.rows.specs.Rows.{Filled, RowsOf}
use Rattle.rows.specs.Numbers.{number_of, number_at}
use Rattle.rows.specs.Notes.{Noted}
use Rattle.game.specs.Arena.{Arena}
use Rattle.game.specs.Table.{Table, unplaced, placed, is_placed, placed_value, placed_step, begins, table_after, table_before, table}
use Rattle.game.proofs.TableLaws.{Takes, place_none}
use Rattle.game.proofs.RoundTables.{before-length}
use Rattle.game.proofs.Stable.{values-end, values-stop-at-a-quiet-round}
use Rattle.round.specs.Round.{Placing, disturbs}
use Rattle.round.specs.Held.{Holds, Flags}
use Rattle.solver.specs.Solving.{Settling, Solving, Solved}
use Rattle.round.specs.HeldLaws.{place-holds, none-taken, disturbed-flag}

-- cleared rows hold the empty table
cleared : (n : ℕ) {values steps values' steps' : List ℕ} → Filled values values' n (λ v. 65535) → Filled steps steps' n (λ v. 65535)
    → Holds (replicate n unplaced) n values' steps'
unfolding number_of placed_value placed_step is_placed
cleared n vs ss =
    record {
      full = length-replicate n unplaced;
      value = λ v l. rw (get_or-replicate n v unplaced unplaced l) (vs.row v l);
      step = λ v l. rw (get_or-replicate n v unplaced unplaced l) (ss.row v l);
      unplaced = λ v l. rw (get_or-replicate n v unplaced unplaced l, vs.row v l);
    }

module _ {n m : ℕ} {owners marks costs froms tos values steps : List ℕ} where
  pub solving-first : {values¹ steps¹ values² steps² values³ steps³ : List ℕ} {count : ℕ}
      → Filled values values¹ n (λ v. 65535) → Filled steps steps¹ n (λ v. 65535) → Placing n marks 0 0 values¹ steps¹ values² steps² count
      → Settling n m owners costs froms tos 0 n values² steps² values³ steps³
      → Solving n m owners marks costs froms tos 0 values steps values³ steps³
  unfolding table_before table_after begins
  solving-first {values¹} {steps¹} {values²} {steps²} {values³} {steps³} {count} vs ss round settled =
      record {
        rows = rows;
        values-stay = λ j l. settled.values-stay j l ∙ round.value.rest j l ∙ vs.rest j l;
        steps-stay = λ j l. settled.steps-stay j l ∙ round.step.rest j l ∙ ss.rest j l;
      }
    where
      rows : (a : Arena) → RowsOf a n m owners marks costs froms tos → Holds (table_before a (suc 0)) n values³ steps³
      rows a d =
          let empty : Holds (table_before a 0) n values¹ steps¹ = subst (λ (i : ℕ). Holds (replicate i unplaced) n values¹ steps¹) (sym d.positions) (cleared n vs ss) in
          let flagged : Flags (begins a 0 (table_before a 0)) n marks = λ v l. ap (λ (x : ℕ). eqb x 1) (d.mark v l) in
          let first : Holds (table_after a (table_before a 0) 0 0) n values² steps² =
          place-holds (begins a 0 (table_before a 0)) (table_before a 0) n 0 0 marks values¹ steps¹ values² steps² count (omega arith) flagged empty round in
          subst (λ (i : ℕ). Holds (table_after a (table_before a 0) 0 i) n values³ steps³) (sym d.positions) (settled.rows a marks (table_before a 0) d (before-length a 0 ∙ d.positions) first)

  -- what the rows held at first matters only past the n-th number
  pub begin-again : {last : ℕ} {values' steps' : List ℕ} → Solving n m owners marks costs froms tos last values steps values' steps'
      → Solving n m owners marks costs froms tos last values' steps' values' steps'
  begin-again h = record { rows = h.rows; values-stay = λ j l. refl; steps-stay = λ j l. refl }

  pub solved-after : {last : ℕ} {values' steps' values'' steps'' : List ℕ} → Solving n m owners marks costs froms tos last values steps values' steps'
      → Solved n m owners marks costs froms tos values' steps' values'' steps'' → Solved n m owners marks costs froms tos values steps values'' steps''
  solved-after h g =
      record {
        rows = g.rows;
        values-stay = λ j l. g.values-stay j l ∙ h.values-stay j l;
        steps-stay = λ j l. g.steps-stay j l ∙ h.steps-stay j l;
      }

  module _ {last : ℕ} {values' steps' : List ℕ} (so_far : Solving n m owners marks costs froms tos last values steps values' steps') where
    -- n values are all
    pub solving-done : n ≤ last → Solved n m owners marks costs froms tos values steps values' steps'
    solving-done l = record { rows = rows; values-stay = so_far.values-stay; steps-stay = so_far.steps-stay }
      where
        rows : (a : Arena) → RowsOf a n m owners marks costs froms tos → Holds (table a) n values' steps'
        rows a d =
            let p = d.positions in
            subst (λ (t : Table). Holds t n values' steps') (values-end a (suc last) (omega arith)) (so_far.rows a d)

    module _ {flags values'' steps'' : List ℕ} {count : ℕ} (small : last + 1 < 65535)
        (noted : Noted n (number_at froms) (disturbs costs tos values' last) (λ v. bit) m flags)
        (round : Placing n flags (last + 1) 0 values' steps' values'' steps'' count) where
      flagged : (a : Arena) → RowsOf a n m owners marks costs froms tos → Holds (table_before a (suc last)) n values' steps'
          → Flags (begins a (suc last) (table_before a (suc last))) n flags
      flagged a d held v l = disturbed-flag a n m owners marks costs froms tos d (table_before a (suc last)) values' steps' held v l last (omega arith) flags noted

      after : (a : Arena) → RowsOf a n m owners marks costs froms tos → Holds (table_before a (suc last)) n values' steps'
          → Holds (table_after a (table_before a (suc last)) (suc last) 0) n values'' steps''
      unfolding table_after
      after a d held =
          place-holds (begins a (suc last) (table_before a (suc last))) (table_before a (suc last)) n (suc last) 0 flags values' steps' values'' steps'' count (omega arith)
          (flagged a d held) held (rw add-one at round)

      pub solving-next : {values''' steps''' : List ℕ} → Settling n m owners costs froms tos (last + 1) n values'' steps'' values''' steps'''
          → Solving n m owners marks costs froms tos (last + 1) values steps values''' steps'''
      unfolding table_before
      solving-next {values'''} {steps'''} settled =
          record {
            rows = λ a d. rows a d (so_far.rows a d);
            values-stay = λ j l. settled.values-stay j l ∙ round.value.rest j l ∙ so_far.values-stay j l;
            steps-stay = λ j l. settled.steps-stay j l ∙ round.step.rest j l ∙ so_far.steps-stay j l;
          }
        where
          rows : (a : Arena) → RowsOf a n m owners marks costs froms tos → Holds (table_before a (suc last)) n values' steps' → Holds (table_before a (suc (last + 1))) n values''' steps'''
          rows a d held =
              rw add-one
              (subst (λ (i : ℕ). Holds (table_after a (table_before a (suc last)) (suc last) i) n values''' steps''') (sym d.positions)
              ((rw add-one at settled).rows a marks (table_before a (suc last)) d (before-length a (suc last) ∙ d.positions) (after a d held)))

      -- nobody was placed, and so nobody is in any later round
      pub solving-stops : count ≡ 0 → Solved n m owners marks costs froms tos values steps values'' steps''
      unfolding table_after
      solving-stops none =
          record {
            rows = λ a d. rows a d (so_far.rows a d);
            values-stay = λ j l. round.value.rest j l ∙ so_far.values-stay j l;
            steps-stay = λ j l. round.step.rest j l ∙ so_far.steps-stay j l;
          }
        where
          rows : (a : Arena) → RowsOf a n m owners marks costs froms tos → Holds (table_before a (suc last)) n values' steps' → Holds (table a) n values'' steps''
          rows a d held =
              let t = table_before a (suc last) in
              let quiet : (v : ℕ) → Takes (begins a (suc last) t) t v → ⊥ = none-taken (begins a (suc last) t) t n (last + 1) 0 flags values' steps' values'' steps'' count small (flagged a d held) held round none in
              rw (values-stop-at-a-quiet-round a last quiet)
              (subst (λ (x : Table). Holds x n values'' steps'') (place_none (begins a (suc last) t) (placed (suc last) 0) t quiet) (after a d held))
