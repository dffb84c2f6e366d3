-- The rounds of one value, one after the other: a round more carries the rows one table further, and where it places
-- nobody they hold the last one.
use Rattle.std.specs.Prelude.{ℕ, suc, ◌+◌, ◌<◌, ◌≡◌, refl, List, length}
use Rattle.std.proofs.Math.Numerals.{add-one}
use Rattle.std.proofs.Common.{arith, sym, subst, ◌∙◌}
use Rattle.rows.specs.Rows.{Stays, RowsOf}
use Rattle.rows.specs.Numbers.{number_at}
use Rattle.rows.specs.Notes.{Noted}
use Rattle.game.specs.Arena.{Arena}
use Rattle.game.specs.Table.{Table, ready, table_after}
use Rattle.game.proofs.Stable.{Settled, settled-stays, steps-stop-early}
use Rattle.round.specs.Round.{Placing, decides, ready_flag}
use Rattle.round.specs.Held.{Holds, Flags}
use Rattle.solver.specs.Solving.{Settling}
use Rattle.round.specs.HeldLaws.{place-holds, none-taken, ready-flag}

module _ {n m : ℕ} {owners costs froms tos : List ℕ} {k : ℕ} {values steps : List ℕ} where
  pub settling-none : Settling n m owners costs froms tos k 0 values steps values steps
  settling-none = record { rows = λ a marks start d full held. held; values-stay = λ j l. refl; steps-stay = λ j l. refl }

  pub settling-done : {s : ℕ} {values' steps' : List ℕ} → s ≡ n → Settling n m owners costs froms tos k s values steps values' steps'
      → Settling n m owners costs froms tos k n values steps values' steps'
  settling-done {values'} {steps'} e h = subst (λ (i : ℕ). Settling n m owners costs froms tos k i values steps values' steps') e h

  module _ {s : ℕ} {values' steps' flags values'' steps'' : List ℕ} {count : ℕ} (small : k < 65535)
      (so_far : Settling n m owners costs froms tos k s values steps values' steps')
      (noted : Noted n (number_at froms) (decides owners costs froms tos values') (ready_flag owners) m flags)
      (round : Placing n flags k (s + 1) values' steps' values'' steps'' count) where
    flagged : (a : Arena) (marks : List ℕ) (start : Table) → RowsOf a n m owners marks costs froms tos → Holds (table_after a start k s) n values' steps'
        → Flags (ready a (table_after a start k s)) n flags
    flagged a marks start d held v l = ready-flag a n m owners marks costs froms tos d (table_after a start k s) values' steps' held v l flags noted

    after : (a : Arena) (marks : List ℕ) (start : Table) → RowsOf a n m owners marks costs froms tos → Holds (table_after a start k s) n values' steps'
        → Holds (table_after a start k (suc s)) n values'' steps''
    unfolding table_after
    after a marks start d held =
        place-holds (ready a (table_after a start k s)) (table_after a start k s) n k (suc s) flags values' steps' values'' steps'' count small (flagged a marks start d held) held
        (rw add-one at round)

    values-kept : Stays n values values''
    values-kept j l = round.value.rest j l ∙ so_far.values-stay j l

    steps-kept : Stays n steps steps''
    steps-kept j l = round.step.rest j l ∙ so_far.steps-stay j l

    pub settling-next : Settling n m owners costs froms tos k (s + 1) values steps values'' steps''
    settling-next =
        record {
          rows = λ a marks start d full held. rw add-one (after a marks start d (so_far.rows a marks start d full held));
          values-stay = values-kept;
          steps-stay = steps-kept;
        }

    -- nobody was placed: this is the table after the last round
    pub settling-stops : count ≡ 0 → Settling n m owners costs froms tos k n values steps values'' steps''
    settling-stops none = record { rows = last; values-stay = values-kept; steps-stay = steps-kept }
      where
        last : (a : Arena) (marks : List ℕ) (start : Table) → RowsOf a n m owners marks costs froms tos → length start ≡ n
            → Holds (table_after a start k 0) n values steps → Holds (table_after a start k n) n values'' steps''
        last a marks start d full held =
            let here : Holds (table_after a start k s) n values' steps' = so_far.rows a marks start d full held in
            let settled : Settled a (table_after a start k s) = none-taken (ready a (table_after a start k s)) (table_after a start k s) n k (s + 1) flags values' steps' values'' steps'' count small (flagged a marks start d here) here round none in
            let stays : table_after a start k n ≡ table_after a start k (suc s) =
            subst (λ (i : ℕ). table_after a start k i ≡ table_after a start k (suc s)) d.positions
            (steps-stop-early a start k (full ∙ sym d.positions) s settled ∙ sym (settled-stays a start k s (suc s) (omega arith) settled)) in
            rw stays (after a marks start d here)
