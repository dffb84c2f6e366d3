-- The answers of the job: over the rows that its functions fill, and from the chart's text.
use Prim.Native.Nat.{ℕ, suc, ◌+◌, ◌*◌, ◌≤◌, ◌<◌}
use native.Mathlib.Omega.{arith}
use Rattle.std.proofs.Common.{add-one, ◌∙◌}
use Rattle.std.proofs.Math.Path.{◌≡◌, refl, sym, ap, subst}
use Rattle.std.specs.Prelude.{Bool, true, false, not, length, leb, Result, Ok, Err, Option, Some, None}
use mathlib.Core.List.{List, ◌++◌}
use Rattle.std.proofs.Math.ListN.{get_or, drop}
use borrow.Author.Tests.{lt-ltb, le-ltb}
use Rattle.search.specs.Below.{some_below, bit}
use Rattle.rows.specs.Rows.{RowIs, Filled, RowsOf}
use Rattle.rows.specs.Numbers.{number_of, value_of, number_at, row_value}
use Rattle.rows.specs.NumberLaws.{value-of-number}
use Rattle.rows.specs.Notes.{Noted}
use Rattle.rows.specs.declared.Chart.{Chart}
use Rattle.game.specs.Value.{Value, fin, ever}
use Rattle.game.proofs.ValueLaws.{fin-injective}
use Rattle.game.specs.Arena.{Arena, size}
use Rattle.game.specs.Play.{Legal}
use Rattle.game.specs.Restrict.{restricted}
use Rattle.game.specs.Table.{round_value}
use Rattle.way.specs.Way.{moves}
use Rattle.way.specs.Tight.{moves_left, way_after}
use Rattle.way.proofs.WayLaws.{moves-are-left, the-way-is-tight, the-way-is-shortest, the-way-has-moves}
use Rattle.distances.specs.Distances.{Joins, Distances}
use Rattle.way_rows.specs.Steps.{straight_to, Pointed, LeadsOn, Followed}
use Rattle.way_rows.specs.StepsLaws.{stops-inside}
use Rattle.chart.specs.Meaning.{arena_of}
use Rattle.chart.specs.Examined.{examined}
use Rattle.refusal.specs.declared.Misdrawn.{Misdrawn}
use Rattle.refusal.specs.declared.Refusal.TheVariants.{Chart as OfChart, Short, Choice, Position, Ever}
use Rattle.restriction.specs.Restriction.{is_chosen, is_legal}
use Rattle.weighing.specs.Weighing.{legal_row, WeighedRows, RestrictedSolved}
use Rattle.weighing.specs.WeighingLaws.{worths-fit, legal-row-is, flags-say-legal}
use Rattle.sheet_lines.specs.Lines.{pair_lines}
use Rattle.ruin.specs.Ruin.{way_count, way_by, ruined_rows, ruined_by, ruined, WayWritten, RuinedIs, WayLines, WayFollowed, WayFound, WayListed, RowsRuined}
use Rattle.ruin.specs.TightRows.{straight-joins, left-row, row-leads, row-leads-on}
use Rattle.refusal.specs.declared.Refusal.{Refusal}
use Rattle.ruin.specs.WayLines.{followed-lines}

-- the count of lines is that of the moves that are left, and one
pub way-counted : (a : Arena) (v j : ℕ) → moves_left a v ≡ fin j → way_count a v ≡ suc j
unfolding way_count number_of
way-counted a v j e = rw e

-- Following the way, over the rows of the moves that stay

module _ {a : Arena} {choice : ℕ → Value} {n m : ℕ} {owners marks costs froms tos worths : List ℕ} (w : WeighedRows a choice n m owners marks costs froms tos worths) where
  abbrev r : Arena
  r = restricted a choice

  size_is : size a ≡ n
  unfolding restricted
  size_is = w.rows.positions

  -- a number in the row of worths that is not 65,535 is a worth that is a number
  worth_number : (v : ℕ) → v < n → (get_or worths v 0 ≡ 65535 → ⊥) → (k : ℕ) × (round_value r v ≡ fin k)
  unfolding number_of
  worth_number v l finite = go (round_value r v) refl
    where
      go : (x : Value) → round_value r v ≡ x → (k : ℕ) × (round_value r v ≡ fin k)
      go (fin k) e = (k, e)
      go ever e = absurd (finite (w.worth v l ∙ ap number_of e))

  left_at : (v : ℕ) → v < n → (get_or worths v 0 ≡ 65535 → ⊥) → (j : ℕ) × (moves_left r v ≡ fin j) × (j < n)
  left_at v l finite =
      let k = worth_number v l finite in
      let j = moves-are-left a w.well choice w.legal v k.0 (rw size_is l) k.1 in
      (j.0, j.1, rw size_is at j.2)

  module _ {straight₀ straight : List ℕ} (filled : Filled straight₀ straight m (straight_to worths costs froms tos)) where
    pub straight-moves : m ≤ length straight → Joins n m froms straight
    straight-moves room = straight-joins r worths w.rows w.worth filled room

    module _ {left next : List ℕ} (counted : Distances n m marks froms straight left) (pointed : Pointed n froms straight left m next) where
      left_is : RowIs left n (λ v. number_of (moves_left r v))
      left_is = left-row r worths w.rows w.worth filled counted

      pub leads-on : LeadsOn n worths left next
      leads-on = row-leads-on r worths w.rows w.worth filled left left_is pointed

      pub few-left : (v : ℕ) → v < n → (get_or worths v 0 ≡ 65535 → ⊥) → get_or left v 0 < n
      unfolding number_of
      few-left v l finite = let j = left_at v l finite in rw (left_is v l, j.1) j.2

      pub way-lines : {v count : ℕ} {positions led : List ℕ} → v < n → (get_or worths v 0 ≡ 65535 → ⊥) → Followed v worths left next positions led count → WayLines a choice v positions led count
      unfolding number_of
      way-lines {v} l finite followed =
          let k = worth_number v l finite in
          let j = left_at v l finite in
          let inside : v < size a = rw size_is l in
          let leading = row-leads r worths w.rows w.worth filled left left_is pointed in
          let number : get_or left v 0 ≡ j.0 = left_is v l ∙ ap number_of j.1 in
          record {
            next = λ u. get_or next u 0;
            leading = leading;
            worth = k.0;
            is-worth = k.1;
            left = j.0;
            is-left = j.1;
            counted = followed.counted ∙ rw (add-one, number);
            lines =
                followed-lines r v worths next n j.0 w.worth
                (λ i h. (stops-inside leads-on l (few-left v l finite) i (omega arith)).0)
                (λ i h. the-way-is-tight a w.well choice w.legal (λ u. get_or next u 0) leading v inside k.0 j.0 k.1 j.1 i h)
                followed number;
          }

-- Finding it

module _ {n m count : ℕ} {owners marks costs froms tos choices worths₀ costs' froms' tos' worths : List ℕ}
    (solved : RestrictedSolved n m owners marks costs froms tos choices worths₀ count costs' froms' tos' worths) where
  ever-there : (a : Arena) (d : RowsOf a n m owners marks costs froms tos) (legal : Legal a (row_value choices)) (v : ℕ) → v < n → get_or worths v 0 ≡ 65535
      → round_value (restricted a (row_value choices)) v ≡ ever
  unfolding value_of
  ever-there a d legal v l e =
      let x = round_value (restricted a (row_value choices)) v in
      let few : size a ≤ 512 = let p = d.positions in let h = d.few-positions in omega arith in
      sym (value-of-number x (worths-fit a d.well (row_value choices) legal few v)) ∙ ap value_of (sym ((solved.rows a d legal).worth v l) ∙ e)

  pub found_none : {v : ℕ} {positions led : List ℕ} → v < n → get_or worths v 0 ≡ 65535 → WayFound n m owners marks costs froms tos choices v positions led None
  found_none {v} l e = record { none = λ a d legal z. ever-there a d legal v l e; some = λ a d legal k z. let w : ◌≡◌ {A = ℕ} 0 1 = cc in absurd (omega arith) }

  pub found_some : {v lines : ℕ} {positions led : List ℕ} → WayFollowed n count marks costs' froms' tos' worths v positions led lines
      → WayFound n m owners marks costs froms tos choices v positions led (Some lines)
  found_some {v} {lines} {positions} {led} followed = record {
    none = λ a d legal z. let w : ◌≡◌ {A = ℕ} 0 1 = cc in absurd (omega arith);
    some = λ a d legal k z.
        let same : lines ≡ k = cc in
        subst (λ (x : ℕ). WayLines a (row_value choices) v positions led x) same (followed.way a (row_value choices) owners (solved.rows a d legal));
  }

-- Listing it

module _ {n m v : ℕ} {owners marks costs froms tos choices positions led : List ℕ} where
  pub way-ever : {out : List ℕ} → WayFound n m owners marks costs froms tos choices v positions led None → WayListed n m owners marks costs froms tos choices v out out (Err Ever)
  unfolding way_by
  way-ever found = record {
    answer = λ a d legal. rw (found.none a d legal refl);
    taken = λ a d legal k z. let w : ◌≡◌ {A = ℕ} 0 1 = cc in absurd (omega arith);
    refused = λ x z. refl;
  }

  module _ {lines : ℕ} {r : Option ℕ} (found : WayFound n m owners marks costs froms tos choices v positions led r) (some : r ≡ Some lines) where
    -- there are at most as many lines as positions
    pub few-lines : (a : Arena) → RowsOf a n m owners marks costs froms tos → Legal a (row_value choices) → v < n → lines ≤ n
    few-lines a d legal l =
        let way = found.some a d legal lines some in
        let p = d.positions in
        let j = moves-are-left a d.well (row_value choices) legal v way.worth (omega arith) way.is-worth in
        let same = fin-injective way.left j.0 (sym way.is-left ∙ j.1) in
        omega (arith, way.counted, j.2)

    counted-as : (a : Arena) (d : RowsOf a n m owners marks costs froms tos) (legal : Legal a (row_value choices)) → way_count (restricted a (row_value choices)) v ≡ lines
    counted-as a d legal = let way = found.some a d legal lines some in way-counted (restricted a (row_value choices)) v way.left way.is-left ∙ sym way.counted

    pub way-short : {out : List ℕ} → leb (lines * 12) (length out) ≡ false → WayListed n m owners marks costs froms tos choices v out out (Err Short)
    unfolding way_by
    way-short short = record {
      answer = λ a d legal. rw ((found.some a d legal lines some).is-worth, counted-as a d legal, short);
      taken = λ a d legal k z. let w : ◌≡◌ {A = ℕ} 0 1 = cc in absurd (omega arith);
      refused = λ x z. refl;
    }

    pub way-listed : {out out' : List ℕ} → v < n → leb (lines * 12) (length out) ≡ true → out' ≡ pair_lines 87 positions led lines ++ drop (lines * 12) out
        → WayListed n m owners marks costs froms tos choices v out out' (Ok lines)
    unfolding way_by
    way-listed {out} {out'} l room bytes = record {
      answer = λ a d legal. rw ((found.some a d legal lines some).is-worth, counted-as a d legal, room);
      taken = λ a d legal k z. let e : lines ≡ k = cc in subst (λ (x : ℕ). WayWritten a choices v x out out') e (written a d legal);
      refused = λ x z. let w : ◌≡◌ {A = ℕ} 0 1 = cc in absurd (omega arith);
    }
      where
        written : (a : Arena) → RowsOf a n m owners marks costs froms tos → Legal a (row_value choices) → WayWritten a choices v lines out out'
        written a d legal =
            let way = found.some a d legal lines some in
            let inside : v < size a = rw d.positions l in
            record {
              legal = legal;
              trail = way_after (round_value (restricted a (row_value choices))) way.next v way.left;
              way = the-way-is-shortest a d.well (row_value choices) legal way.next way.leading v inside way.worth way.left way.is-worth way.is-left;
              counted = way.counted ∙ ap suc (sym (the-way-has-moves a d.well (row_value choices) legal way.next way.leading v inside way.worth way.left way.is-worth way.is-left));
              bytes = bytes ∙ ap (λ (x : List ℕ). x ++ drop (lines * 12) out) way.lines;
            }

-- The tests before it

legal-as : {n m : ℕ} {owners marks costs froms tos : List ℕ} (choices flags : List ℕ) {b : Bool} → Noted n (number_at froms) (is_chosen costs froms tos choices) (λ u. bit) m flags
    → not (some_below (λ u. not (is_legal owners choices flags u)) n) ≡ b → (a : Arena) → RowsOf a n m owners marks costs froms tos → legal_row a (row_value choices) (size a) ≡ b
legal-as {n} {m} {owners} {marks} {costs} {froms} {tos} choices flags noted e a d =
    rw d.positions (sym (legal-row-is a n m owners marks costs froms tos choices d flags noted) ∙ e)

module _ {n m : ℕ} {owners marks costs froms tos choices flags : List ℕ} (noted : Noted n (number_at froms) (is_chosen costs froms tos choices) (λ u. bit) m flags) where
  pub rows-choice : {v : ℕ} {out : List ℕ} → not (some_below (λ u. not (is_legal owners choices flags u)) n) ≡ false → RowsRuined n m owners marks costs froms tos choices v out out (Err Choice)
  unfolding ruined_rows
  rows-choice e = record {
    answer = λ a d. rw (legal-as choices flags noted e a d);
    taken = λ a d k z. let w : ◌≡◌ {A = ℕ} 0 1 = cc in absurd (omega arith);
    refused = λ x z. refl;
  }

  module _ (e : not (some_below (λ u. not (is_legal owners choices flags u)) n) ≡ true) where
    pub rows-position : {v : ℕ} {out : List ℕ} → n ≤ v → RowsRuined n m owners marks costs froms tos choices v out out (Err Position)
    unfolding ruined_rows
    rows-position {v} l = record {
      answer = λ a d. rw (legal-as choices flags noted e a d, le-ltb v (size a) (rw d.positions l));
      taken = λ a d k z. let w : ◌≡◌ {A = ℕ} 0 1 = cc in absurd (omega arith);
      refused = λ x z. refl;
    }

    pub rows-way : {v : ℕ} {out out' : List ℕ} {r : Result ℕ Refusal} → v < n → WayListed n m owners marks costs froms tos choices v out out' r → RowsRuined n m owners marks costs froms tos choices v out out' r
    unfolding ruined_rows
    rows-way {v} l listed = record {
      answer = λ a d. rw (legal-as choices flags noted e a d, lt-ltb v (size a) (rw d.positions l)) (listed.answer a d (flags-say-legal a n m owners marks costs froms tos choices d flags noted e));
      taken = λ a d. listed.taken a d (flags-say-legal a n m owners marks costs froms tos choices d flags noted e);
      refused = listed.refused;
    }

-- The answers of the job

module _ {text choices out : List ℕ} {v : ℕ} where
  pub ruined-refused : {x : Misdrawn} → examined text ≡ Err x → RuinedIs text choices v out out (Err (OfChart x))
  unfolding ruined ruined_by
  ruined-refused e = record {
    answer = rw e;
    taken = λ k z. let w : ◌≡◌ {A = ℕ} 0 1 = cc in absurd (omega arith);
    refused = λ x z. refl;
  }

  pub ruined-short : {chart : Chart} → examined text ≡ Ok chart → leb chart.positions (length choices) ≡ false → RuinedIs text choices v out out (Err Short)
  unfolding ruined ruined_by
  ruined-short e short = record {
    answer = rw (e, short);
    taken = λ k z. let w : ◌≡◌ {A = ℕ} 0 1 = cc in absurd (omega arith);
    refused = λ x z. refl;
  }

  pub ruined-rows : {chart : Chart} {n m : ℕ} {owners marks costs froms tos out' : List ℕ} {r : Result ℕ Refusal} → examined text ≡ Ok chart → leb chart.positions (length choices) ≡ true
      → RowsOf (arena_of text) n m owners marks costs froms tos → RowsRuined n m owners marks costs froms tos choices v out out' r → RuinedIs text choices v out out' r
  unfolding ruined ruined_by
  ruined-rows e room d rows = record { answer = rw (e, room) (rows.answer (arena_of text) d); taken = rows.taken (arena_of text) d; refused = rows.refused }
