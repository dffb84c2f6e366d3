-- The good moves' proof: the sheet's lines read as the good moves and as no others (listing/specs/SheetLaws.antt), and of good moves the
-- theory knows the rest (game/proofs/GoodLaws.antt).
use Rattle.std.specs.Prelude.{ℕ, ◌*◌, ◌≤◌, ◌<◌, ◌≡◌, refl, ◌↔◌, Bool, true, false, cond, List, ◌++◌, length, get_or, take, drop, leb, Result, Ok, Err}
use Rattle.std.proofs.Common.{arith, sym, ap, subst₂, ◌∙◌, take_at, drop_at}
use Rattle.std.proofs.Math.Path.{subst}
use Rattle.rows.specs.declared.Chart.{Chart}
use Rattle.field.specs.declared.Field.{Field}
use Rattle.field.specs.declared.Field.TheVariants.{Number}
use Rattle.game.specs.Value.{Value}
use Rattle.game.specs.Arena.{Arena, Move, WellFormed, size, no_move}
use Rattle.game.specs.Play.{Controller, Legal, target_of, positional}
use Rattle.game.specs.Worth.{WorthIs}
use Rattle.game.specs.Table.{round_value}
use Rattle.game.proofs.RoundValues.{rounds-give-the-values, the-value-is-the-rounds}
use Rattle.game.proofs.Optimal.{WorthsAre, Unsurpassed, optimal-both-ways}
use Rattle.game.specs.Good.{Good}
use Rattle.game.specs.GoodMoves.{good_moves}
use Rattle.game.proofs.GoodLaws.{AllGood, optimal-exactly-good, only-good-is-worth}
use Rattle.chart.specs.Meaning.{arena_of}
use Rattle.chart.specs.Lines.{Reads}
use Rattle.chart.specs.Examined.{examined}
use Rattle.chart.specs.Accepted.{accepted-chartable}
use Rattle.refusal.specs.declared.Refusal.TheVariants.{Short}
use Rattle.plate.specs.Read.{choice_in_plate}
use Rattle.checking.specs.Plates.{accepted-plate-is-right}
use Rattle.listing.specs.Sheet.{SheetOf}
use Rattle.listing.specs.Listing.{good_count, good_sheet, listed_rows, listed_by, listed, ListedIs}
use Rattle.listing.specs.SheetLaws.{sheet-is, sheet-length, line-is-good, good-has-a-line, line_reads}
use Rattle.demands.specs.Sanctioned.{Sanctioned}
use Rattle.demands.specs.SanctionedLaws.{sanctioned-is-accepted}
use Rattle.refusal.specs.declared.Misdrawn.{Misdrawn}
use Rattle.demands.specs.GoodMoves.{OnSheet, ChoicesListed, WorthTheValue, WorthTheValues, GoodMoves, AllTheGoodMoves}

-- what an answer with lines says: the chart was accepted, and the good moves are counted
record Took (text : List ℕ) (k : ℕ) : Type 0 where
  chart : Chart
  taken : examined text ≡ Ok chart
  counted : k ≡ good_count (arena_of text)

listing-took : (text : List ℕ) (room k : ℕ) → Ok k ≡ listed text room → Took text k
unfolding listed listed_by listed_rows
listing-took text room k e = go (examined text) refl e
  where
    both : (chart : Chart) → examined text ≡ Ok chart → (b : Bool) → Ok k ≡ cond b (Ok (good_count (arena_of text))) (Err Short) → Took text k
    both chart t true e = record { chart = chart; taken = t; counted = cc }
    both chart t false e = let z : ◌≡◌ {A = ℕ} 0 1 = cc in absurd (omega arith)

    go : (x : Result Chart Misdrawn) → examined text ≡ x → Ok k ≡ listed_by x (arena_of text) room → Took text k
    go (Err r) t e = let z : ◌≡◌ {A = ℕ} 0 1 = cc in absurd (omega arith)
    go (Ok chart) t e = both chart t (leb (good_count (arena_of text) * 12) room) e

module _ {text out sheet : List ℕ} {lines : ℕ} (is : ListedIs text out sheet (Ok lines)) where
  abbrev a : Arena
  a = arena_of text

  took : Took text lines
  took = listing-took text (length out) lines is.answer

  well : WellFormed a
  well = (accepted-chartable text took.chart took.taken).well-formed

  few : size a ≤ 512
  few = (accepted-chartable text took.chart took.taken).few-positions

  bytes : sheet ≡ good_sheet a ++ drop (lines * 12) out
  bytes = is.taken lines refl

  sized : length (good_sheet a) ≡ lines * 12
  sized = sheet-length a ∙ ap (λ (k : ℕ). k * 12) (sym took.counted)

  front : take (lines * 12) sheet ≡ good_sheet a
  front = ap (take (lines * 12)) bytes ∙ take_at (good_sheet a) (drop (lines * 12) out) (lines * 12) sized

  -- a line of the sheet reads as its move
  reads : (i : ℕ) → i < lines → Reads sheet i 71 (get_or (good_moves a) i no_move).from (Number (get_or (good_moves a) i no_move).to)
  reads i l =
      subst (λ (t : List ℕ). Reads t i 71 (get_or (good_moves a) i no_move).from (Number (get_or (good_moves a) i no_move).to)) (sym bytes)
      (line_reads a well few (drop (lines * 12) out) i (omega (arith, l, took.counted)))

  same_number : (f : Field) (x y : ℕ) → f ≡ Number x → f ≡ Number y → x ≡ y
  same_number f x y p q = cc

  on-sheet : (v w : ℕ) → OnSheet sheet lines v w ↔ Good a v w
  on-sheet v w = (
    λ (i, l, r).
        let mine = reads i l in
        subst₂ (Good a) (same_number _ _ v mine.first-is r.first-is) (same_number _ _ w mine.second_is r.second_is) (line-is-good a well i (omega (arith, l, took.counted))).1,
    λ g.
        let at = good-has-a-line a well v w g in
        let l : at.0 < lines = omega (arith, at.1, took.counted) in
        (at.0, l, subst (λ (m : Move). Reads sheet at.0 71 m.from (Number m.to)) at.2 (reads at.0 l)),
  )

  the_value : (σ : Controller a) (v : ℕ) → v < size a → WorthIs a σ v (round_value a v) → WorthTheValue a σ v
  the_value σ v l w = record { value = round_value a v; is-value = rounds-give-the-values a well v l; worth = w }

  module _ (choice : ℕ → Value) (legal : Legal a choice) where
    σ : Controller a
    σ = positional a choice legal

    listed-is-good : ChoicesListed sheet lines a choice ↔ AllGood a choice
    listed-is-good = (λ all v own. (on-sheet v (target_of (choice v))).0 (all v own), λ all v own. (on-sheet v (target_of (choice v))).1 (all v own))

    worths : WorthsAre a σ (round_value a) ↔ ChoicesListed sheet lines a choice
    unfolding σ
    worths =
        let good = optimal-exactly-good a well choice legal in
        (λ h. listed-is-good.1 (good.0 h), λ h. good.1 (listed-is-good.0 h))

    pub optimal-exactly-listed : WorthTheValues a (positional a choice legal) ↔ ChoicesListed sheet lines a choice
    unfolding σ
    optimal-exactly-listed = (
      λ h. worths.0 (λ v l. let w = h v l in subst (WorthIs a σ v) (the-value-is-the-rounds a well v w.value l w.is-value) w.worth),
      λ h v l. the_value σ v l (worths.1 h v l),
    )

    pub unsurpassed-exactly-listed : Unsurpassed a (positional a choice legal) ↔ ChoicesListed sheet lines a choice
    unfolding σ
    unsurpassed-exactly-listed =
        let both = optimal-both-ways a (round_value a) σ (rounds-give-the-values a well) in
        (λ h. worths.0 (both.1 h), λ h. both.0 (worths.1 h))

  plate-choices : (plate : List ℕ) → Sanctioned text plate → ChoicesListed sheet lines a (choice_in_plate plate)
  plate-choices plate s =
      let right = accepted-plate-is-right text plate (sanctioned-is-accepted text plate s) in
      (optimal-exactly-listed (choice_in_plate plate) right.legal).0 (λ v l. record { value = _; is-value = right.right v l; worth = right.optimal v l })

  pub all-the-good-moves : GoodMoves text out sheet lines
  all-the-good-moves = record {
    sheet-is = subst (SheetOf a) (sym front) (sheet-is a well);
    counted = ap length front ∙ sized;
    past = ap (drop (lines * 12)) bytes ∙ drop_at (good_sheet a) (drop (lines * 12) out) (lines * 12) sized;
    listed = on-sheet;
    optimal = optimal-exactly-listed;
    unsurpassed = unsurpassed-exactly-listed;
    of-plates = plate-choices;
    with-memory = λ σ v l only. the_value σ v l (only-good-is-worth a well σ v l (λ t p own. (on-sheet _ _).0 (only t p own)));
  }

pub good-moves : AllTheGoodMoves
good-moves text out sheet lines is = all-the-good-moves is
