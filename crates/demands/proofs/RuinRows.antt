-- The first demand's rows of the way to ruin: 19 by the worth of the controller that makes the choices, and 10 for the buffer by the one way
-- that there is.
use Rattle.std.specs.Prelude.{ℕ, ◌*◌, ◌<◌, refl, List, [], ◌∷◌, length, leb, ltb, Ok, Err}
use Rattle.std.proofs.Common.{arith, subst, ◌∙◌, leb-true, leb-false, ltb-true}
use Rattle.std.proofs.Math.Path.{◌≡◌, sym, ap}
use Rattle.rows.specs.Numbers.{row_value}
use Rattle.rows.specs.declared.Chart.{Chart}
use Rattle.game.specs.Value.{Value, fin, ever}
use Rattle.game.proofs.ValueLaws.{fin-is-not-ever}
use Rattle.game.specs.Arena.{Arena, size}
use Rattle.game.specs.Play.{Trail, Controller, Legal, positional}
use Rattle.game.specs.Worth.{WorthIs}
use Rattle.game.proofs.Unique.{worth-is-unique}
use Rattle.game.specs.Restrict.{restricted}
use Rattle.game.specs.Table.{round_value}
use Rattle.way.specs.Way.{moves}
use Rattle.way.proofs.OneWay.{OneWay, one-way-to-ruin, way-by-choices, worth-by-choices}
use Rattle.refusal.specs.declared.Refusal.TheVariants.{Short, Ever}
use Rattle.chart.specs.Meaning.{arena_of}
use Rattle.chart.specs.Examined.{examined}
use Rattle.chart.specs.Accepted.{accepted-size, accepted-chartable}
use Rattle.weighing.specs.Weighing.{legal_row}
use Rattle.weighing.specs.WeighingLaws.{legal-row-sound, restricted-rounds-are-worths}
use Rattle.ruin.specs.Sheet.{way_sheet}
use Rattle.ruin.specs.Ruin.{way_count, way_by, ruined_rows, ruined_by, ruined}
use Rattle.ruin.specs.WayLines.{way-length}
use Rattle.ruin.specs.RuinLaws.{way-counted}
use Rattle.demands.specs.Demand1.{only, WorthIsEver, ShorterThanWay, ruin_rows}
use Rattle.demands.proofs.RowLaws.{Settled, Tests, short-test, inside-test, row-holds, row-fails, no_rows, test-row, chart-row, choice_test}

-- 19, and 10 for the way to ruin: by the rounds' worth and the one way that there is
module _ (text choices : List ℕ) (chart : Chart) (e : examined text ≡ Ok chart) (legal : Legal (arena_of text) (row_value choices)) (v : ℕ) (inside : v < size (arena_of text)) where
  abbrev chosen : Controller (arena_of text)
  chosen = positional (arena_of text) (row_value choices) legal

  abbrev held : Arena
  held = restricted (arena_of text) (row_value choices)

  worth-there : WorthIs (arena_of text) chosen v (round_value held v)
  worth-there = restricted-rounds-are-worths (arena_of text) (accepted-chartable text chart e).well-formed (row_value choices) legal v inside

  -- the row for 19 by the worth
  ever-holds : round_value held v ≡ ever → WorthIsEver text choices v
  ever-holds w = (legal, subst (WorthIs (arena_of text) chosen v) w worth-there)

  ever-fails : {k : ℕ} → round_value held v ≡ fin k → WorthIsEver text choices v → ⊥
  ever-fails {k} w (other, safe) = fin-is-not-ever k (worth-is-unique (arena_of text) v chosen (fin k) ever (subst (WorthIs (arena_of text) chosen v) w worth-there) (worth-by-choices (arena_of text) (row_value choices) other legal v ever safe))

  -- 10 for the sheet, where the worth is a number
  way_test : (out : List ℕ) {k : ℕ} → round_value held v ≡ fin k → Tests (leb (way_count held v * 12) (length out)) (ShorterThanWay text choices v out)
  way_test out {k} w = (
    λ b (other, (t, is, l)).
        let same = one.only t (way-by-choices (arena_of text) (row_value choices) other legal v t is) in
        let type_size = subst (λ (x : Trail). length (way_sheet v x) ≡ way_count held v * 12) (sym same) lines in
        omega (arith, leb-true (way_count held v * 12) (length out) b),
    λ b. (legal, (one.trail, one.is-way, omega (arith, leb-false (way_count held v * 12) (length out) b, lines))),
  )
    where
      one : OneWay (arena_of text) (row_value choices) legal v k
      one = one-way-to-ruin (arena_of text) (accepted-chartable text chart e).well-formed (row_value choices) legal v k inside (subst (WorthIs (arena_of text) chosen v) w worth-there)

      lines : length (way_sheet v one.trail) ≡ way_count held v * 12
      lines = way-length v one.trail ∙ ap (λ (x : ℕ). x * 12) (sym (way-counted held v (moves one.trail) one.left))

-- the last two rows
module _ (text choices : List ℕ) (chart : Chart) (e : examined text ≡ Ok chart) (legal : Legal (arena_of text) (row_value choices)) (v : ℕ) (inside : v < size (arena_of text)) (out : List ℕ) where
  abbrev worth : Value
  worth = round_value (restricted (arena_of text) (row_value choices)) v

  abbrev lines : ℕ
  lines = way_count (restricted (arena_of text) (row_value choices)) v

  last-rows : (x : Value) → worth ≡ x → Settled (way_by x lines (length out)) Err (only Ever (WorthIsEver text choices v) ∷ only Short (ShorterThanWay text choices v out) ∷ [])
  unfolding way_by
  last-rows ever w = row-holds (λ x y e. cc) (λ y h. ap Err (sym h.0)) Ever (refl, ever-holds text choices chart e legal v inside w)
  last-rows (fin k) w =
      row-fails (λ x y e. cc) (λ y h. ever-fails text choices chart e legal v inside w h.1)
      (test-row (λ x y e. cc) (leb (lines * 12) (length out)) (way_test text choices chart e legal v inside out w) (λ b. rw b)
      (λ b. no_rows (λ x y e. cc) (λ x q. let z : Ok lines ≡ Err x = sym (rw b) ∙ q in let y : ◌≡◌ {A = ℕ} 0 1 = cc in omega arith)))

pub ruin-settled : (text choices : List ℕ) (v : ℕ) (out : List ℕ) → Settled (ruined text choices v (length out)) Err (ruin_rows text choices v out)
unfolding ruined ruined_by ruined_rows
ruin-settled text choices v out =
    chart-row (λ x y e. cc) text (λ r e. rw e)
    (λ chart e.
    let n = accepted-size text chart e in
    test-row (λ x y e. cc) (leb chart.positions (length choices)) (short-test choices n) (λ b. rw (e, b))
    (λ b.
    test-row (λ x y e. cc) (legal_row (arena_of text) (row_value choices) (size (arena_of text))) (choice_test text choices) (λ c. rw (e, b, c))
    (λ c.
    test-row (λ x y e. cc) (ltb v (size (arena_of text))) (inside-test v (size (arena_of text))) (λ d. rw (e, b, c, d))
    (λ d.
    rw (e, b, c, d)
    (last-rows text choices chart e (legal-row-sound (arena_of text) (row_value choices) c) v (ltb-true v (size (arena_of text)) d) out (round_value (restricted (arena_of text) (row_value choices)) v) refl)))))
