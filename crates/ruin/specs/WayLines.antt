-- The lines of the noted steps are the sheet of the way: step by step, the position that is noted is where the way stands, and what the worth
-- fell by is 1 where a disturbance led there and else 0.
use Prim.Native.Nat.{ℕ, zero, suc, ◌+◌, ◌-◌, ◌*◌, ◌≤◌, ◌<◌}
use Rattle.std.proofs.Common.{arith, add-one, ◌∙◌, length-append}
use Rattle.std.specs.Prelude.{◌≡◌, Bool, true, false, cond, length}
use Rattle.std.proofs.Math.Path.{refl, sym, ap, ap₂}
use mathlib.Core.List.{List, [], ◌∷◌, ◌++◌}
use Rattle.std.proofs.Math.ListN.{get_or}
use Rattle.line.specs.Text.{line_text}
use Rattle.line.specs.LineLaws.{line-length}
use Rattle.line.specs.Joined.{joined}
use Rattle.line.specs.JoinedLaws.{joined_same}
use Rattle.line.specs.declared.Entry.TheVariants.{Number}
use Rattle.rows.specs.Rows.{RowIs}
use Rattle.rows.specs.Numbers.{number_of}
use Rattle.game.specs.Value.{Value, value_eq}
use Rattle.game.specs.Arena.{Arena}
use Rattle.game.specs.Play.{Trail, still, meant, disturbed, last}
use Rattle.game.proofs.PlayLaws.{disturbance-costs-one}
use Rattle.game.specs.Table.{round_value}
use Rattle.way.specs.Way.{moves}
use Rattle.way.specs.Tight.{onward, way_after}
use Rattle.way.specs.TightLaws.{Tight, tight-onward}
use Rattle.sheet_lines.specs.Lines.{pair_lines}
use Rattle.way_rows.specs.Steps.{stop, fell, Followed}
use Rattle.ruin.specs.Sheet.{way_line, way_sheet}

-- a line for each position
pub way-length : (v : ℕ) (t : Trail) → length (way_sheet v t) ≡ suc (moves t) * 12
unfolding way_sheet moves
way-length v still = line-length 87 _
way-length v (meant t w) = length-append (way_sheet v t) (way_line w 0) ∙ (let e = way-length v t in let l = line-length 87 (Number w ∷ Number 0 ∷ []) in omega arith)
way-length v (disturbed t w) = length-append (way_sheet v t) (way_line w 1) ∙ (let e = way-length v t in let l = line-length 87 (Number w ∷ Number 1 ∷ []) in omega arith)

onward-last : (value : ℕ → Value) (v : ℕ) (t : Trail) (u w : ℕ) → last v (onward value t u w) ≡ w
unfolding onward last
onward-last value v t u w = go (value_eq (value u) (value w))
  where
    go : (b : Bool) → last v (cond b (meant t w) (disturbed t w)) ≡ w
    go true = refl
    go false = refl

-- what the worth falls by at a tight move
abbrev led_by : Bool → ℕ
led_by true = 1
led_by false = 0

onward-sheet : (a : Arena) (b : Bool) (v : ℕ) (t : Trail) (u w : ℕ) → Tight a b u w → way_sheet v (onward (round_value a) t u w) ≡ way_sheet v t ++ way_line w (led_by b)
unfolding way_sheet
onward-sheet a b v t u w h = ap (way_sheet v) (tight-onward a b t u w h) ∙ go b
  where
    go : (b : Bool) → way_sheet v (cond b (disturbed t w) (meant t w)) ≡ way_sheet v t ++ way_line w (led_by b)
    go true = refl
    go false = refl

module _ (a : Arena) (v : ℕ) (worths next : List ℕ) where
  abbrev way : ℕ → Trail
  way i = way_after (round_value a) (λ u. get_or next u 0) v i

  -- where the way goes on from after i moves
  abbrev onto : ℕ → ℕ
  onto i = get_or next (last v (way i)) 0

  stop_is : (i : ℕ) → stop next v i ≡ last v (way i)
  unfolding stop last way_after
  stop_is zero = refl
  stop_is (suc i) = ap (λ (u : ℕ). get_or next u 0) (stop_is i) ∙ sym (onward-last (round_value a) v (way i) (last v (way i)) (onto i))

  abbrev line : ℕ → List ℕ
  line i = line_text 87 (Number (stop next v i) ∷ Number (fell worths next v i) ∷ [])

  module _ (n j : ℕ) (worth : RowIs worths n (λ u. number_of (round_value a u))) (inside : (i : ℕ) → i ≤ j → stop next v i < n)
      (tight : (i : ℕ) → i < j → (b : Bool) × Tight a b (last v (way i)) (onto i)) where
    fell-is : (i : ℕ) → (l : i < j) → fell worths next v (suc i) ≡ led_by (tight i l).0
    unfolding fell stop number_of
    fell-is i l = go (tight i l).0 (tight i l).1
      where
        here : get_or worths (stop next v i) 0 ≡ number_of (round_value a (last v (way i)))
        here = worth (stop next v i) (inside i (omega arith)) ∙ ap (λ (u : ℕ). number_of (round_value a u)) (stop_is i)

        there : get_or worths (stop next v (suc i)) 0 ≡ number_of (round_value a (onto i))
        there = worth (stop next v (suc i)) (inside (suc i) (omega arith)) ∙ ap (λ (u : ℕ). number_of (round_value a (get_or next u 0))) (stop_is i)

        go : (b : Bool) → Tight a b (last v (way i)) (onto i) → get_or worths (stop next v i) 0 - get_or worths (stop next v (suc i)) 0 ≡ led_by b
        go true (d, e) = rw (here, there, e.here, e.there, disturbance-costs-one a (last v (way i)) (onto i)) (omega arith)
        go false (m, e) = rw (here, there, e.here, e.there) (omega arith)

    sheet-is : (i : ℕ) → i ≤ j → joined line (suc i) ≡ way_sheet v (way i)
    unfolding joined way_sheet way_after stop fell
    sheet-is zero l = refl
    sheet-is (suc i) l =
        let t = tight i l in
        ap₂ (λ (x y : List ℕ). x ++ y) (sheet-is i (omega arith))
        (ap₂ (λ (x y : ℕ). line_text 87 (Number x ∷ Number y ∷ [])) (ap (λ (u : ℕ). get_or next u 0) (stop_is i)) (fell-is i l))
        ∙ sym (onward-sheet a t.0 v (way i) (last v (way i)) (onto i) t.1)

    pub followed-lines : {left positions led : List ℕ} {count : ℕ} → Followed v worths left next positions led count → get_or left v 0 ≡ j
        → pair_lines 87 positions led count ≡ way_sheet v (way_after (round_value a) (λ u. get_or next u 0) v j)
    unfolding pair_lines
    followed-lines {count = count} h e =
        joined_same _ line count (λ k l. ap₂ (λ (x y : ℕ). line_text 87 (Number x ∷ Number y ∷ [])) (h.position k l) (h.leads k l))
        ∙ ap (joined line) (h.counted ∙ rw (add-one, e))
        ∙ sheet-is j (omega arith)
