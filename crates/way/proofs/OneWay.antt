-- "There is exactly one where the worth is a number": the lowest next positions lead on, so the way by them is one, and it is the only one.
use Rattle.std.specs.Prelude.{ℕ, suc, ◌+◌, ◌-◌, ◌≤◌, ◌<◌, ◌≡◌, ◌⊎◌, Bool, false, ◌&&◌, eqb}
use Rattle.std.proofs.Common.{arith, ◌∙◌, inl, inr}
use Rattle.std.proofs.Math.Decide.{dec_le}
use Rattle.std.proofs.Math.Path.{refl, sym, ap, subst}
use Rattle.std.proofs.Math.Bool.{true, not}
use mathlib.Core.List.Memᴰ
use Rattle.std.proofs.Math.Dec.{T, eqb→eq, eqb_refl}
use Rattle.search.specs.First.{FirstAt, AllPass}
use Rattle.search.proofs.FirstLaws.{first_or_none, first-at}
use Rattle.game.specs.Value.{Value, fin, ever, ◌⊕◌, value_eq}
use Rattle.game.proofs.ValueLaws.{fin-injective, fin-is-not-ever, ⊕fin, value_eq-sound}
use Rattle.game.specs.Arena.{Arena, Move, WellFormed, size, unsafe, disturbance_move, Disturbance}
use Rattle.game.specs.Play.{Trail, still, meant, disturbed, last, cost, Play, Legal, positional}
use Rattle.game.proofs.PlayLaws.{disturbance-inside, by-test}
use Rattle.game.specs.Worth.{WorthIs}
use Rattle.game.proofs.Unique.{worth-is-unique}
use Rattle.game.specs.Table.{round_value, some_move}
use Rattle.game.specs.Restrict.{restricted}
use Rattle.game.proofs.RestrictLaws.{restricted-is-well-formed, restricted-value-is-worth}
use Rattle.game.proofs.RoundValues.{rounds-give-the-values}
use Rattle.game.proofs.MoveTests.{and_left, and_right, and_both, is_true, some-found, some_of}
use Rattle.way.specs.Way.{moves, stands_after, WayToRuin}
use Rattle.way.specs.Tight.{tightened, moves_left, leads, lowest_next, way_after}
use Rattle.way.specs.TightLaws.{tightened-costs-one, tightened-is-well-formed, tightened-size, none_left, some-shortens}
use Rattle.way.proofs.WayLaws.{Leading, the-way-is-shortest, the-way-costs-the-worth, the-way-shortens, the-way-is-safe-before, the-way-has-moves, the-way-ends-unsafe, only-way, moves-are-left}

-- a disturbance to w, from where one move less is left, passes the test, and only such a one
module _ (a : Arena) (wf : WellFormed a) (v w : ℕ) where
  abbrev joins : Move → Bool
  joins m = eqb m.from v && eqb m.to w

  abbrev one_less : Bool
  one_less = value_eq (moves_left a v) (moves_left a w ⊕ 1)

  leads-from : Disturbance (tightened a) v w → moves_left a v ≡ moves_left a w ⊕ 1 → leads a v w ≡ true
  unfolding leads
  leads-from (x, m) e =
      is_true (some_move joins (tightened a).moves && one_less)
      (and_both (some_move joins (tightened a).moves) one_less
      (some_of joins (tightened a).moves (disturbance_move (suc x) v w) m (and_both (eqb v v) (eqb w w) (eqb_refl v) (eqb_refl w)))
      ((value_eq-sound (moves_left a v) (moves_left a w ⊕ 1)).1 e))

  leads-to : leads a v w ≡ true → Disturbance (tightened a) v w × (moves_left a v ≡ moves_left a w ⊕ 1)
  unfolding leads
  leads-to e =
      let h : T (some_move joins (tightened a).moves && one_less) = subst T (sym e) tt in
      let f = some-found joins (tightened a).moves (and_left (some_move joins (tightened a).moves) one_less h) in
      let m : Move = f.0 in
      let cost = tightened-costs-one a wf m f.1 in
      let from = eqb→eq m.from v (and_left (eqb m.from v) (eqb m.to w) f.2) in
      let to = eqb→eq m.to w (and_right (eqb m.from v) (eqb m.to w) f.2) in (
        (0, Memᴰ.cast (λ i. record { cost = sym cost i; from = sym from i; to = sym to i }) f.1),
        (value_eq-sound (moves_left a v) (moves_left a w ⊕ 1)).0 (and_right (some_move joins (tightened a).moves) one_less h),
      )

module _ (a : Arena) (wf : WellFormed a) where
  -- where moves are left the lowest next position is one that leads on, and none that does is lower
  record Found (v k : ℕ) : Type 0 where
    goes : Disturbance (tightened a) v (lowest_next a v)
    left : moves_left a (lowest_next a v) ≡ fin k
    lowest : (w : ℕ) → Disturbance (tightened a) v w → moves_left a w ≡ fin k → lowest_next a v ≤ w

  less-by-one : (v w k : ℕ) → moves_left a v ≡ fin (suc k) → moves_left a v ≡ moves_left a w ⊕ 1 → moves_left a w ≡ fin k
  unfolding ◌⊕◌
  less-by-one v w k e f = go (moves_left a w) refl (sym e ∙ f)
    where
      go : (x : Value) → moves_left a w ≡ x → fin (suc k) ≡ x ⊕ 1 → moves_left a w ≡ fin k
      go (fin j) g h = g ∙ ap fin (let z = fin-injective (suc k) (j + 1) h in omega arith)
      go ever g h = absurd (fin-is-not-ever (suc k) h)

  one_more : (v w k : ℕ) → moves_left a v ≡ fin (suc k) → moves_left a w ≡ fin k → moves_left a v ≡ moves_left a w ⊕ 1
  one_more v w k e f = rw (f, ⊕fin k 1) (e ∙ ap fin (omega arith))

  safe-where-left : (v k : ℕ) → v < size a → moves_left a v ≡ fin (suc k) → unsafe a v ≡ false
  safe-where-left v k l e = go (by-test (unsafe a v))
    where
      go : T (unsafe a v) ⊎ (unsafe a v ≡ false) → unsafe a v ≡ false
      go (inl u) = let z = fin-injective (suc k) 0 (sym e ∙ none_left a wf v l u) in absurd (omega arith)
      go (inr safe) = safe

  pub next-exists : (v k : ℕ) → v < size a → moves_left a v ≡ fin (suc k) → (w : ℕ) × Disturbance (tightened a) v w × (moves_left a w ≡ fin k)
  next-exists v k l e = let s = some-shortens a wf v (suc k) l (safe-where-left v k l e) e in (s.0, s.1, less-by-one v s.0 k e s.2)

  turned : (b : Bool) → not b ≡ false → b ≡ true
  turned true e = refl
  turned false e = absurd (let z : ◌≡◌ {A = ℕ} 0 1 = cc in omega arith)

  clash : {b : Bool} → b ≡ true → not b ≡ true → ⊥
  clash e f = let z : ◌≡◌ {A = ℕ} 0 1 = cc in omega arith

  found : (v k : ℕ) → v < size a → moves_left a v ≡ fin (suc k) → Found v k
  unfolding lowest_next
  found v k l e =
      let s = next-exists v k l e in
      let inside : s.0 < size a = rw (tightened-size a wf) at (disturbance-inside (tightened a) (tightened-is-well-formed a wf) v s.0 s.1) in
      go (leads-from a wf v s.0 s.1 (one_more v s.0 k e s.2)) inside (first_or_none (λ w. not (leads a v w)) (size a) 0)
    where
      go : {x : ℕ} → leads a v x ≡ true → x < size a → AllPass (λ w. not (leads a v w)) (size a) 0 ⊎ ((place : ℕ) × FirstAt (λ w. not (leads a v w)) (size a) 0 place) → Found v k
      go {x} one inside (inl all) = absurd (clash one (all x (omega arith) (omega arith)))
      go one inside (inr (place, first)) =
          let is : lowest_next a v ≡ place = first-at (λ w. not (leads a v w)) (λ w. w) 0 (size a) 0 place first in
          let there = leads-to a wf v place (turned (leads a v place) first.fails) in
          record {
            goes = subst (Disturbance (tightened a) v) (sym is) there.0;
            left = ap (moves_left a) is ∙ less-by-one v place k e there.1;
            lowest = λ w d f. rw is (below w (dec_le place w) (leads-from a wf v w d (one_more v w k e f)));
          }
        where
          below : (w : ℕ) → Dec (place ≤ w) → leads a v w ≡ true → place ≤ w
          below w (yes h) hit = h
          below w (no h) hit = absurd (clash hit (first.passed w (omega arith) (omega arith)))

  pub lowest-leads : Leading a (lowest_next a)
  lowest-leads = record {
    goes = λ v k l e. let f = found v k l e in (f.goes, f.left);
    lowest = λ v w k l e d f. (found v k l e).lowest w d f;
  }

-- "exactly one where the worth is a number": its cost is the worth, only its last position is unsafe, and it has no position twice, so fewer
-- moves than there are positions
pub record OneWay (a : Arena) (choice : ℕ → Value) (legal : Legal a choice) (v k : ℕ) : Type 0 where
  pub trail : Trail
  pub is-way : WayToRuin a (positional a choice legal) v trail
  pub only : (u : Trail) → WayToRuin a (positional a choice legal) v u → u ≡ trail
  pub costs-the-worth : cost a v trail ≡ k
  pub ends-unsafe : T (unsafe a (last v trail))
  pub safe-before : (i : ℕ) → i < moves trail → T (unsafe a (stands_after v trail i)) → ⊥
  pub not-twice : (i j : ℕ) → i < j → j ≤ moves trail → stands_after v trail i ≡ stands_after v trail j → ⊥
  pub left : moves_left (restricted a choice) v ≡ fin (moves trail)
  pub few-moves : moves trail < size a

module _ (a : Arena) (wf : WellFormed a) (choice : ℕ → Value) (legal : Legal a choice) (v k : ℕ) (l : v < size a) where
  -- the way by lowest next positions, where j moves are left
  lowest-way : (j : ℕ) → round_value (restricted a choice) v ≡ fin k → moves_left (restricted a choice) v ≡ fin j → j < size a → OneWay a choice legal v k
  lowest-way j is-worth is-left few =
      let r = restricted a choice in
      let leading = lowest-leads r (restricted-is-well-formed a choice wf legal) in
      let has-moves = the-way-has-moves a wf choice legal (lowest_next r) leading v l k j is-worth is-left in
      let left_after = the-way-shortens a wf choice legal (lowest_next r) leading v l k j is-worth is-left in
      record {
        trail = way_after (round_value r) (lowest_next r) v j;
        is-way = the-way-is-shortest a wf choice legal (lowest_next r) leading v l k j is-worth is-left;
        only = only-way a wf choice legal (lowest_next r) leading v l k j is-worth is-left;
        costs-the-worth = the-way-costs-the-worth a wf choice legal (lowest_next r) leading v l k j is-worth is-left;
        ends-unsafe = the-way-ends-unsafe a wf choice legal (lowest_next r) leading v l k j is-worth is-left;
        safe-before = λ i less u. the-way-is-safe-before a wf choice legal (lowest_next r) leading v l k j is-worth is-left i (omega arith) u;
        not-twice = λ i m less few same.
            let e = fin-injective (j - i) (j - m) (sym (left_after i (omega arith)) ∙ ap (moves_left r) same ∙ left_after m (omega arith)) in
            omega arith;
        left = is-left ∙ ap fin (sym has-moves);
        few-moves = omega arith;
      }

  pub one-way-to-ruin : WorthIs a (positional a choice legal) v (fin k) → OneWay a choice legal v k
  unfolding restricted
  one-way-to-ruin worth =
      let r = restricted a choice in
      let is-value = rounds-give-the-values r (restricted-is-well-formed a choice wf legal) v l in
      let is-worth = worth-is-unique a v (positional a choice legal) (round_value r v) (fin k) ((restricted-value-is-worth a choice wf legal v (round_value r v)).0 is-value) worth in
      let left = moves-are-left a wf choice legal v k l is-worth in
      lowest-way left.0 is-worth left.1 left.2

-- and there is none where it is not: the cost of a way is the worth
pub way-costs-the-worth : (a : Arena) (choice : ℕ → Value) (legal : Legal a choice) (v : ℕ) (t : Trail) → WayToRuin a (positional a choice legal) v t
    → WorthIs a (positional a choice legal) v (fin (cost a v t))
unfolding WorthIs
way-costs-the-worth a choice legal v t way = ((record { trail = t; play = way.play; ends = way.ends }, refl), way.fewest-disturbances)

-- it is a matter of the choices, not of how they are shown to be legal
module _ (a : Arena) (choice : ℕ → Value) (legal legal' : Legal a choice) (v : ℕ) where
  same-play : (t : Trail) → Play a (positional a choice legal) v t → Play a (positional a choice legal') v t
  unfolding Play positional
  same-play still p = p
  same-play (meant t w) (p, m, h) = (same-play t p, m, h)
  same-play (disturbed t w) (p, d) = (same-play t p, d)

pub worth-by-choices : (a : Arena) (choice : ℕ → Value) (legal legal' : Legal a choice) (v : ℕ) (x : Value) → WorthIs a (positional a choice legal) v x → WorthIs a (positional a choice legal') v x
unfolding WorthIs
worth-by-choices a choice legal legal' v (fin k) ((u, e), least) =
    ((record { trail = u.trail; play = same-play a choice legal legal' v u.trail u.play; ends = u.ends }, e), λ t p. least t (same-play a choice legal' legal v t p))
worth-by-choices a choice legal legal' v ever safe = λ t p. safe t (same-play a choice legal' legal v t p)

pub way-by-choices : (a : Arena) (choice : ℕ → Value) (legal legal' : Legal a choice) (v : ℕ) (t : Trail)
    → WayToRuin a (positional a choice legal) v t → WayToRuin a (positional a choice legal') v t
way-by-choices a choice legal legal' v t way = record {
  play = same-play a choice legal legal' v t way.play;
  ends = way.ends;
  fewest-disturbances = λ u p. way.fewest-disturbances u (same-play a choice legal' legal v u p);
  fewest-moves = λ u p. way.fewest-moves u (same-play a choice legal' legal v u p);
  lowest = λ u p. way.lowest u (same-play a choice legal' legal v u p);
}
