-- The arena of an accepted text is well-formed, within the limits, with marks 0 or 1 and strictly rising moves. Each fact is one of
-- a line (specs/Good.antt), carried over to the arena's lists.
use Rattle.std.specs.Prelude.{ℕ, zero, suc, ◌+◌, ◌-◌, ◌≤◌, ◌<◌, ◌≡◌, refl, Bool, false, cond, length, ltb, eqb, Ok}
use native.Mathlib.Omega.{arith}
use Rattle.std.proofs.Common.{le_trans, sym, ◌∙◌, inl, inr, ⊎_elim, ltb-true, ltb-false, eqb-true, ne_eqb}
use Rattle.std.proofs.Math.Path.{ap, subst}
use Rattle.std.proofs.Math.Bool.{true}
use mathlib.Core.List.Memᴰ
use mathlib.Core.List.{List, Memᴰ}
use Rattle.std.proofs.Math.Dec.{T}
use Rattle.game.proofs.Members.{member-at, at-member}
use Rattle.game.specs.Arena.{Arena, Position, Move, size, move_at, no_move, meant_move, disturbance_move, controller, environment, nobody, Meant, may_be_disturbed, has_meant, WellFormed}
use Rattle.chart.specs.Text.{letter_at, positions_of, moves_of, from_at, to_at}
use Rattle.chart.specs.Meaning.{owner_of, cost_of, position_on, move_on, arena_of, Rises, Chartable}
use Rattle.chart.specs.Refusals.{MoveLetter}
use Rattle.chart.specs.Examined.{above, rises, meant_line, meant_in, examined}
use Rattle.chart.specs.Good.{GoodChart, accepted-good}
use Rattle.chart.specs.Arenas.{arena-size, arena-moves, arena-position, arena-move}
use Rattle.rows.specs.declared.Chart.{Chart}

-- the test of two moves is the order of moves
above-rises : (a b : Move) → above a.from a.cost a.to b.from b.cost b.to ≡ true → Rises a b
unfolding above Rises
above-rises a b h = go (ltb a.from b.from) (ltb b.from a.from) (ltb a.cost b.cost) (ltb b.cost a.cost) refl refl refl refl
  where
    go : (p q r s : Bool) → ltb a.from b.from ≡ p → ltb b.from a.from ≡ q → ltb a.cost b.cost ≡ r → ltb b.cost a.cost ≡ s → Rises a b
    go true q r s t u v w = inl (ltb-true a.from b.from t)
    go false true r s t u v w = let z : false ≡ true = simp (t, u) at h in let y : ◌≡◌ {A = ℕ} 0 1 = cc in absurd (omega arith)
    go false false true s t u v w = inr (omega (arith, ltb-false a.from b.from t, ltb-false b.from a.from u), inl (ltb-true a.cost b.cost v))
    go false false false true t u v w = let z : false ≡ true = simp (t, u, v, w) at h in let y : ◌≡◌ {A = ℕ} 0 1 = cc in absurd (omega arith)
    go false false false false t u v w =
        inr (
          omega (arith, ltb-false a.from b.from t, ltb-false b.from a.from u),
          inr (omega (arith, ltb-false a.cost b.cost v, ltb-false b.cost a.cost w), ltb-true a.to b.to (simp (t, u, v, w) at h)),
        )

pub line-rises : (text : List ℕ) (i : ℕ) → rises text i ≡ true → Rises (move_on text (i - 1)) (move_on text i)
unfolding rises move_on
line-rises text i h = above-rises (move_on text (i - 1)) (move_on text i) h

-- a position with a flagged meant move has a line with one
pub meant-line : (text : List ℕ) (n m v : ℕ) → meant_in text n m v ≡ true → (j : ℕ) × (j < m) × (letter_at text (n + 1 + j) ≡ 77) × (from_at text (n + 1 + j) ≡ v)
unfolding meant_in meant_line
meant-line text n zero v h = let y : ◌≡◌ {A = ℕ} 0 1 = cc in absurd (omega arith)
meant-line text n (suc m) v h = go (meant_in text n m v) (eqb (letter_at text (n + 1 + m)) 77) refl refl (meant-line text n m v)
  where
    go : (p q : Bool) → meant_in text n m v ≡ p → eqb (letter_at text (n + 1 + m)) 77 ≡ q →
        (meant_in text n m v ≡ true → (j : ℕ) × (j < m) × (letter_at text (n + 1 + j) ≡ 77) × (from_at text (n + 1 + j) ≡ v)) →
        (j : ℕ) × (j < suc m) × (letter_at text (n + 1 + j) ≡ 77) × (from_at text (n + 1 + j) ≡ v)
    go true q e f rest = let w = rest e in (w.0, omega (arith, w.1), w.2, w.3)
    go false true e f rest = (m, omega arith, eqb-true (letter_at text (n + 1 + m)) 77 f, eqb-true (from_at text (n + 1 + m)) v (simp (e, f) at h))
    go false false e f rest = let z : false ≡ true = simp (e, f) at h in let y : ◌≡◌ {A = ℕ} 0 1 = cc in absurd (omega arith)

-- a cost is 0 or 1
pub cost-small : (letter : ℕ) → cost_of letter < 2
unfolding cost_of
cost-small letter = go (eqb letter 68)
  where
    go : (b : Bool) → cond b 1 0 < 2
    go true = omega arith
    go false = omega arith

-- the letter of a move that is a disturbance or meant, and of an owner that may be disturbed or has meant moves
disturbance-letter : (letter c : ℕ) → cost_of letter ≡ suc c → letter ≡ 68
unfolding cost_of
disturbance-letter letter c e = go (eqb letter 68) refl
  where
    go : (b : Bool) → eqb letter 68 ≡ b → letter ≡ 68
    go true h = eqb-true letter 68 h
    go false h = let z : 0 ≡ suc c = simp h at e in absurd (omega arith)

not-environment : (letter : ℕ) → (letter ≡ 76 → ⊥) → T (may_be_disturbed (owner_of letter))
unfolding owner_of
not-environment letter h = simp (ne_eqb letter 76 h) (go (eqb letter 82))
  where
    go : (b : Bool) → T (may_be_disturbed (cond b nobody controller))
    go true = tt
    go false = tt

pub meant-letter : (letter : ℕ) → MoveLetter letter → cost_of letter ≡ 0 → letter ≡ 77
unfolding cost_of
meant-letter letter w e = ⊎_elim (λ p. p) (λ p. let z : 1 ≡ 0 = sym (ap cost_of p) ∙ e in absurd (omega arith)) w

not-at-rest : (letter : ℕ) → (letter ≡ 82 → ⊥) → T (has_meant (owner_of letter))
unfolding owner_of
not-at-rest letter h = simp (ne_eqb letter 82 h) (go (eqb letter 76))
  where
    go : (b : Bool) → T (has_meant (cond b environment controller))
    go true = tt
    go false = tt

has-meant : (letter : ℕ) → T (has_meant (owner_of letter)) → letter ≡ 82 → ⊥
unfolding owner_of
has-meant letter t e = subst (λ (x : ℕ). T (has_meant (owner_of x))) e t

meant-cost : (letter : ℕ) → letter ≡ 77 → cost_of letter ≡ 0
unfolding cost_of
meant-cost letter e = ap cost_of e

meant-member : (text : List ℕ) (j v : ℕ) → j < moves_of text → letter_at text (positions_of text + 1 + j) ≡ 77 → from_at text (positions_of text + 1 + j) ≡ v → Meant (arena_of text) v (to_at text (positions_of text + 1 + j))
unfolding move_on
meant-member text j v h letter from =
    let i = positions_of text + 1 + j in
    let cost : 0 ≡ cost_of (letter_at text i) = sym (meant-cost (letter_at text i) letter) in
    let line : meant_move v (to_at text i) ≡ move_on text i = λ k. record { cost = cost k; from = sym from k; to = to_at text i } in
    Memᴰ.cast (line ∙ sym (arena-move text j h)) (at-member no_move (arena_of text).moves j (rw arena-moves h))

module _ (text : List ℕ) (good : GoodChart text) where
  -- a move of the arena is that of a line
  move-on : (m : Move) → Memᴰ m (arena_of text).moves → (j : ℕ) × (j < moves_of text) × (move_on text (positions_of text + 1 + j) ≡ m)
  move-on m k =
      let w = member-at no_move m (arena_of text).moves k in
      let l : w.0 < moves_of text = subst (λ (c : ℕ). w.0 < c) (arena-moves text) w.1 in
      (w.0, l, sym (arena-move text w.0 l) ∙ w.2)

  -- so what holds of every good move line holds of every move
  pub well-formed : WellFormed (arena_of text)
  unfolding move_on position_on
  well-formed = record {
    kind = λ m k. let w = move-on m k in subst (λ (x : Move). x.cost < 2) w.2 (cost-small (letter_at text (positions_of text + 1 + w.0)));
    from-position = λ m k.
        let w = move-on m k in
        let line = good.move (positions_of text + 1 + w.0) (omega arith) (omega (arith, w.1)) in
        subst (λ (x : Move). x.from < size (arena_of text)) w.2 (rw arena-size line.from-position);
    to-position = λ m k.
        let w = move-on m k in
        let line = good.move (positions_of text + 1 + w.0) (omega arith) (omega (arith, w.1)) in
        subst (λ (x : Move). x.to < size (arena_of text)) w.2 (rw arena-size line.to-position);
    disturbed = λ v u (c, k).
        let w = move-on (disturbance_move (suc c) v u) k in
        let i = positions_of text + 1 + w.0 in
        let line = good.move i (omega arith) (omega (arith, w.1)) in
        let letter : letter_at text i ≡ 68 = disturbance-letter (letter_at text i) c (ap (λ (x : Move). x.cost) w.2) in
        let from : from_at text i ≡ v = ap (λ (x : Move). x.from) w.2 in
        let inside : v < positions_of text = omega (arith, line.from-position) in
        subst (λ (p : Position). T (may_be_disturbed p.owner)) (sym (arena-position text v inside))
        (not-environment (letter_at text (v + 1)) (λ e. line.undisturbed letter (ap (λ (x : ℕ). letter_at text (x + 1)) from ∙ e)));
    resting = λ v u k.
        let w = move-on (meant_move v u) k in
        let i = positions_of text + 1 + w.0 in
        let line = good.move i (omega arith) (omega (arith, w.1)) in
        let letter : letter_at text i ≡ 77 = meant-letter (letter_at text i) line.form.allowed (ap (λ (x : Move). x.cost) w.2) in
        let from : from_at text i ≡ v = ap (λ (x : Move). x.from) w.2 in
        let inside : v < positions_of text = omega (arith, line.from-position) in
        subst (λ (p : Position). T (has_meant p.owner)) (sym (arena-position text v inside))
        (not-at-rest (letter_at text (v + 1)) (λ e. line.unmeant letter (ap (λ (x : ℕ). letter_at text (x + 1)) from ∙ e)));
    meant = λ v h t.
        let inside : v < positions_of text = rw arena-size at h in
        let owner = subst (λ (p : Position). T (has_meant p.owner)) (arena-position text v inside) t in
        let w = meant-line text (positions_of text) (moves_of text) v (good.meant v inside (has-meant (letter_at text (v + 1)) owner)) in
        let i = positions_of text + 1 + w.0 in
        (to_at text i, meant-member text w.0 v w.1 w.2 w.3);
  }

  pub chartable : Chartable (arena_of text)
  unfolding position_on move_on
  chartable =
      let limits = good.limits in
      record {
        well-formed = well-formed;
        some-position = rw arena-size limits.some-position;
        few-positions = rw arena-size limits.positions;
        some-move = rw arena-moves limits.some-move;
        few-moves = rw arena-moves limits.moves;
        mark = λ v h.
            let inside : v < positions_of text = rw arena-size at h in
            rw (arena-position text v inside) (good.position (v + 1) (omega arith) (omega arith)).small;
        rising = λ i h.
            let inside : i + 1 < moves_of text = rw arena-moves at h in
            let line = positions_of text + 1 + (i + 1) in
            let e : line - 1 ≡ positions_of text + 1 + i = omega arith in
            let up : rises text line ≡ true = (good.move line (omega arith) (omega arith)).above (omega arith) in
            rw (arena-move text i (omega arith), arena-move text (i + 1) inside)
            (subst (λ (k : ℕ). Rises (move_on text k) (move_on text line)) e (line-rises text line up));
      }

-- what accepting a text says of its arena
pub accepted-chartable : (text : List ℕ) (chart : Chart) → examined text ≡ Ok chart → Chartable (arena_of text)
accepted-chartable text chart e = chartable text (accepted-good text chart e).0

-- the counts that are answered are the arena's
pub accepted-size : (text : List ℕ) (chart : Chart) → examined text ≡ Ok chart → size (arena_of text) ≡ chart.positions
accepted-size text chart e = arena-size text ∙ ap (λ (k : Chart). k.positions) (sym (accepted-good text chart e).1)

pub accepted-moves : (text : List ℕ) (chart : Chart) → examined text ≡ Ok chart → length (arena_of text).moves ≡ chart.moves
accepted-moves text chart e = arena-moves text ∙ ap (λ (k : Chart). k.moves) (sym (accepted-good text chart e).1)

rises-from : (a b : Move) → Rises a b → a.from ≤ b.from
unfolding Rises
rises-from a b = ⊎_elim (λ l. omega arith) (λ w. omega (arith, w.0))

froms-step : (a : Arena) → Chartable a → (i d : ℕ) → i + d < length a.moves → (move_at a i).from ≤ (move_at a (i + d)).from
froms-step a c i zero h = let e : i + 0 ≡ i = omega arith in rw e (omega arith)
froms-step a c i (suc d) h =
    let e : i + d + 1 ≡ i + suc d = omega arith in
    let below = froms-step a c i d (omega arith) in
    let next = rises-from (move_at a (i + d)) (move_at a (i + d + 1)) (c.rising (i + d) (omega arith)) in
    subst (λ (k : ℕ). (move_at a i).from ≤ (move_at a k).from) e (le_trans below next)

-- moves that rise strictly stand by from: the moves of a position lie together
pub froms-rise : (a : Arena) → Chartable a → (i j : ℕ) → i ≤ j → j < length a.moves → (move_at a i).from ≤ (move_at a j).from
froms-rise a c i j h k =
    let e : i + (j - i) ≡ j = omega arith in
    subst (λ (k : ℕ). (move_at a i).from ≤ (move_at a k).from) e (froms-step a c i (j - i) (omega arith))

-- at most 512 positions
pub accepted-few : (text : List ℕ) (chart : Chart) → examined text ≡ Ok chart → chart.positions ≤ 512
accepted-few text chart e = let n = accepted-size text chart e in let h = (accepted-chartable text chart e).few-positions in omega arith
