-- The straightened moves are those of the arena of tight moves, so the least counts of moves over them are the moves that are left; and the row
-- of next positions leads on there.
use Rattle.std.specs.Prelude.{ℕ, zero, suc, ◌+◌, ◌≤◌, ◌<◌, ◌≡◌, ◌⊎◌, ◌↔◌, Bool, true, false, not, ◌&&◌, List, length, T, eqb}
use Rattle.std.proofs.Common.{arith, subst, ◌∙◌, inl, inr, eqb→eq, eq-eqb, ne_eqb, eqb-true}
use Rattle.std.proofs.Math.Path.{refl, sym, ap}
use mathlib.Core.List.Memᴰ
use Rattle.std.proofs.Math.ListN.{get_or, length-map}
use Rattle.rows.specs.Rows.{RowIs, RowsOf, Filled}
use Rattle.rows.specs.RowsLaws.{from-inside, to_inside}
use Rattle.rows.specs.Numbers.{number_of, value_of}
use Rattle.rows.specs.NumberLaws.{Fits, value-of-number}
use Rattle.game.specs.Value.{Value, fin, ever, ◌≼◌, ◌⊕◌, value_eq}
use Rattle.game.proofs.ValueLaws.{fin-injective, fin-is-not-ever, ≼fin, ≼trans, ≡→≼, ever≼, ⊕fin, ⊕mono, ⊕below}
use Rattle.game.specs.Arena.{Arena, Move, WellFormed, size, move_at, no_move, position_at, unsafe, disturbance_move, Disturbance}
use Rattle.game.proofs.Members.{member-at, at-member}
use Rattle.game.proofs.PlayLaws.{by-test}
use Rattle.game.specs.Table.{round_value}
use Rattle.game.proofs.RoundBounds.{round-value-within-size}
use Rattle.way.specs.Tight.{tight, straightened, tightened, moves_left}
use Rattle.way.specs.TightLaws.{mapped_at, tightened-size, tightened-is-well-formed, some-shortens, none_left, one_at_most, Tight, disturbance-is-tight}
use Rattle.way.proofs.WayLaws.{Leading}
use Rattle.way.proofs.OneWay.{next-exists}
use Rattle.valuing.specs.ValuingLaws.{round-value-fits}
use Rattle.distances.specs.Distances.{Joins, Distances}
use Rattle.way_rows.specs.Steps.{is_tight, straight_to, shortens, PointedBy, Pointed, LeadsOn}

-- the test of tightness over numbers
tight-number : (x y : Value) (c : ℕ) → Fits x → Fits y → (not (eqb (number_of x) 65535) && eqb (number_of x) (number_of y + c)) ≡ (not (value_eq x ever) && value_eq x (y ⊕ c))
unfolding number_of value_eq ◌⊕◌
tight-number ever y c f g = refl
tight-number (fin k) (fin j) c f g = rw (ne_eqb k 65535 (λ e. omega arith))
tight-number (fin k) ever c f g = rw (ne_eqb k 65535 (λ e. omega arith), ne_eqb k (65535 + c) (λ e. omega arith))

module _ (a : Arena) {n m : ℕ} {owners marks costs froms tos straight₀ straight : List ℕ} (worths : List ℕ) (d : RowsOf a n m owners marks costs froms tos)
    (worth : RowIs worths n (λ v. number_of (round_value a v))) (filled : Filled straight₀ straight m (straight_to worths costs froms tos)) where
  few : size a ≤ 512
  few = let p = d.positions in let h = d.few-positions in omega arith

  fits : (v : ℕ) → Fits (round_value a v)
  fits v = round-value-fits a d.well few v

  tight-is : (i : ℕ) → i < m → is_tight worths costs froms tos i ≡ tight a (move_at a i)
  unfolding is_tight tight
  tight-is i l =
      let from = from-inside a n m owners marks costs froms tos d i l in
      let to = to_inside a n m owners marks costs froms tos d i l in
      rw (d.cost i l, d.from i l, d.to i l, worth (move_at a i).from from, worth (move_at a i).to to)
      (tight-number (round_value a (move_at a i).from) (round_value a (move_at a i).to) (move_at a i).cost (fits (move_at a i).from) (fits (move_at a i).to))

  move-there : (i : ℕ) → i < m → move_at (tightened a) i ≡ straightened a (move_at a i)
  unfolding tightened
  move-there i l = mapped_at (straightened a) a.moves i no_move no_move (rw d.moves l)

  straight-is : (i : ℕ) → i < m → get_or straight i 0 ≡ (move_at (tightened a) i).to
  unfolding straight_to straightened
  straight-is i l = filled.row i l ∙ rw (tight-is i l, d.from i l, d.to i l) (ap (λ (x : Move). x.to) (sym (move-there i l)))

  well : WellFormed (tightened a)
  well = tightened-is-well-formed a d.well

  -- a disturbance of that arena stands on a line
  line_of : (v w : ℕ) → Disturbance (tightened a) v w → (i : ℕ) × (i < m) × (get_or froms i 0 ≡ v) × (get_or straight i 0 ≡ w)
  unfolding tightened straightened
  line_of v w (c, mem) =
      let at = member-at no_move (disturbance_move (suc c) v w) (tightened a).moves mem in
      let i = at.0 in
      let l : i < m = let e = length-map a.moves (straightened a) in let f = d.moves in omega (arith, at.1) in
      (i, l, d.from i l ∙ ap (λ (x : Move). x.from) (sym (move-there i l) ∙ at.2), straight-is i l ∙ ap (λ (x : Move). x.to) at.2)

  -- and a line has such a one
  on_line : (i : ℕ) → i < m → Disturbance (tightened a) (get_or froms i 0) (get_or straight i 0)
  unfolding tightened straightened
  on_line i l =
      let there = move-there i l in
      let mem = at-member no_move (tightened a).moves i (let e = length-map a.moves (straightened a) in let f = d.moves in omega arith) in
      let f = d.from i l ∙ ap (λ (x : Move). x.from) (sym there) in
      let t = straight-is i l in
      let c = ap (λ (x : Move). x.cost) there in
      (0, Memᴰ.cast (λ z. record { cost = sym c z; from = f z; to = t z }) mem)

  line-inside : (i : ℕ) → i < m → (get_or froms i 0 < n) × (get_or straight i 0 < n)
  line-inside i l =
      let dist = on_line i l in
      let mem = dist.1 in (
        rw (tightened-size a d.well, d.positions) at (well.from-position (disturbance_move (suc dist.0) (get_or froms i 0) (get_or straight i 0)) mem),
        rw (tightened-size a d.well, d.positions) at (well.to-position (disturbance_move (suc dist.0) (get_or froms i 0) (get_or straight i 0)) mem),
      )

  pub straight-joins : m ≤ length straight → Joins n m froms straight
  straight-joins room = record { froms-row = d.froms-row; tos-row = room; from-inside = λ i l. (line-inside i l).0; to_inside = λ i l. (line-inside i l).1 }

  -- The least counts of moves over the straightened moves are the moves that are left

  module _ {left : List ℕ} (counted : Distances n m marks froms straight left) where
    unsafe-marked : (v : ℕ) → v < n → (get_or marks v 0 ≡ 1) ↔ T (unsafe a v)
    unsafe-marked v l = (λ e. subst T (sym (eq-eqb (position_at a v).mark 1 (sym (d.mark v l) ∙ e))) tt, λ u. d.mark v l ∙ eqb→eq (position_at a v).mark 1 u)

    -- a count is that of some way, so no fewer are left
    at_most : (k v : ℕ) → v < n → get_or left v 0 ≡ k → k < n → moves_left a v ≼ fin k
    at_most zero v l e h = ≡→≼ (moves_left a v) (fin 0) (none_left a d.well v (rw d.positions l) ((unsafe-marked v l).0 (counted.only-marked v l e)))
    at_most (suc k) v l e h =
        let by = counted.one_more v k l h e in
        let i = by.line in
        let w = get_or straight i 0 in
        let dist = subst (λ (u : ℕ). Disturbance (tightened a) u w) by.leaves (on_line i by.inside) in
        let there = at_most k w (line-inside i by.inside).1 by.there (omega arith) in
        let up = ≼trans (moves_left a v) (moves_left a w ⊕ 1) (fin k ⊕ 1) (one_at_most a d.well v w (rw d.positions l) dist) (⊕mono (moves_left a w) (fin k) 1 1 there (omega arith)) in
        ≼trans (moves_left a v) (fin k ⊕ 1) (fin (suc k)) up (≡→≼ (fin k ⊕ 1) (fin (suc k)) (⊕fin k 1 ∙ ap fin (omega arith)))

    -- and where moves are left, no count is above them
    none_more : (k v : ℕ) → v < n → T (unsafe a v) → get_or left v 0 ≤ k
    none_more k v l u = let z = counted.marked v l ((unsafe-marked v l).1 u) in omega arith

    no_more : (k v : ℕ) → v < n → moves_left a v ≡ fin k → get_or left v 0 ≤ k
    no_more zero v l e = go (by-test (unsafe a v))
      where
        go : T (unsafe a v) ⊎ (unsafe a v ≡ false) → get_or left v 0 ≤ 0
        go (inl u) = none_more 0 v l u
        go (inr safe) =
            let s = some-shortens a d.well v 0 (rw d.positions l) safe e in
            let b = ⊕below (moves_left a s.0) 1 0 (≡→≼ (moves_left a s.0 ⊕ 1) (fin 0) (sym s.2 ∙ e)) in
            absurd (omega (arith, b.2))
    no_more (suc k) v l e =
        let s = next-exists a d.well v k (rw d.positions l) e in
        let line = line_of v s.0 s.1 in
        let low = counted.no_less line.0 line.1 in
        let inside : s.0 < n = rw line.3 at (line-inside line.0 line.1).1 in
        let there = no_more k s.0 inside s.2 in
        let x = ap (λ (u : ℕ). get_or left u 0) line.2 in
        let y = ap (λ (u : ℕ). get_or left u 0) line.3 in
        omega arith

    pub left-row : RowIs left n (λ v. number_of (moves_left a v))
    unfolding number_of
    left-row v l = go (moves_left a v) refl
      where
        none : moves_left a v ≡ ever → (get_or left v 0 ≡ 65535) ⊎ (get_or left v 0 < n) → get_or left v 0 ≡ 65535
        none e (inl z) = z
        none e (inr h) = absurd (fin-is-not-ever (get_or left v 0) (ever≼ (fin (get_or left v 0)) (rw e at (at_most (get_or left v 0) v l refl h))))

        go : (x : Value) → moves_left a v ≡ x → get_or left v 0 ≡ number_of x
        go (fin k) e =
            let low = no_more k v l e in
            let few = rw (tightened-size a d.well, d.positions) at (round-value-within-size (tightened a) well v k e) in
            let high = ≼fin k (get_or left v 0) (rw e at (at_most (get_or left v 0) v l refl (omega arith))) in
            omega arith
        go ever e = none e (counted.small v l)

  -- The row of next positions

  module _ {next : List ℕ} (left : List ℕ) (left_is : RowIs left n (λ v. number_of (moves_left a v))) (pointed : Pointed n froms straight left m next) where
    left-fits : (v : ℕ) → Fits (moves_left a v)
    left-fits v = round-value-fits (tightened a) well (rw (tightened-size a d.well) few) v

    -- a number in the row as moves that are left
    left-number : (v k : ℕ) → v < n → moves_left a v ≡ fin k → get_or left v 0 ≡ k
    unfolding number_of
    left-number v k l e = left_is v l ∙ ap number_of e

    number-left : (v k : ℕ) → v < n → k < 65535 → get_or left v 0 ≡ k → moves_left a v ≡ fin k
    unfolding value_of
    number-left v k l small e = sym (value-of-number (moves_left a v) (left-fits v)) ∙ ap value_of (sym (left_is v l) ∙ e) ∙ rw (ne_eqb k 65535 (λ z. omega arith))

    -- a line to a position from where one move less is left shortens the way
    shortens-if : (i v k : ℕ) → i < m → v < n → get_or froms i 0 ≡ v → moves_left a v ≡ fin (suc k) → moves_left a (get_or straight i 0) ≡ fin k → shortens froms straight left i ≡ true
    unfolding shortens
    shortens-if i v k l inside f e g = rw (f, left-number v (suc k) inside e, left-number (get_or straight i 0) k (line-inside i l).1 g) (eq-eqb (suc k) (k + 1) (omega arith))

    not_lower : (v w k : ℕ) → v < n → moves_left a v ≡ fin (suc k) → Disturbance (tightened a) v w → moves_left a w ≡ fin k → get_or next v 0 ≤ w
    not_lower v w k inside e dist g =
        let line = line_of v w dist in
        let i = line.0 in
        let low = pointed.none-lower i line.1 (shortens-if i v k line.1 inside line.2 e (ap (moves_left a) line.3 ∙ g)) in
        rw (line.2, line.3) at low

    record NextAt (v k : ℕ) : Type 0 where
      goes : Disturbance (tightened a) v (get_or next v 0)
      inside : get_or next v 0 < n
      left_there : moves_left a (get_or next v 0) ≡ fin k

    next-at : (v k : ℕ) → v < n → moves_left a v ≡ fin (suc k) → NextAt v k
    unfolding shortens
    next-at v k l e = go (pointed.some v l)
      where
        some : (w : ℕ) × Disturbance (tightened a) v w × (moves_left a w ≡ fin k)
        some = next-exists a d.well v k (rw d.positions l) e

        go : (get_or next v 0 ≡ 65535) ⊎ ((j : ℕ) × (j < m) × PointedBy froms straight left next v j) → NextAt v k
        go (inl none) =
            let low = not_lower v some.0 k l e some.1 some.2 in
            let line = line_of v some.0 some.1 in
            let in_row = (line-inside line.0 line.1).1 in
            absurd (omega (arith, line.3, d.few-positions))
        go (inr (j, h, by)) =
            let inside = line-inside j h in
            let short = eqb-true (get_or left (get_or froms j 0) 0) (get_or left (get_or straight j 0) 0 + 1) by.shorter in
            let here = left-number v (suc k) l e in
            let there : get_or left (get_or straight j 0) 0 ≡ k = let f = ap (λ (x : ℕ). get_or left x 0) by.leaves in omega arith in
            let small = left-fits v in
            record {
              goes = subst (λ (w : ℕ). Disturbance (tightened a) v w) (sym by.named) (subst (λ (u : ℕ). Disturbance (tightened a) u (get_or straight j 0)) by.leaves (on_line j h));
              inside = rw by.named inside.1;
              left_there = rw by.named (number-left (get_or straight j 0) k inside.1 (let s = subst Fits e (left-fits v) in omega arith) there);
            }

    pub row-leads : Leading a (λ v. get_or next v 0)
    row-leads = record {
      goes = λ v k l e. let x = next-at v k (rw d.positions at l) e in (x.goes, x.left_there);
      lowest = λ v w k l e dist g. not_lower v w k (rw d.positions at l) e dist g;
    }

    -- the worth does not rise there
    falls : (v k : ℕ) → v < n → moves_left a v ≡ fin (suc k) → get_or worths (get_or next v 0) 0 ≤ get_or worths v 0
    unfolding number_of
    falls v k l e = go (next-at v k l e)
      where
        numbers : (x : NextAt v k) → (v ≡ get_or next v 0) ⊎ ((b : Bool) × Tight a b v (get_or next v 0)) → get_or worths (get_or next v 0) 0 ≤ get_or worths v 0
        numbers x (inl same) = let z = fin-injective (suc k) k (sym e ∙ ap (moves_left a) same ∙ x.left_there) in absurd (omega arith)
        numbers x (inr (b, (goes, t))) = rw (worth v l, worth (get_or next v 0) x.inside, t.here, t.there) (omega arith)

        go : NextAt v k → get_or worths (get_or next v 0) 0 ≤ get_or worths v 0
        go x = numbers x (disturbance-is-tight a d.well v (get_or next v 0) x.goes)

    pub row-leads-on : LeadsOn n worths left next
    row-leads-on = record {
      inside = λ v k l s e. (next-at v k l (left-of v k l s e)).inside;
      shorter = λ v k l s e. let x = next-at v k l (left-of v k l s e) in left-number (get_or next v 0) k x.inside x.left_there;
      no-higher = λ v k l s e. falls v k l (left-of v k l s e);
    }
      where
        left-of : (v k : ℕ) → v < n → suc k < n → get_or left v 0 ≡ suc k → moves_left a v ≡ fin (suc k)
        left-of v k l s e = number-left v (suc k) l (omega (arith, d.few-positions)) e
