-- The first value: before it nobody is placed, no move was looked at and nobody is due, and its first round has the positions with mark 1.
-- And the setting itself, from what coding, filing and counting leave.
use Rattle.std.specs.Prelude.{ℕ, ◌+◌, ◌*◌, ◌≤◌, ◌<◌, ◌≡◌, refl, ◌⊎◌, true, false, not, ◌&&◌, List, length}
use native.Mathlib.Omega.{arith}
use Rattle.std.proofs.Common.{sym, subst, ◌∙◌, inl, inr, eq-eqb, ne_eqb}
use Rattle.std.proofs.Math.Path.{ap}
use Rattle.std.proofs.Math.Bool.{cond, and-false}
use Rattle.std.proofs.Math.ListN.{get_or}
use Rattle.std.proofs.Math.Dec.{T, eqb}
use Rattle.search.specs.Below.{count_below}
use Rattle.search.specs.Counting.{count_none, count_past}
use Rattle.game.specs.Arena.{Arena, Move, Owner, controller, environment, nobody, meant_move, has_meant, owner_at, move_at, no_move}
use Rattle.game.proofs.Members.{member-at, at-member}
use Rattle.rows.specs.Rows.{RowIs, RowsOf, owner_number}
use Rattle.rows.specs.RowsLaws.{rows-within}
use Rattle.rows.specs.Numbers.{number_at, free}
use Rattle.round.specs.Round.{taken, Placing}
use Rattle.filing.specs.Filing.{Filing}
use Rattle.needs.specs.Needs.{Needs, need_of, code_of}
use Rattle.visits.specs.Lists.{Listed, among, among_none, among-all, listed-none, listed-most}
use Rattle.visits.specs.Standing.{Setting, Newly, Wide, Ready}
use Rattle.filed.specs.Values.{Gathered, Begun}
use Rattle.visits.specs.GrownLaws.{not-both}
use Rattle.filed.specs.RoundLaws.{round-placing}

module _ {n late : ℕ} (marks values : List ℕ) {later : List ℕ} (few : n ≤ 512) (none : RowIs values n (λ v. 65535)) (marked : Listed n late later (λ v. eqb (get_or marks v 0) 1)) where
  nobody-placed : (v : ℕ) → v < n → free values v ≡ true
  nobody-placed v l = eq-eqb (get_or values v 0) 65535 (none v l)

  pub marked-gathered : (steps order : List ℕ) → n ≤ length values → n ≤ length steps → n ≤ length order → n ≤ length later → Gathered n 0 late values steps order later
  marked-gathered steps order a b c d = record {
    few = few;
    placed = listed-none order (λ v l. ap not (nobody-placed v l));
    inside = marked.inside;
    short = listed-most marked;
    values-row = a;
    steps-row = b;
    order_row = c;
    later-row = d;
  }

  module _ {tail : ℕ} {steps order values' steps' order' : List ℕ} (begun : Begun n 0 late 0 values steps order later tail values' steps' order') where
    pub marks-placing : length values' ≡ length values → length steps' ≡ length steps → Placing n marks 0 0 values steps values' steps' (count_below (taken marks values) n)
    marks-placing e f =
        round-placing begun.grown marks (λ v l h. sym (among-all marked v l) ∙ h)
        (λ v l g h. let w = marked.found v l h in ap (λ (x : ℕ). free values' x) (sym w.2) ∙ begun.all w.0 w.1) e f

    module _ {starts entries : List ℕ} (g : Setting n starts entries) (needs due : List ℕ) (first : RowIs needs (2 * n) (number_at g.first)) (nobody-due : RowIs due n (λ v. 65535)) where
      zero-placed : (v : ℕ) → v < n → free values' v ≡ false → get_or values' v 0 ≤ 0
      zero-placed v l f = go (begun.grown.at v l)
        where
          go : ((get_or values' v 0 ≡ get_or values v 0) × (get_or steps' v 0 ≡ get_or steps v 0)) ⊎ Newly 0 0 (λ u. among later late u ≡ true) values values' steps' v → get_or values' v 0 ≤ 0
          go (inl h) = absurd (not-both (nobody-placed v l) (ap (λ (x : ℕ). eqb x 65535) (sym h.0) ∙ f))
          go (inr h) = omega (arith, h.value)

      unseen : (i : ℕ) → among order' 0 (get_or g.tos i 0) ≡ true → ⊥
      unseen i e = not-both e (among_none order' (get_or g.tos i 0))

      pub first-ready : Wide n needs values' steps' order' due later → Ready g 0 0 (record { tail = tail; late = 0 }) needs values' steps' order' due later
      first-ready wide = record {
        standing = record {
          counted = λ e l. ap (λ (x : ℕ). get_or needs e 0 + x) (count_none (λ i. eqb (get_or g.codes i 0) e && among order' 0 (get_or g.tos i 0)) g.m (λ i h. rw (among_none order' (get_or g.tos i 0), and-false))) ∙ (let f = first e l in omega arith);
          placed = begun.placed;
          waiting = listed-none later (λ v l. ne_eqb (get_or due v 0) 1 (λ z. omega (arith, nobody-due v l)));
          needing = λ v l f. rw (first (2 * v) (omega arith)) (g.some v l);
          low = zero-placed;
          soon = λ v l f. rw (nobody-due v l) (omega arith);
          reached = λ i l e. absurd (unseen i e);
          least = λ i v l m c e. absurd (unseen i e);
          caused = λ v l f. absurd (not-both (eq-eqb (get_or due v 0) 65535 (nobody-due v l)) f);
        };
        segment = λ i l m. (begun.grown.fresh i l m).1;
        started = omega arith;
        small = omega arith;
        wide = wide;
      }

-- The setting of a chart's rows

module _ {a : Arena} {n m : ℕ} {owners marks costs froms tos : List ℕ} (d : RowsOf a n m owners marks costs froms tos) where
  pub cost-small : (i : ℕ) → i < m → get_or costs i 0 < 2
  cost-small i l = rw (d.cost i l) (d.well.kind (move_at a i) (at-member no_move a.moves i (rw d.moves l)))

  pub code-small : (i : ℕ) → i < m → {x : ℕ} → x ≡ code_of costs froms i → x < 2 * n
  code-small i l e = omega (arith, (rows-within d).from-inside i l, cost-small i l)

  module _ (codes : List ℕ) (coded : RowIs codes m (code_of costs froms)) where
    -- each O has a meant move, so its code has a need
    pub some-need : {first : List ℕ} → Needs n m owners codes first → (v : ℕ) → v < n → 4096 < get_or first (2 * v) 0
    unfolding need_of
    some-need {first} needed v l = rw (needed.meant v l, d.owner v l) (go (owner_at a v) refl)
      where
        go : (o : Owner) → owner_at a v ≡ o → 4096 < 4096 + cond (eqb (owner_number o) 0) (count_below (λ i. eqb (get_or codes i 0) (2 * v)) m) 1
        go controller own =
            let w = d.well.meant v (rw d.positions l) (subst (λ (o : Owner). T (has_meant o)) (sym own) tt) in
            let i = member-at no_move (meant_move v w.0) a.moves w.1 in
            let inside : i.0 < m = rw d.moves at i.1 in
            let from : get_or froms i.0 0 ≡ v = d.from i.0 inside ∙ ap (λ (x : Move). x.from) i.2 in
            let cost : get_or costs i.0 0 ≡ 0 = d.cost i.0 inside ∙ ap (λ (x : Move). x.cost) i.2 in
            let some = count_past (λ j. eqb (get_or codes j 0) (2 * v)) i.0 m inside (eq-eqb (get_or codes i.0 0) (2 * v) (omega (arith, coded i.0 inside))) in
            omega arith
        go environment own = omega arith
        go nobody own = omega arith

    unfoldable pub setting-of : {starts₀ starts entries₀ entries first : List ℕ} → Filing n m tos codes starts₀ starts entries₀ entries → n < length starts → m ≤ length entries → Needs n m owners codes first → Setting n starts entries
    setting-of {starts₀} {starts} {entries₀} {entries} {first} filing long longer needed = record {
      m = m;
      owners = owners;
      costs = costs;
      froms = froms;
      tos = tos;
      codes = codes;
      first = first;
      few-positions = d.few-positions;
      few-moves = d.few-moves;
      starts-row = long;
      entries-row = longer;
      from-inside = (rows-within d).from-inside;
      to_inside = (rows-within d).to_inside;
      kind = cost-small;
      code = coded;
      filed = filing.filed;
      needed = needed;
      some = some-need needed;
    }
