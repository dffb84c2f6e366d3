-- The entries of one position, one after the other: those before place j of the file were looked at. When all were, the moves into the
-- position were, each once and no other.
use Rattle.std.specs.Prelude.{ℕ, ◌+◌, ◌*◌, ◌/◌, ◌≤◌, ◌<◌, ◌≡◌, ◌⊎◌, Bool, true, false, not, ◌&&◌, ◌||◌, List, length, get_or}
use Rattle.std.proofs.Common.{arith, ◌∙◌, inl, inr}
use Rattle.std.proofs.Math.Decide.{ℕ_discrete, dec_lt}
use Rattle.std.proofs.Math.Path.{refl, sym, ap}
use Rattle.std.proofs.Math.Bool.{or-false, or-true, and-false}
use Rattle.std.proofs.Math.Dec.{eqb, ltb}
use borrow.Author.Tests.{eq-eqb, ne_eqb, lt-ltb, le-ltb, ltb-true}
use Rattle.search.specs.Below.{some_same}
use Rattle.rows.specs.Numbers.{free}
use Rattle.filing.specs.Filing.{start_of, place_of}
use Rattle.filing.specs.FilingLaws.{place_inside, one_place, at_place}
use Rattle.visits.specs.Lists.{among, among-more, among_next, listed-room}
use Rattle.visits.specs.Steps.{Looked}
use Rattle.visits.specs.Standing.{Setting, Newly, Grown, Wide, AsLong, Ready, Progress}
use Rattle.visits.specs.GrownLaws.{grown-none, grown-then}
use Rattle.visits.specs.LookLaws.{code_inside, state-same, need-left, look-state, look-grown, look-falls}
use Rattle.visits.specs.declared.Lists.{Lists}

-- rows that stay, rows that change twice
pub as-long-same : {needs values steps order due later : List ℕ} → AsLong needs values steps order due later needs values steps order due later
as-long-same = record { needs-row = refl; values-row = refl; steps-row = refl; order_row = refl; due-row = refl; later-row = refl }

pub as-long-then : {needs values steps order due later needs' values' steps' order' due' later' needs'' values'' steps'' order'' due'' later'' : List ℕ}
    → AsLong needs values steps order due later needs' values' steps' order' due' later' → AsLong needs' values' steps' order' due' later' needs'' values'' steps'' order'' due'' later''
    → AsLong needs values steps order due later needs'' values'' steps'' order'' due'' later''
as-long-then a b = record {
  needs-row = b.needs-row ∙ a.needs-row;
  values-row = b.values-row ∙ a.values-row;
  steps-row = b.steps-row ∙ a.steps-row;
  order_row = b.order_row ∙ a.order_row;
  due-row = b.due-row ∙ a.due-row;
  later-row = b.later-row ∙ a.later-row;
}

-- rows that are as long have as much room
pub as-long-wide : {n : ℕ} {needs values steps order due later needs' values' steps' order' due' later' : List ℕ} → Wide n needs values steps order due later
    → AsLong needs values steps order due later needs' values' steps' order' due' later' → Wide n needs' values' steps' order' due' later'
as-long-wide {n} w a =
    record {
      needs-row = omega (arith, a.needs-row, w.needs-row);
      values-row = omega (arith, a.values-row, w.values-row);
      steps-row = omega (arith, a.steps-row, w.steps-row);
      order_row = omega (arith, a.order_row, w.order_row);
      due-row = omega (arith, a.due-row, w.due-row);
      later-row = omega (arith, a.later-row, w.later-row);
    }

-- the same first numbers
pub among_same : (row row' : List ℕ) (c v : ℕ) → ((i : ℕ) → i < c → get_or row' i 0 ≡ get_or row i 0) → among row c v ≡ among row' c v
unfolding among
among_same row row' c v h = some_same (λ i. eqb (get_or row i 0) v) (λ i. eqb (get_or row' i 0) v) c (λ i l. ap (λ (x : ℕ). eqb x v) (sym (h i l)))

-- a position of value k keeps it
pub still-k : {n k s tail tail' : ℕ} {p : ℕ → Type 0} {values steps order values' steps' order' : List ℕ} → Grown n k s p tail values steps order tail' values' steps' order'
    → (v : ℕ) → v < n → get_or values v 0 ≡ k → get_or values' v 0 ≡ k
still-k {k} {s} {p} {values} {steps} {values'} {steps'} grown v l e = go (grown.at v l)
  where
    go : ((get_or values' v 0 ≡ get_or values v 0) × (get_or steps' v 0 ≡ get_or steps v 0)) ⊎ Newly k s p values values' steps' v → get_or values' v 0 ≡ k
    go (inl b) = b.0 ∙ e
    go (inr b) = b.value

module _ {n : ℕ} {starts entries : List ℕ} (g : Setting n starts entries) where
  -- the moves into the first `head` of the order, and those into `to` before place j of the file
  unfoldable pub seen_at : (order : List ℕ) (head to j : ℕ) → ℕ → Bool
  seen_at order head to j i = among order head (get_or g.tos i 0) || (eqb (get_or g.tos i 0) to && ltb (place_of g.tos g.m i) j)

  module _ (order : List ℕ) (head to : ℕ) where
    seen_first : (j i : ℕ) → i < g.m → j ≡ start_of g.tos g.m to → among order head (get_or g.tos i 0) ≡ seen_at order head to j i
    unfolding seen_at
    seen_first j i l e = go (ℕ_discrete (get_or g.tos i 0) to)
      where
        go : Dec (get_or g.tos i 0 ≡ to) → among order head (get_or g.tos i 0) ≡ (among order head (get_or g.tos i 0) || (eqb (get_or g.tos i 0) to && ltb (place_of g.tos g.m i) j))
        go (yes z) =
            let p = (place_inside g.tos g.m i l).0 in
            let q : start_of g.tos g.m to ≤ place_of g.tos g.m i = rw z at p in
            rw (le-ltb (place_of g.tos g.m i) j (omega arith), and-false, or-false)
        go (no z) = rw (ne_eqb _ _ z, or-false)

    seen_last : (j i : ℕ) → i < g.m → j ≡ start_of g.tos g.m (to + 1) → get_or order head 0 ≡ to → seen_at order head to j i ≡ among order (head + 1) (get_or g.tos i 0)
    unfolding seen_at
    seen_last j i l e o = rw (among-more order head (get_or g.tos i 0), o) (go (ℕ_discrete (get_or g.tos i 0) to))
      where
        go : Dec (get_or g.tos i 0 ≡ to) → (among order head (get_or g.tos i 0) || (eqb (get_or g.tos i 0) to && ltb (place_of g.tos g.m i) j)) ≡ (among order head (get_or g.tos i 0) || eqb to (get_or g.tos i 0))
        go (yes z) =
            let p = (place_inside g.tos g.m i l).1 in
            let q : place_of g.tos g.m i < start_of g.tos g.m (to + 1) = rw z at p in
            rw (lt-ltb (place_of g.tos g.m i) j (omega arith), eq-eqb _ _ z, eq-eqb _ _ (sym z))
        go (no z) = rw (ne_eqb _ _ z, ne_eqb _ _ (λ q. z (sym q)))

    -- the move at place j is the one more
    module _ {j i : ℕ} (target : get_or g.tos i 0 ≡ to) (l : i < g.m) (place : place_of g.tos g.m i ≡ j) where
      seen-out : among order head to ≡ false → seen_at order head to j i ≡ false
      unfolding seen_at
      seen-out e = rw (target, e, le-ltb (place_of g.tos g.m i) j (omega arith), and-false)

      seen-now : seen_at order head to (j + 1) i ≡ true
      unfolding seen_at
      seen-now = rw (target, eq-eqb to to refl, lt-ltb (place_of g.tos g.m i) (j + 1) (omega arith), or-true)

      seen-others : (u : ℕ) → u < g.m → (u ≡ i → ⊥) → seen_at order head to j u ≡ seen_at order head to (j + 1) u
      unfolding seen_at
      seen-others u m z = ap (λ (b : Bool). among order head (get_or g.tos u 0) || (eqb (get_or g.tos u 0) to && b)) (go (dec_lt (place_of g.tos g.m u) j))
        where
          go : Dec (place_of g.tos g.m u < j) → ltb (place_of g.tos g.m u) j ≡ ltb (place_of g.tos g.m u) (j + 1)
          go (yes h) = rw (lt-ltb _ _ h, lt-ltb (place_of g.tos g.m u) (j + 1) (omega arith))
          go (no h) =
              let apart : place_of g.tos g.m u ≡ j → ⊥ = λ q. z (one_place g.tos g.m u i m l (q ∙ sym place)) in
              rw (le-ltb (place_of g.tos g.m u) j (omega arith), le-ltb (place_of g.tos g.m u) (j + 1) (omega arith))

  -- from the start of the position at `head`
  module _ {k head : ℕ} {lists : Lists} {needs values steps order due later : List ℕ} (ready : Ready g k head lists needs values steps order due later) (more : head < lists.tail) where
    abbrev to : ℕ
    to = get_or order head 0

    pub to_inside : to < n
    to_inside = ready.standing.placed.inside head more

    module _ {s : ℕ} where
      pub visit-none : {j : ℕ} → j ≡ start_of g.tos g.m to → Progress g k s (seen_at order head to j) lists needs values steps order lists needs values steps order due later
      visit-none {j} e = record {
        state = state-same g ready.standing (λ i l. seen_first order head to j i l e);
        grown = grown-none n k s _ lists.tail values steps order;
        falls = λ x. omega arith;
      }

      module _ {j : ℕ} {lists' : Lists} {needs' values' steps' order' due' later' : List ℕ} (so_far : Progress g k s (seen_at order head to j) lists needs values steps order lists' needs' values' steps' order' due' later') where
        -- when all entries were looked at
        pub visit-done : j ≡ start_of g.tos g.m (to + 1)
            → Progress g k s (λ i. among order' (head + 1) (get_or g.tos i 0)) lists needs values steps order lists' needs' values' steps' order' due' later'
        visit-done e = record {
          state = state-same g so_far.state (λ i l. seen_last order head to j i l e refl ∙ among_same order order' (head + 1) (get_or g.tos i 0) (λ u m. so_far.grown.order-kept u (omega arith)));
          grown = so_far.grown;
          falls = so_far.falls;
        }

        -- the entry at place j
        module _ (low : start_of g.tos g.m to ≤ j) (high : j < start_of g.tos g.m (to + 1)) where
          abbrev line : ℕ
          line = (at_place g.tos g.m to j low high).0

          line-inside : line < g.m
          line-inside = (at_place g.tos g.m to j low high).1

          line-target : get_or g.tos line 0 ≡ to
          line-target = (at_place g.tos g.m to j low high).2

          line-place : place_of g.tos g.m line ≡ j
          line-place = (at_place g.tos g.m to j low high).3

          entry-is : get_or g.codes line 0 ≡ get_or entries j 0
          entry-is = sym (g.filed.entry line line-inside) ∙ ap (λ (x : ℕ). get_or entries x 0) line-place

          pub entry-inside : get_or entries j 0 < 2 * n
          entry-inside = rw (← entry-is) (code_inside g line line-inside)

          out : seen_at order head to j line ≡ false
          out = seen-out order head to line-target line-inside line-place (among_next ready.standing.placed head more)

          pub entry-needs : 0 < get_or needs' (get_or entries j 0) 0
          entry-needs = need-left g so_far.state line-inside entry-is out

          -- there is room for its position in the order, if it is not placed, and in the list, if it is not due yet
          pub order-room : Wide n needs' values' steps' order' due' later' → free values' (get_or entries j 0 / 2) ≡ true → lists'.tail < length order'
          order-room wide free = let h = entry-inside in let r = listed-room so_far.state.placed {v = get_or entries j 0 / 2} (omega arith) (ap not free) in omega (arith, wide.order_row)

          pub later-room : Wide n needs' values' steps' order' due' later' → ltb (k + 1) (get_or due' (get_or entries j 0 / 2) 0) ≡ true → lists'.late < length later'
          later-room wide soon =
              let h = entry-inside in
              let r = listed-room so_far.state.waiting {v = get_or entries j 0 / 2} (omega arith) (ne_eqb (get_or due' (get_or entries j 0 / 2) 0) (k + 1) (λ z. omega (arith, ltb-true (k + 1) (get_or due' (get_or entries j 0 / 2) 0) soon))) in
              omega (arith, wide.later-row)

          target-value : get_or values' (get_or g.tos line 0) 0 ≡ k
          target-value = rw line-target (still-k so_far.grown to to_inside (ready.segment head (omega arith) more))

          pub visit-turn : {lists'' : Lists} {needs'' values'' steps'' order'' due'' later'' : List ℕ} → Wide n needs' values' steps' order' due' later'
              → Looked (get_or entries j 0) k s lists' needs' values' steps' order' due' later' needs'' values'' steps'' order'' due'' later'' lists''
              → Progress g k s (seen_at order head to (j + 1)) lists needs values steps order lists'' needs'' values'' steps'' order'' due'' later''
          visit-turn {lists''} {needs''} {values''} {steps''} {order''} {due''} {later''} wide looked = record {
            state = look-state g so_far.state line-inside entry-is out now others wide.needs-row target-value ready.small refl refl wide.values-row wide.steps-row wide.order_row wide.due-row wide.later-row looked;
            grown = grown-then (λ v. get_or needs'' (2 * v) 0 ≤ 4096) (let z = ready.small in omega arith) (λ v l h. let f = falls (2 * v) in omega arith) (λ v l h. h) so_far.grown
                (look-grown g so_far.state line-inside entry-is out now others wide.needs-row target-value ready.small refl refl wide.values-row wide.steps-row wide.order_row wide.due-row wide.later-row looked);
            falls = λ x. let f = falls x in let h = so_far.falls x in omega arith;
          }
            where
              now : seen_at order head to (j + 1) line ≡ true
              now = seen-now order head to line-target line-inside line-place

              others : (u : ℕ) → u < g.m → (u ≡ line → ⊥) → seen_at order head to j u ≡ seen_at order head to (j + 1) u
              others = seen-others order head to line-target line-inside line-place

              falls : (x : ℕ) → get_or needs'' x 0 ≤ get_or needs' x 0
              falls = look-falls g so_far.state line-inside entry-is out now others wide.needs-row target-value ready.small refl refl wide.values-row wide.steps-row wide.order_row wide.due-row wide.later-row looked

    -- where the entries of the position are: from its start to that of the next
    pub entries_from : get_or starts to 0 ≡ start_of g.tos g.m to
    entries_from = g.filed.start to (let h = to_inside in omega arith)

    pub entries-to : get_or starts (to + 1) 0 ≡ start_of g.tos g.m (to + 1)
    entries-to = g.filed.start (to + 1) (let h = to_inside in omega arith)

  -- after a part of a round the next goes on
  module _ {k head : ℕ} {lists : Lists} {needs values steps order due later : List ℕ} (ready : Ready g k head lists needs values steps order due later) where
    pub ready-next : {s next : ℕ} {lists' : Lists} {needs' values' steps' order' due' later' : List ℕ} → head ≤ next → next ≤ lists.tail
        → Progress g k s (λ i. among order' next (get_or g.tos i 0)) lists needs values steps order lists' needs' values' steps' order' due' later' → Wide n needs' values' steps' order' due' later'
        → Ready g k next lists' needs' values' steps' order' due' later'
    ready-next {s} {next} {lists'} {needs'} {values'} {steps'} {order'} {due'} {later'} l m done wide = record {
      standing = done.state;
      segment = λ i h u. go i h u (dec_lt i lists.tail);
      started = let h = done.grown.longer in omega arith;
      small = ready.small;
      wide = wide;
    }
      where
        go : (i : ℕ) → next ≤ i → i < lists'.tail → Dec (i < lists.tail) → get_or values' (get_or order' i 0) 0 ≡ k
        go i h u (yes z) = rw (done.grown.order-kept i z) (still-k done.grown (get_or order i 0) (ready.standing.placed.inside i z) (ready.segment i (omega arith) z))
        go i h u (no z) = (done.grown.fresh i (omega arith) u).1

    -- nothing was looked at yet
    pub round-none : {s : ℕ} → Progress g k s (λ i. among order head (get_or g.tos i 0)) lists needs values steps order lists needs values steps order due later
    round-none {s} = record { state = ready.standing; grown = grown-none n k s _ lists.tail values steps order; falls = λ x. omega arith }

    -- one part after another
    pub progress-then : {s : ℕ} {seen seen' : ℕ → Bool} {lists' lists'' : Lists} {needs' values' steps' order' due' later' needs'' values'' steps'' order'' due'' later'' : List ℕ}
        → Progress g k s seen lists needs values steps order lists' needs' values' steps' order' due' later'
        → Progress g k s seen' lists' needs' values' steps' order' lists'' needs'' values'' steps'' order'' due'' later''
        → Progress g k s seen' lists needs values steps order lists'' needs'' values'' steps'' order'' due'' later''
    progress-then {needs''} one two = record {
      state = two.state;
      grown = grown-then (λ v. get_or needs'' (2 * v) 0 ≤ 4096) (let z = ready.small in omega arith) (λ v l h. let f = two.falls (2 * v) in omega arith) (λ v l h. h) one.grown two.grown;
      falls = λ x. let f = two.falls x in let h = one.falls x in omega arith;
    }
