-- The first round of a value: those who are due at it are placed, and these are those with a disturbance into the value before.
use Rattle.std.specs.Prelude.{ℕ, ◌+◌, ◌*◌, ◌≤◌, ◌<◌, ◌≡◌, refl, ◌⊎◌, Bool, true, ◌&&◌, List, length, set}
use Rattle.std.proofs.Common.{arith, sym, ◌∙◌, inl, inr, get_or-set_same}
use Rattle.std.proofs.Math.Decide.{ℕ_discrete}
use Rattle.std.proofs.Math.Path.{ap}
use Rattle.std.proofs.Math.Bool.{false, not, or-true}
use Rattle.std.proofs.Math.ListN.{get_or}
use Rattle.std.proofs.Math.Dec.{eqb}
use borrow.Author.Tests.{eq-eqb, ne_eqb, eqb-true}
use Rattle.search.specs.Below.{bit, bit-one, count_below, count_same, some-found, some-hit}
use Rattle.rows.specs.Numbers.{number_at, free}
use Rattle.rows.specs.Notes.{Noted, found}
use Rattle.rows.specs.Filling.{set_if}
use Rattle.round.specs.Round.{taken, Placing, disturbs}
use Rattle.visits.specs.Lists.{among, among-more, among-all, listed-most, listed-none, listed-room}
use Rattle.visits.specs.Steps.{Put}
use Rattle.visits.specs.Standing.{Setting, Newly, Wide, AsLong, Ready}
use Rattle.filed.specs.Values.{Gathered, Begun, ValueBegun}
use Rattle.visits.specs.GrownLaws.{not-both, grown-none, grown-then, grown-put, listed-put}
use Rattle.visits.specs.LookLaws.{value-then, both_hold}
use Rattle.visits.specs.VisitLaws.{among_same}
use Rattle.filed.specs.RoundLaws.{row_from, row-at, round-placing, round-empty}
use Rattle.visits.specs.declared.Lists.{Lists}

-- what a put leaves placed
module _ {v k s tail next : ℕ} {values steps order values' steps' order' : List ℕ} (put : Put v k s tail values steps order values' steps' order' next) where
  put_keeps : (u : ℕ) → free values u ≡ false → free values' u ≡ false
  put_keeps u f = rw put.value (go (free values v) refl)
    where
      go : (b : Bool) → free values v ≡ b → free (set_if b v k values) u ≡ false
      go true e = ap (λ (x : ℕ). eqb x 65535) (value-then values v u k e f) ∙ f
      go false e = f

  put-places : k < 65535 → v < length values → free values' v ≡ false
  put-places small l = rw put.value (go (free values v) refl)
    where
      go : (b : Bool) → free values v ≡ b → free (set_if b v k values) v ≡ false
      go true e = ne_eqb (get_or (set values v k) v 0) 65535 (λ z. omega (arith, get_or-set_same values v k 0 l))
      go false e = e

among-earlier : (row : List ℕ) (c v : ℕ) → among row c v ≡ true → among row (c + 1) v ≡ true
among-earlier row c v e = among-more row c v ∙ rw e

among-last : (row : List ℕ) (c : ℕ) → among row (c + 1) (get_or row c 0) ≡ true
among-last row c = among-more row c (get_or row c 0) ∙ rw (eq-eqb (get_or row c 0) (get_or row c 0) refl, or-true)

module _ {n k tail late : ℕ} {values steps order later : List ℕ} (gathered : Gathered n tail late values steps order later) where
  pub begun-none : Begun n k 0 tail values steps order later tail values steps order
  begun-none = record { grown = grown-none n k 0 _ tail values steps order; placed = gathered.placed; all = λ j l. absurd (omega arith) }

  pub begun-turn : {i tail' next : ℕ} {values' steps' order' values'' steps'' order'' : List ℕ} → k < 65535 → i < late
      → Begun n k i tail values steps order later tail' values' steps' order' → Put (get_or later i 0) k 0 tail' values' steps' order' values'' steps'' order'' next
      → n ≤ length values' → n ≤ length steps' → n ≤ length order' → Begun n k (i + 1) tail values steps order later next values'' steps'' order''
  begun-turn {i} {tail'} {next} {values'} {steps'} {order'} {values''} {steps''} {order''} small l so_far put long longer longest = record {
    grown =
        grown-then (λ v. among later (i + 1) v ≡ true) small (λ v m e. among-earlier later i v e) (λ v m e. e) so_far.grown
        (grown-put (λ v. among later (i + 1) v ≡ true) inside long longer (λ e. let r = listed-room so_far.placed inside (ap not e) in omega arith) (λ e. among-last later i) put);
    placed = listed-put so_far.placed inside small long longest put;
    all = λ j m. go j m (ℕ_discrete j i);
  }
    where
      inside : get_or later i 0 < n
      inside = gathered.inside i l

      go : (j : ℕ) → j < i + 1 → Dec (j ≡ i) → free values'' (get_or later j 0) ≡ false
      go j m (yes z) = rw z (put-places put small (let h = inside in omega arith))
      go j m (no z) = put_keeps put (get_or later j 0) (so_far.all j (omega arith))

-- the rows that it leaves are as long, beside those that it does not touch
pub begun-long : {k tail late tail' : ℕ} {values steps order later values' steps' order' : List ℕ} → ValueBegun k tail late values steps order later tail' values' steps' order'
    → (needs due : List ℕ) → AsLong needs values steps order due later needs values' steps' order' due later
begun-long begun needs due = record { needs-row = refl; values-row = begun.values-row; steps-row = begun.steps-row; order_row = begun.order_row; due-row = refl; later-row = refl }

-- The next value

module _ {n : ℕ} {starts entries : List ℕ} (g : Setting n starts entries) {last : ℕ} {lists : Lists} {needs values steps order due later : List ℕ} (ready : Ready g last lists.tail lists needs values steps order due later) where
  -- the list is that of those who are due
  pub due-gathered : Gathered n lists.tail lists.late values steps order later
  due-gathered = record {
    few = g.few-positions;
    placed = ready.standing.placed;
    inside = ready.standing.waiting.inside;
    short = listed-most ready.standing.waiting;
    values-row = ready.wide.values-row;
    steps-row = ready.wide.steps-row;
    order_row = ready.wide.order_row;
    later-row = ready.wide.later-row;
  }

  -- nobody is due after the next value
  due-most : (v : ℕ) → v < n → free due v ≡ false → get_or due v 0 ≤ last + 1
  due-most v l f = let w = ready.standing.caused v l f in let h = ready.standing.low (get_or g.tos w.line 0) (g.to_inside w.line w.inside) w.reached in omega (arith, w.sum)

  -- who is due at the next value has a disturbance into this one, and whoever has, and is not placed, is due
  abbrev pub disturbed : ℕ → Bool
  disturbed v = found (number_at g.froms) (disturbs g.costs g.tos values last) g.m v

  due-is-disturbed : (v : ℕ) → v < n → get_or due v 0 ≡ last + 1 → disturbed v ≡ true
  unfolding found disturbs
  due-is-disturbed v l e =
      let f : free due v ≡ false = ne_eqb (get_or due v 0) 65535 (λ z. omega (arith, ready.small)) in
      let w = ready.standing.caused v l f in
      let c = g.code w.line w.inside in
      let k = g.kind w.line w.inside in
      let from : get_or g.froms w.line 0 ≡ v = omega (arith, w.leaves) in
      let cost : get_or g.costs w.line 0 ≡ 0 → ⊥ = λ z. omega (arith, w.leaves) in
      let at : get_or values (get_or g.tos w.line 0) 0 ≡ last = omega (arith, w.sum) in
      some-hit (λ j. eqb (get_or g.froms j 0) v && (not (eqb (get_or g.costs j 0) 0) && eqb (get_or values (get_or g.tos j 0) 0) last)) g.m w.line w.inside
      (rw (eq-eqb _ _ from, ne_eqb _ _ cost, eq-eqb _ _ at))

  disturbed-is-due : (v : ℕ) → v < n → free values v ≡ true → disturbed v ≡ true → get_or due v 0 ≡ last + 1
  unfolding found disturbs
  disturbed-is-due v l f e =
      let w = some-found (λ j. eqb (get_or g.froms j 0) v && (not (eqb (get_or g.costs j 0) 0) && eqb (get_or values (get_or g.tos j 0) 0) last)) g.m e in
      let b = both_hold (eqb (get_or g.froms w.0 0) v) _ w.2 in
      let d = both_hold (not (eqb (get_or g.costs w.0 0) 0)) _ b.1 in
      let from = eqb-true (get_or g.froms w.0 0) v b.0 in
      let at = eqb-true (get_or values (get_or g.tos w.0 0) 0) last d.1 in
      let cost : get_or g.costs w.0 0 ≡ 0 → ⊥ = λ z. not-both d.0 (ap not (eq-eqb (get_or g.costs w.0 0) 0 z)) in
      let k = g.kind w.0 w.1 in
      let code : get_or g.codes w.0 0 ≡ 2 * v + 1 = omega (arith, g.code w.0 w.1) in
      let placed : free values (get_or g.tos w.0 0) ≡ false = ne_eqb (get_or values (get_or g.tos w.0 0) 0) 65535 (λ z. omega (arith, ready.small)) in
      let seen = among-all ready.standing.placed (get_or g.tos w.0 0) (g.to_inside w.0 w.1) ∙ ap not placed in
      omega (arith, ready.standing.least w.0 v w.1 l code seen, ready.standing.soon v l f)

  abbrev pub value_flags : List ℕ
  value_flags = row_from (λ v. bit (disturbed v)) 0 n

  pub value-noted : Noted n (number_at g.froms) (disturbs g.costs g.tos values last) (λ v. bit) g.m value_flags
  value-noted = record { notes = λ v l. row-at (λ v. bit (disturbed v)) n v l }

  module _ {tail' : ℕ} {values' steps' order' : List ℕ} (begun : Begun n (last + 1) lists.late lists.tail values steps order later tail' values' steps' order') where
    flagged : (v : ℕ) → v < n → eqb (get_or value_flags v 0) 1 ≡ disturbed v
    flagged v l = rw (row-at (λ v. bit (disturbed v)) n v l) (bit-one (disturbed v))

    taken-is-flagged : (v : ℕ) → v < n → among later lists.late v ≡ true → eqb (get_or value_flags v 0) 1 ≡ true
    taken-is-flagged v l e =
        flagged v l ∙ due-is-disturbed v l (eqb-true (get_or due v 0) (last + 1) (sym (among-all ready.standing.waiting v l) ∙ e))

    -- whoever is due is placed now
    due-is-placed : (v : ℕ) → v < n → get_or due v 0 ≡ last + 1 → free values' v ≡ false
    due-is-placed v l e = let w = ready.standing.waiting.found v l (eq-eqb _ _ e) in ap (λ (x : ℕ). free values' x) (sym w.2) ∙ begun.all w.0 w.1

    flagged-is-placed : (v : ℕ) → v < n → free values v ≡ true → eqb (get_or value_flags v 0) 1 ≡ true → free values' v ≡ false
    flagged-is-placed v l f e = due-is-placed v l (disturbed-is-due v l f (sym (flagged v l) ∙ e))

    pub value-placing : length values' ≡ length values → length steps' ≡ length steps → Placing n value_flags (last + 1) 0 values steps values' steps' (count_below (taken value_flags values) n)
    value-placing e f = round-placing begun.grown value_flags taken-is-flagged flagged-is-placed e f

    pub value-empty : tail' ≡ lists.tail → count_below (taken value_flags values) n ≡ 0
    value-empty e = round-empty begun.grown value_flags taken-is-flagged flagged-is-placed e ready.standing.placed begun.placed

    -- who was placed keeps its value; who is not placed was not
    kept : (u : ℕ) → u < n → free values u ≡ false → get_or values' u 0 ≡ get_or values u 0
    kept u l f = go (begun.grown.at u l)
      where
        go : ((get_or values' u 0 ≡ get_or values u 0) × (get_or steps' u 0 ≡ get_or steps u 0)) ⊎ Newly (last + 1) 0 (λ v. among later lists.late v ≡ true) values values' steps' u → get_or values' u 0 ≡ get_or values u 0
        go (inl h) = h.0
        go (inr h) = absurd (not-both h.was f)

    still : (u : ℕ) → u < n → free values u ≡ false → free values' u ≡ false
    still u l f = ap (λ (x : ℕ). eqb x 65535) (kept u l f) ∙ f

    was_free : (u : ℕ) → u < n → free values' u ≡ true → free values u ≡ true
    was_free u l f = go (free values u) refl
      where
        go : (b : Bool) → free values u ≡ b → b ≡ true
        go true e = refl
        go false e = absurd (not-both f (still u l e))

    lower : (u : ℕ) → u < n → free values' u ≡ false → get_or values' u 0 ≤ last + 1
    lower u l f = go (begun.grown.at u l)
      where
        go : ((get_or values' u 0 ≡ get_or values u 0) × (get_or steps' u 0 ≡ get_or steps u 0)) ⊎ Newly (last + 1) 0 (λ v. among later lists.late v ≡ true) values values' steps' u → get_or values' u 0 ≤ last + 1
        go (inl h) = let k = ready.standing.low u l (ap (λ (x : ℕ). eqb x 65535) (sym h.0) ∙ f) in omega (arith, h.0)
        go (inr h) = omega (arith, h.value)

    soon-after : (u : ℕ) → u < n → free values' u ≡ true → last + 1 < get_or due u 0
    soon-after u l f = go (ℕ_discrete (get_or due u 0) (last + 1))
      where
        go : Dec (get_or due u 0 ≡ last + 1) → last + 1 < get_or due u 0
        go (yes z) = absurd (not-both f (due-is-placed u l z))
        go (no z) = let h = ready.standing.soon u l (was_free u l f) in omega arith

    same_seen : (i : ℕ) → among order lists.tail (get_or g.tos i 0) ≡ among order' lists.tail (get_or g.tos i 0)
    same_seen i = among_same order order' lists.tail (get_or g.tos i 0) (λ u m. begun.grown.order-kept u m)

    abbrev pub begun_lists : Lists
    begun_lists = record { tail = tail'; late = 0 }

    pub value-ready : last < 512 → Wide n needs values' steps' order' due later → Ready g (last + 1) lists.tail begun_lists needs values' steps' order' due later
    value-ready few wide = record {
      standing = record {
        counted = λ e l. ap (λ (x : ℕ). get_or needs e 0 + x) (count_same (λ i. eqb (get_or g.codes i 0) e && among order' lists.tail (get_or g.tos i 0)) (λ i. eqb (get_or g.codes i 0) e && among order lists.tail (get_or g.tos i 0)) g.m (λ i h. rw (same_seen i))) ∙ ready.standing.counted e l;
        placed = begun.placed;
        waiting = listed-none later (λ v l. nobody v l (free due v) refl);
        needing = λ u l f. ready.standing.needing u l (was_free u l f);
        low = lower;
        soon = soon-after;
        reached = λ i l e. still _ (g.to_inside i l) (ready.standing.reached i l (same_seen i ∙ e));
        least = λ i v l m c e. let s = same_seen i ∙ e in rw (kept _ (g.to_inside i l) (ready.standing.reached i l s)) (ready.standing.least i v l m c s);
        caused = λ v l f. let w = ready.standing.caused v l f in record { line = w.line; inside = w.inside; leaves = w.leaves; reached = still _ (g.to_inside w.line w.inside) w.reached; sum = ap (λ (x : ℕ). x + 1) (kept _ (g.to_inside w.line w.inside) w.reached) ∙ w.sum };
      };
      segment = λ i l m. (begun.grown.fresh i l m).1;
      started = begun.grown.longer;
      small = omega arith;
      wide = wide;
    }
      where
        nobody : (v : ℕ) → v < n → (b : Bool) → free due v ≡ b → eqb (get_or due v 0) (last + 1 + 1) ≡ false
        nobody v l true f = let z = eqb-true (get_or due v 0) 65535 f in ne_eqb (get_or due v 0) (last + 1 + 1) (λ q. omega arith)
        nobody v l false f = let h = due-most v l f in ne_eqb (get_or due v 0) (last + 1 + 1) (λ q. omega arith)
