-- A round that looks only at the moves into the positions of the round before places whom a walk over all moves flags: where all moves into
-- placed positions were looked at, a position has no need left exactly if it is ready.
use Rattle.std.specs.Prelude.{ℕ, zero, suc, ◌+◌, ◌*◌, ◌≤◌, ◌<◌, ◌≡◌, ◌⊎◌, Bool, ◌&&◌, List, [], ◌∷◌, length, leb, ltb}
use Rattle.std.proofs.Common.{arith, le_of_suc-le-suc, ap, ◌∙◌, inl, inr}
use Rattle.std.proofs.Math.Decide.{ℕ_discrete, dec_le}
use Rattle.std.proofs.Math.Path.{refl, sym}
use Rattle.std.proofs.Math.Bool.{true, false, cond, not}
use Rattle.std.proofs.Math.ListN.{get_or}
use Rattle.std.proofs.Math.Dec.{eqb}
use borrow.Author.Tests.{eq-eqb, ne_eqb, le-leb, lt-leb, lt-ltb, le-ltb}
use Rattle.search.specs.Below.{bit, bit-one, count_below, count_same, some_below, some-found, some-hit}
use Rattle.search.specs.Counting.{count_none, count_past, count-sum}
use Rattle.rows.specs.Numbers.{number_at, free}
use Rattle.rows.specs.Notes.{Noted, found}
use Rattle.round.specs.Round.{taken, Placing, decides, ready_flag}
use Rattle.needs.specs.Needs.{need_of}
use Rattle.visits.specs.Lists.{Listed, among, among-all}
use Rattle.visits.specs.Standing.{Setting, State, Newly, Grown, AsLong, Ready, Progress}
use Rattle.visits.specs.GrownLaws.{not-both}
use Rattle.visits.specs.VisitLaws.{among_same}
use Rattle.visits.specs.declared.Lists.{Lists}

-- a row of the first n numbers of f
unfoldable pub row_from : (ℕ → ℕ) → ℕ → ℕ → List ℕ
row_from f i zero = []
row_from f i (suc n) = f i ∷ row_from f (i + 1) n

row-from-at : (f : ℕ → ℕ) (i n v : ℕ) → v < n → get_or (row_from f i n) v 0 ≡ f (i + v)
unfolding row_from
row-from-at f i zero v l = absurd (omega arith)
row-from-at f i (suc n) zero l = ap f (omega arith)
row-from-at f i (suc n) (suc v) l = row-from-at f (i + 1) n v (le_of_suc-le-suc l) ∙ ap f (omega arith)

pub row-at : (f : ℕ → ℕ) (n v : ℕ) → v < n → get_or (row_from f 0 n) v 0 ≡ f v
row-at f n v l = row-from-at f 0 n v l ∙ ap f (omega arith)

-- some passes if any is counted
some-counted : (p : ℕ → Bool) (n : ℕ) → some_below p n ≡ ltb 0 (count_below p n)
some-counted p n = go (some_below p n) refl
  where
    fails : some_below p n ≡ false → (j : ℕ) → j < n → p j ≡ false
    fails e j l = look (p j) refl
      where
        look : (b : Bool) → p j ≡ b → b ≡ false
        look true f = absurd (not-both (some-hit p n j l f) e)
        look false f = refl

    go : (b : Bool) → some_below p n ≡ b → b ≡ ltb 0 (count_below p n)
    go true e = let w = some-found p n e in sym (lt-ltb 0 (count_below p n) (let h = count_past p w.0 n w.1 w.2 in omega arith))
    go false e = rw (count_none p n (fails e))

-- the flags of a round: whoever was placed is flagged, and whoever is flagged and was not placed is now
module _ {n k s : ℕ} {because : ℕ → Type 0} {tail tail' : ℕ} {values steps order values' steps' order' : List ℕ} (grown : Grown n k s because tail values steps order tail' values' steps' order') (flags : List ℕ)
    (now : (v : ℕ) → v < n → because v → eqb (get_or flags v 0) 1 ≡ true) (none : (v : ℕ) → v < n → free values v ≡ true → eqb (get_or flags v 0) 1 ≡ true → free values' v ≡ false) where
  placed-as : (v : ℕ) → v < n → (get_or values' v 0 ≡ cond (taken flags values v) k (get_or values v 0)) × (get_or steps' v 0 ≡ cond (taken flags values v) s (get_or steps v 0))
  unfolding taken
  placed-as v l = go (grown.at v l) (eqb (get_or flags v 0) 1) refl (free values v) refl
    where
      go : ((get_or values' v 0 ≡ get_or values v 0) × (get_or steps' v 0 ≡ get_or steps v 0)) ⊎ Newly k s because values values' steps' v → (a : Bool) → eqb (get_or flags v 0) 1 ≡ a → (b : Bool) → free values v ≡ b
          → (get_or values' v 0 ≡ cond (a && b) k (get_or values v 0)) × (get_or steps' v 0 ≡ cond (a && b) s (get_or steps v 0))
      go (inl h) true e true f = absurd (not-both (ap (λ (x : ℕ). eqb x 65535) h.0 ∙ f) (none v l f e))
      go (inl h) true e false f = h
      go (inl h) false e b f = h
      go (inr h) true e true f = (h.value, h.step)
      go (inr h) false e b f = absurd (not-both (now v l h.why) e)
      go (inr h) true e false f = absurd (not-both h.was f)

  pub round-placing : length values' ≡ length values → length steps' ≡ length steps → Placing n flags k s values steps values' steps' (count_below (taken flags values) n)
  round-placing e f = record {
    value = record { row = λ v l. (placed-as v l).0; rest = grown.values-stay; same_length = e };
    step = record { row = λ v l. (placed-as v l).1; rest = grown.steps-stay; same_length = f };
    counted = refl;
  }

  -- where the order has not grown, nobody was taken
  pub round-empty : tail' ≡ tail → Listed n tail order (λ v. not (free values v)) → Listed n tail' order' (λ v. not (free values' v)) → count_below (taken flags values) n ≡ 0
  unfolding taken
  round-empty same before after = count_none (taken flags values) n (λ v l. go v l (eqb (get_or flags v 0) 1) refl (free values v) refl)
    where
      go : (v : ℕ) → v < n → (a : Bool) → eqb (get_or flags v 0) 1 ≡ a → (b : Bool) → free values v ≡ b → (a && b) ≡ false
      go v l true e true f =
          let w = after.found v l (ap not (none v l f e)) in
          let i : w.0 < tail = omega (arith, w.1) in
          let p = before.passes w.0 i in
          let at : get_or order w.0 0 ≡ v = sym (grown.order-kept w.0 i) ∙ w.2 in
          absurd (not-both (sym (ap (λ (x : ℕ). not (free values x)) at) ∙ p) (ap not f))
      go v l true e false f = refl
      go v l false e b f = refl

-- A round after the first of a value

module _ {n : ℕ} {starts entries : List ℕ} (g : Setting n starts entries) where
  abbrev pub decided : List ℕ → ℕ → Bool
  decided values v = found (number_at g.froms) (decides g.owners g.costs g.froms g.tos values) g.m v

  abbrev deciding : List ℕ → ℕ → ℕ → Bool
  deciding values v j = eqb (get_or g.froms j 0) v && decides g.owners g.costs g.froms g.tos values j

  -- a move's code says whether it is a meant move of v
  code-meant : (v i : ℕ) → i < g.m → eqb (get_or g.codes i 0) (2 * v) ≡ (eqb (get_or g.froms i 0) v && eqb (get_or g.costs i 0) 0)
  code-meant v i l = go (ℕ_discrete (get_or g.froms i 0) v) (ℕ_discrete (get_or g.costs i 0) 0)
    where
      go : Dec (get_or g.froms i 0 ≡ v) → Dec (get_or g.costs i 0 ≡ 0) → eqb (get_or g.codes i 0) (2 * v) ≡ (eqb (get_or g.froms i 0) v && eqb (get_or g.costs i 0) 0)
      go (yes e) (yes f) = rw (eq-eqb _ _ e, eq-eqb _ _ f) (eq-eqb (get_or g.codes i 0) (2 * v) (omega (arith, g.code i l)))
      go (yes e) (no f) = rw (eq-eqb _ _ e, ne_eqb _ _ f) (ne_eqb (get_or g.codes i 0) (2 * v) (λ z. omega (arith, g.code i l, g.kind i l)))
      go (no e) d = rw (ne_eqb _ _ e) (ne_eqb (get_or g.codes i 0) (2 * v) (λ z. e (omega (arith, g.code i l, g.kind i l))))

  module _ (values : List ℕ) {k : ℕ} {seen : ℕ → Bool} {tail late : ℕ} {needs values' order due later : List ℕ} (st : State g k seen tail late needs values' order due later)
      (all : (i : ℕ) → i < g.m → seen i ≡ not (free values (get_or g.tos i 0))) where
    -- at O the meant moves are those that were looked at, and those that still decide: into positions that are not placed
    open-count : (v : ℕ) → eqb (get_or g.owners v 0) 0 ≡ true
        → count_below (λ i. eqb (get_or g.codes i 0) (2 * v)) g.m ≡ count_below (λ i. eqb (get_or g.codes i 0) (2 * v) && seen i) g.m + count_below (deciding values v) g.m
    unfolding decides
    open-count v o =
        count-sum (λ i. eqb (get_or g.codes i 0) (2 * v) && seen i) (deciding values v) (λ i. eqb (get_or g.codes i 0) (2 * v)) g.m
        (λ i h. rw (code-meant v i h, all i h) (one i (ℕ_discrete (get_or g.froms i 0) v)))
      where
        cases : (c f : Bool) → bit c ≡ bit (c && not f) + bit (c && f)
        cases true true = refl
        cases true false = refl
        cases false f = refl

        one : (i : ℕ) → Dec (get_or g.froms i 0 ≡ v)
            → bit (eqb (get_or g.froms i 0) v && eqb (get_or g.costs i 0) 0)
            ≡ bit ((eqb (get_or g.froms i 0) v && eqb (get_or g.costs i 0) 0) && not (free values (get_or g.tos i 0))) + bit (deciding values v i)
        one i (yes z) = rw (z, eq-eqb v v refl, o) (cases (eqb (get_or g.costs i 0) 0) (free values (get_or g.tos i 0)))
        one i (no z) = rw (ne_eqb _ _ z)

    -- elsewhere those that were looked at decide: into placed positions
    met-count : (v : ℕ) → eqb (get_or g.owners v 0) 0 ≡ false
        → count_below (λ i. eqb (get_or g.codes i 0) (2 * v) && seen i) g.m ≡ count_below (deciding values v) g.m
    unfolding decides
    met-count v o =
        count_same (λ i. eqb (get_or g.codes i 0) (2 * v) && seen i) (deciding values v) g.m (λ i h. rw (code-meant v i h, all i h) (one i (ℕ_discrete (get_or g.froms i 0) v)))
      where
        one : (i : ℕ) → Dec (get_or g.froms i 0 ≡ v) → ((eqb (get_or g.froms i 0) v && eqb (get_or g.costs i 0) 0) && not (free values (get_or g.tos i 0))) ≡ deciding values v i
        one i (yes z) = rw (z, eq-eqb v v refl, o)
        one i (no z) = rw (ne_eqb _ _ z)

    -- no need is left exactly at those that are ready
    pub ready-need : (v : ℕ) → v < n → leb (get_or needs (2 * v) 0) 4096 ≡ eqb (ready_flag g.owners v (decided values v)) 1
    unfolding ready_flag found need_of
    ready-need v l = rw (some-counted (deciding values v) g.m) (go (eqb (get_or g.owners v 0) 0) refl (dec_le 1 (count_below (deciding values v) g.m)))
      where
        total : get_or needs (2 * v) 0 + count_below (λ i. eqb (get_or g.codes i 0) (2 * v) && seen i) g.m ≡ get_or g.first (2 * v) 0
        total = st.counted (2 * v) (omega arith)

        open-first : eqb (get_or g.owners v 0) 0 ≡ true → get_or g.first (2 * v) 0 ≡ 4096 + count_below (λ i. eqb (get_or g.codes i 0) (2 * v)) g.m
        open-first o = g.needed.meant v l ∙ rw o

        met-first : eqb (get_or g.owners v 0) 0 ≡ false → get_or g.first (2 * v) 0 ≡ 4097
        met-first o = g.needed.meant v l ∙ rw o

        go : (o : Bool) → eqb (get_or g.owners v 0) 0 ≡ o → Dec (1 ≤ count_below (deciding values v) g.m)
            → leb (get_or needs (2 * v) 0) 4096 ≡ eqb (cond o (bit (not (ltb 0 (count_below (deciding values v) g.m)))) (bit (ltb 0 (count_below (deciding values v) g.m)))) 1
        go true o (yes h) = rw (bit-one, lt-ltb 0 (count_below (deciding values v) g.m) h) (lt-leb (get_or needs (2 * v) 0) 4096 (omega (arith, total, open-first o, open-count v o)))
        go true o (no h) = rw (bit-one, le-ltb 0 (count_below (deciding values v) g.m) (omega arith)) (le-leb (get_or needs (2 * v) 0) 4096 (omega (arith, total, open-first o, open-count v o)))
        go false o (yes h) = rw (bit-one, lt-ltb 0 (count_below (deciding values v) g.m) h) (le-leb (get_or needs (2 * v) 0) 4096 (omega (arith, total, met-first o, met-count v o)))
        go false o (no h) = rw (bit-one, le-ltb 0 (count_below (deciding values v) g.m) (omega arith)) (lt-leb (get_or needs (2 * v) 0) 4096 (omega (arith, total, met-first o, met-count v o)))

  -- The round: from the rows before it, in which the order's last part are the positions of the round before, to those after
  module _ {k head s : ℕ} {lists lists' : Lists} {needs values steps order due later needs' values' steps' order' due' later' : List ℕ} (ready : Ready g k head lists needs values steps order due later)
      (done : Progress g k s (λ i. among order' lists.tail (get_or g.tos i 0)) lists needs values steps order lists' needs' values' steps' order' due' later')
      (long : AsLong needs values steps order due later needs' values' steps' order' due' later') where
    all_seen : (i : ℕ) → i < g.m → among order' lists.tail (get_or g.tos i 0) ≡ not (free values (get_or g.tos i 0))
    all_seen i l =
        sym (among_same order order' lists.tail (get_or g.tos i 0) (λ u m. done.grown.order-kept u m))
        ∙ among-all ready.standing.placed (get_or g.tos i 0) (g.to_inside i l)

    abbrev flag : ℕ → ℕ
    flag v = ready_flag g.owners v (decided values v)

    -- the flags of a walk over all moves
    abbrev pub round_flags : List ℕ
    round_flags = row_from flag 0 n

    met-is-flagged : (v : ℕ) → v < n → get_or needs' (2 * v) 0 ≤ 4096 → eqb (get_or round_flags v 0) 1 ≡ true
    met-is-flagged v l h = rw (row-at flag n v l) (sym (ready-need values done.state all_seen v l) ∙ le-leb (get_or needs' (2 * v) 0) 4096 h)

    flagged-is-placed : (v : ℕ) → v < n → free values v ≡ true → eqb (get_or round_flags v 0) 1 ≡ true → free values' v ≡ false
    flagged-is-placed v l f e = go (free values' v) refl
      where
        go : (b : Bool) → free values' v ≡ b → b ≡ false
        go true z = absurd (not-both (ready-need values done.state all_seen v l ∙ (rw (row-at flag n v l) at e)) (lt-leb (get_or needs' (2 * v) 0) 4096 (done.state.needing v l z)))
        go false z = refl

    pub flags-noted : Noted n (number_at g.froms) (decides g.owners g.costs g.froms g.tos values) (ready_flag g.owners) g.m round_flags
    flags-noted = record { notes = λ v l. row-at flag n v l }

    pub flags-placing : Placing n round_flags k s values steps values' steps' (count_below (taken round_flags values) n)
    flags-placing = round-placing done.grown round_flags met-is-flagged flagged-is-placed long.values-row long.steps-row

    pub flags-empty : lists'.tail ≡ lists.tail → count_below (taken round_flags values) n ≡ 0
    flags-empty e = round-empty done.grown round_flags met-is-flagged flagged-is-placed e ready.standing.placed done.state.placed
