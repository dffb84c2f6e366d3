-- One entry more is looked at, that of a move into a position of value k. Where a need of its code is left, or there was none left before, only
-- the needs change. The last need of a meant code places its position; that of a disturbance makes its position due.
use Rattle.std.specs.Prelude.{ℕ, ◌+◌, ◌-◌, ◌*◌, ◌/◌, ◌%◌, ◌≤◌, ◌<◌, ◌≡◌, refl, Bool, true, false, not, ◌&&◌, List, length, get_or, set, eqb, ltb}
use Rattle.std.proofs.Common.{arith, sym, ap, ◌∙◌, get_or-set_same, get_or-set_other, eq-eqb, ne_eqb, eqb-true, ltb-true, ltb-false}
use Rattle.std.proofs.Math.Decide.{ℕ_discrete}
use Rattle.std.proofs.Math.Bool.{and-false}
use Rattle.search.specs.Below.{bit, count_below, count_same}
use Rattle.search.specs.Counting.{count_less, count-one-more, count-find}
use Rattle.rows.specs.Numbers.{free}
use Rattle.rows.specs.Filling.{set_if}
use Rattle.visits.specs.Lists.{listed-push, listed-room}
use Rattle.visits.specs.Steps.{Put, Delayed, Fired, Looked}
use Rattle.visits.specs.Standing.{Setting, State, Caused, Grown}
use Rattle.visits.specs.GrownLaws.{grown-none, grown-put, listed-placed, not-both}
use Rattle.visits.specs.declared.Lists.{Lists}

pub both_hold : (a b : Bool) → (a && b) ≡ true → (a ≡ true) × (b ≡ true)
both_hold true true e = (refl, refl)
both_hold true false e = let z : ◌≡◌ {A = ℕ} 0 1 = cc in absurd (omega arith)
both_hold false b e = let z : ◌≡◌ {A = ℕ} 0 1 = cc in absurd (omega arith)

-- a row with x at v, where it was free
pub value-then : (values : List ℕ) (v u k : ℕ) → free values v ≡ true → free values u ≡ false → get_or (set values v k) u 0 ≡ get_or values u 0
value-then values v u k e f = get_or-set_other values v u k 0 (λ z. not-both (ap (λ (x : ℕ). eqb (get_or values x 0) 65535) z ∙ e) f)

module _ {n : ℕ} {starts entries : List ℕ} (g : Setting n starts entries) where
  pub code_inside : (i : ℕ) → i < g.m → get_or g.codes i 0 < 2 * n
  code_inside i l = rw (g.code i l) (omega (arith, g.from-inside i l, g.kind i l))

  -- a code has a need at first
  first-least : (e : ℕ) → e < 2 * n → 4096 < get_or g.first e 0
  first-least e l = go (ℕ_discrete (e % 2) 0)
    where
      go : Dec (e % 2 ≡ 0) → 4096 < get_or g.first e 0
      go (yes z) = let h = g.some (e / 2) (omega arith) in let same : 2 * (e / 2) ≡ e = omega arith in rw same at h
      go (no z) = let h = g.needed.disturbed (e / 2) (omega arith) in let same : 2 * (e / 2) + 1 ≡ e = omega arith in let f = rw same at h in omega arith

  module _ {k : ℕ} {seen : ℕ → Bool} {tail late : ℕ} {needs values order due later : List ℕ} (st : State g k seen tail late needs values order due later) where
    -- moves that pass another test alike
    pub state-same : {seen' : ℕ → Bool} → ((i : ℕ) → i < g.m → seen i ≡ seen' i) → State g k seen' tail late needs values order due later
    state-same {seen'} same = record {
      counted = λ e l. ap (λ (x : ℕ). get_or needs e 0 + x) (sym (count_same (λ i. eqb (get_or g.codes i 0) e && seen i) (λ i. eqb (get_or g.codes i 0) e && seen' i) g.m (λ i h. rw (same i h)))) ∙ st.counted e l;
      placed = st.placed;
      waiting = st.waiting;
      needing = st.needing;
      low = st.low;
      soon = st.soon;
      reached = λ i l e. st.reached i l (same i l ∙ e);
      least = λ i v l m c e. st.least i v l m c (same i l ∙ e);
      caused = st.caused;
    }

    -- the move that is looked at, and its code
    module _ {i e : ℕ} (l : i < g.m) (is : get_or g.codes i 0 ≡ e) (out : seen i ≡ false) where
      inside : e < 2 * n
      inside = rw (← is) (code_inside i l)

      pub need-left : 0 < get_or needs e 0
      need-left =
          let c = st.counted e inside in
          let f = first-least e inside in
          let b = count_less (λ j. eqb (get_or g.codes j 0) e && seen j) g.m i l (rw (out, and-false)) in
          omega (arith, g.few-moves)

      module _ {seen' : ℕ → Bool} (now : seen' i ≡ true) (same : (j : ℕ) → j < g.m → (j ≡ i → ⊥) → seen j ≡ seen' j) (long : 2 * n ≤ length needs) (value : get_or values (get_or g.tos i 0) 0 ≡ k) (small : k < 65534) where
        abbrev needs' : List ℕ
        needs' = set needs e (get_or needs e 0 - 1)

        need-here : get_or needs' e 0 ≡ get_or needs e 0 - 1
        need-here = get_or-set_same needs e (get_or needs e 0 - 1) 0 (let h = inside in omega arith)

        need-other : (x : ℕ) → (x ≡ e → ⊥) → get_or needs' x 0 ≡ get_or needs x 0
        need-other x z = get_or-set_other needs e x (get_or needs e 0 - 1) 0 z

        pub needs-fall : (x : ℕ) → get_or needs' x 0 ≤ get_or needs x 0
        needs-fall x = go (ℕ_discrete x e)
          where
            go : Dec (x ≡ e) → get_or needs' x 0 ≤ get_or needs x 0
            go (yes z) = rw (z, need-here) (omega arith)
            go (no z) = rw (need-other x z) (omega arith)

        counted' : (x : ℕ) → x < 2 * n → get_or needs' x 0 + count_below (λ j. eqb (get_or g.codes j 0) x && seen' j) g.m ≡ get_or g.first x 0
        counted' x m = go (ℕ_discrete x e)
          where
            go : Dec (x ≡ e) → get_or needs' x 0 + count_below (λ j. eqb (get_or g.codes j 0) x && seen' j) g.m ≡ get_or g.first x 0
            go (yes z) =
                rw (z, need-here)
                (let c = st.counted e inside in
                let left = need-left in
                let more = count-one-more (λ j. eqb (get_or g.codes j 0) e && seen j) (λ j. eqb (get_or g.codes j 0) e && seen' j) g.m i l (rw (out, and-false)) (rw (now, eq-eqb _ _ is)) (λ j h w. rw (same j h w)) in
                omega arith)
            go (no z) = rw (need-other x z) (ap (λ (y : ℕ). get_or needs x 0 + y) (sym (count_same (λ j. eqb (get_or g.codes j 0) x && seen j) (λ j. eqb (get_or g.codes j 0) x && seen' j) g.m (λ j h. alike j h (ℕ_discrete j i)))) ∙ st.counted x m)
              where
                alike : (j : ℕ) → j < g.m → Dec (j ≡ i) → (eqb (get_or g.codes j 0) x && seen j) ≡ (eqb (get_or g.codes j 0) x && seen' j)
                alike j h (yes w) = rw (w, ne_eqb (get_or g.codes i 0) x (λ q. z (sym q ∙ is)))
                alike j h (no w) = rw (same j h w)

        -- the move's target is placed
        target : free values (get_or g.tos i 0) ≡ false
        target = ne_eqb (get_or values (get_or g.tos i 0) 0) 65535 (λ z. omega arith)

        reached' : (j : ℕ) → j < g.m → seen' j ≡ true → free values (get_or g.tos j 0) ≡ false
        reached' j h s = go (ℕ_discrete j i)
          where
            go : Dec (j ≡ i) → free values (get_or g.tos j 0) ≡ false
            go (yes z) = rw z target
            go (no z) = st.reached j h (same j h z ∙ s)

        -- where only the needs change
        quiet : ((u : ℕ) → u < n → free values u ≡ true → 2 * u ≡ e → 4096 < get_or needs e 0 - 1) → ((u : ℕ) → u < n → e ≡ 2 * u + 1 → get_or due u 0 ≤ k + 1)
            → State g k seen' tail late needs' values order due later
        quiet left soon-enough = record {
          counted = counted';
          placed = st.placed;
          waiting = st.waiting;
          needing = λ u m f. needs-left u m f (ℕ_discrete (2 * u) e);
          low = st.low;
          soon = st.soon;
          reached = reached';
          least = λ j u h m c s. at_least j u h m c s (ℕ_discrete j i);
          caused = st.caused;
        }
          where
            needs-left : (u : ℕ) → u < n → free values u ≡ true → Dec (2 * u ≡ e) → 4096 < get_or needs' (2 * u) 0
            needs-left u m f (yes z) = rw (z, need-here) (left u m f z)
            needs-left u m f (no z) = rw (need-other (2 * u) z) (st.needing u m f)

            at_least : (j u : ℕ) → j < g.m → u < n → get_or g.codes j 0 ≡ 2 * u + 1 → seen' j ≡ true → Dec (j ≡ i) → get_or due u 0 ≤ get_or values (get_or g.tos j 0) 0 + 1
            at_least j u h m c s (yes z) = rw (z, value) (soon-enough u m (sym is ∙ ap (λ (x : ℕ). get_or g.codes x 0) (sym z) ∙ c))
            at_least j u h m c s (no z) = st.least j u h m c (same j h z ∙ s)

        -- a need is left, or none was before
        waits-on : (get_or needs e 0 - 1 ≡ 4096 → ⊥) → State g k seen' tail late needs' values order due later
        waits-on not_yet = quiet (λ u m f z. let o : 4096 < get_or needs e 0 = rw z at (st.needing u m f) in omega arith) before
          where
            before : (u : ℕ) → u < n → e ≡ 2 * u + 1 → get_or due u 0 ≤ k + 1
            before u m z =
                let c = st.counted e inside in
                let d : get_or g.first e 0 ≡ 4097 = rw z (g.needed.disturbed u m) in
                let left = need-left in
                let more : 0 < count_below (λ j. eqb (get_or g.codes j 0) e && seen j) g.m = omega arith in
                let w = count-find (λ j. eqb (get_or g.codes j 0) e && seen j) g.m 0 more in
                let b = both_hold (eqb (get_or g.codes w.0 0) e) (seen w.0) w.2 in
                let t = st.least w.0 u w.1 m (eqb-true _ _ b.0 ∙ z) b.1 in
                let low = st.low (get_or g.tos w.0 0) (g.to_inside w.0 w.1) (st.reached w.0 w.1 b.1) in
                omega arith

        -- its position is placed, and joins the order
        module _ {v s next : ℕ} {steps values'' steps'' order'' : List ℕ} (even : e ≡ 2 * v) (wide : n ≤ length values) (wide-order : n ≤ length order) (put : Put v k s tail values steps order values'' steps'' order'' next) where
          v-inside : v < n
          v-inside = let h = inside in omega arith

          placing : State g k seen' next late needs' values'' order'' due later
          placing = rw (put.value, put.place, put.count) (go (free values v) refl)
            where
              go : (b : Bool) → free values v ≡ b → State g k seen' (tail + bit b) late needs' (set_if b v k values) (set_if b tail v order) due later
              go false f =
                  let z : tail + 0 ≡ tail = omega arith in
                  rw z (quiet (λ u m h q. absurd (let w : u ≡ v = omega arith in not-both (ap (λ (x : ℕ). free values x) (sym w) ∙ h) f)) (λ u m q. absurd (omega arith)))
              go true f = record {
                counted = counted';
                placed = listed-placed values st.placed v-inside (omega arith) wide wide-order f;
                waiting = st.waiting;
                needing = λ u m h. let z = not-it u h in rw (need-other (2 * u) (λ q. z (omega arith))) (st.needing u m (sym (others u z) ∙ h));
                low = λ u m h. lower u m h (ℕ_discrete u v);
                soon = λ u m h. st.soon u m (sym (others u (not-it u h)) ∙ h);
                reached = λ j h s. still (get_or g.tos j 0) (reached' j h s);
                least = λ j u h m c s. at_least j u h m c s (ℕ_discrete j i);
                caused = λ u m h. let w = st.caused u m h in record { line = w.line; inside = w.inside; leaves = w.leaves; reached = still _ w.reached; sum = ap (λ (x : ℕ). x + 1) (value-then values v _ k f w.reached) ∙ w.sum };
              }
                where
                  now-placed : free (set values v k) v ≡ false
                  now-placed = ne_eqb (get_or (set values v k) v 0) 65535 (λ z. omega (arith, get_or-set_same values v k 0 (let h = v-inside in omega arith)))

                  others : (u : ℕ) → (u ≡ v → ⊥) → free (set values v k) u ≡ free values u
                  others u z = ap (λ (x : ℕ). eqb x 65535) (get_or-set_other values v u k 0 z)

                  not-it : (u : ℕ) → free (set values v k) u ≡ true → u ≡ v → ⊥
                  not-it u h z = not-both (ap (λ (x : ℕ). free (set values v k) x) (sym z) ∙ h) now-placed

                  still : (u : ℕ) → free values u ≡ false → free (set values v k) u ≡ false
                  still u h = ap (λ (x : ℕ). eqb x 65535) (value-then values v u k f h) ∙ h

                  lower : (u : ℕ) → u < n → free (set values v k) u ≡ false → Dec (u ≡ v) → get_or (set values v k) u 0 ≤ k
                  lower u m h (yes z) = rw (z, get_or-set_same values v k 0 (let h = v-inside in omega arith)) (omega arith)
                  lower u m h (no z) = rw (get_or-set_other values v u k 0 z) (st.low u m (sym (others u z) ∙ h))

                  at_least : (j u : ℕ) → j < g.m → u < n → get_or g.codes j 0 ≡ 2 * u + 1 → seen' j ≡ true → Dec (j ≡ i) → get_or due u 0 ≤ get_or (set values v k) (get_or g.tos j 0) 0 + 1
                  at_least j u h m c s (yes z) = absurd (let w = ap (λ (x : ℕ). get_or g.codes x 0) (sym z) ∙ c in omega arith)
                  at_least j u h m c s (no z) = let s' = same j h z ∙ s in rw (value-then values v (get_or g.tos j 0) k f (st.reached j h s')) (st.least j u h m c s')

        -- its position is due at the next value
        module _ {v next : ℕ} {due'' later'' : List ℕ} (odd : e ≡ 2 * v + 1) (wide : n ≤ length due) (wide-later : n ≤ length later) (delayed : Delayed v (k + 1) late due later due'' later'' next) where
          delaying : State g k seen' tail next needs' values order due'' later''
          delaying = rw (delayed.value, delayed.place, delayed.count) (go (ltb (k + 1) (get_or due v 0)) refl)
            where
              go : (b : Bool) → ltb (k + 1) (get_or due v 0) ≡ b → State g k seen' tail (late + bit b) needs' values order (set_if b v (k + 1) due) (set_if b late v later)
              go false f =
                  let z : late + 0 ≡ late = omega arith in
                  rw z (quiet (λ u m h q. absurd (omega arith)) (λ u m q. let w : u ≡ v = omega arith in rw w (ltb-false _ _ f)))
              go true f = record {
                counted = counted';
                placed = st.placed;
                waiting = listed-push st.waiting v-inside (let r = listed-room st.waiting v-inside not_yet in omega arith) not_yet (eq-eqb _ _ here) (λ u m z. ap (λ (x : ℕ). eqb x (k + 1)) (sym (others u z)));
                needing = λ u m h. rw (need-other (2 * u) (λ q. omega arith)) (st.needing u m h);
                low = st.low;
                soon = λ u m h. sooner u m h (ℕ_discrete u v);
                reached = reached';
                least = λ j u h m c s. at_least j u h m c s (ℕ_discrete j i) (ℕ_discrete u v);
                caused = λ u m h. causes u m h (ℕ_discrete u v);
              }
                where
                  v-inside : v < n
                  v-inside = let h = inside in omega arith

                  before : k + 1 < get_or due v 0
                  before = ltb-true _ _ f

                  not_yet : eqb (get_or due v 0) (k + 1) ≡ false
                  not_yet = ne_eqb (get_or due v 0) (k + 1) (λ z. omega (arith, before))

                  here : get_or (set due v (k + 1)) v 0 ≡ k + 1
                  here = get_or-set_same due v (k + 1) 0 (let h = v-inside in omega arith)

                  others : (u : ℕ) → (u ≡ v → ⊥) → get_or (set due v (k + 1)) u 0 ≡ get_or due u 0
                  others u z = get_or-set_other due v u (k + 1) 0 z

                  sooner : (u : ℕ) → u < n → free values u ≡ true → Dec (u ≡ v) → k < get_or (set due v (k + 1)) u 0
                  sooner u m h (yes z) = rw (z, here) (omega arith)
                  sooner u m h (no z) = rw (others u z) (st.soon u m h)

                  at_least : (j u : ℕ) → j < g.m → u < n → get_or g.codes j 0 ≡ 2 * u + 1 → seen' j ≡ true → Dec (j ≡ i) → Dec (u ≡ v)
                      → get_or (set due v (k + 1)) u 0 ≤ get_or values (get_or g.tos j 0) 0 + 1
                  at_least j u h m c s (yes z) (yes w) = rw (w, here, z, value) (omega arith)
                  at_least j u h m c s (yes z) (no w) = absurd (w (let q = ap (λ (x : ℕ). get_or g.codes x 0) (sym z) ∙ c in omega arith))
                  at_least j u h m c s (no z) (yes w) = let o = st.least j u h m c (same j h z ∙ s) in let b : k + 1 < get_or due u 0 = rw w before in rw (w, here) (omega arith)
                  at_least j u h m c s (no z) (no w) = rw (others u w) (st.least j u h m c (same j h z ∙ s))

                  causes : (u : ℕ) → u < n → free (set due v (k + 1)) u ≡ false → Dec (u ≡ v) → Caused g.m g.tos g.codes values u (get_or (set due v (k + 1)) u 0)
                  causes u m h (yes z) = rw (z, here) (record { line = i; inside = l; leaves = is ∙ odd; reached = target; sum = ap (λ (x : ℕ). x + 1) value })
                  causes u m h (no z) = rw (others u z) (st.caused u m (ap (λ (x : ℕ). eqb x 65535) (sym (others u z)) ∙ h))

        -- the entry is looked at: the three ways come together
        module _ {s : ℕ} {lists lists'' : Lists} {steps needs'' values'' steps'' order'' due'' later'' : List ℕ} (tails : lists.tail ≡ tail) (lates : lists.late ≡ late)
            (wide : n ≤ length values) (wide-steps : n ≤ length steps) (wide-order : n ≤ length order) (wide-due : n ≤ length due) (wide-later : n ≤ length later)
            (looked : Looked e k s lists needs values steps order due later needs'' values'' steps'' order'' due'' later'' lists'') where
          meant-even : e % 2 ≡ 0 → e ≡ 2 * (e / 2)
          meant-even z = omega arith

          pub look-state : State g k seen' lists''.tail lists''.late needs'' values'' order'' due'' later''
          look-state = rw looked.need (go (ℕ_discrete (get_or needs e 0 - 1) 4096))
            where
              fired : Fired e k s lists values steps order due later values'' steps'' order'' due'' later'' lists'' → Dec (e % 2 ≡ 0) → State g k seen' lists''.tail lists''.late needs' values'' order'' due'' later''
              fired h (yes z) =
                  let f = h.meant z in
                  rw (f.1, f.2, f.3, lates) (placing {v = e / 2} {steps = steps} {steps'' = steps''} (omega arith) wide wide-order (rw tails at f.0))
              fired h (no z) =
                  let f = h.disturbed z in
                  let one : k + e % 2 ≡ k + 1 = omega arith in
                  rw (f.1, f.3, f.4, tails) (delaying {v = e / 2} (omega arith) wide-due wide-later (rw (one, lates) at f.0))

              go : Dec (get_or needs e 0 - 1 ≡ 4096) → State g k seen' lists''.tail lists''.late needs' values'' order'' due'' later''
              go (yes z) = fired (looked.fires z) (ℕ_discrete (e % 2) 0)
              go (no z) = let f = looked.waits z in rw (f.0, f.2, f.3, f.4, f.5, tails, lates) (waits-on z)

          pub look-grown : Grown n k s (λ v. get_or needs'' (2 * v) 0 ≤ 4096) tail values steps order lists''.tail values'' steps'' order''
          look-grown = rw looked.need (go (ℕ_discrete (get_or needs e 0 - 1) 4096))
            where
              fired : get_or needs e 0 - 1 ≡ 4096 → Fired e k s lists values steps order due later values'' steps'' order'' due'' later'' lists'' → Dec (e % 2 ≡ 0)
                  → Grown n k s (λ v. get_or needs' (2 * v) 0 ≤ 4096) tail values steps order lists''.tail values'' steps'' order''
              fired last h (yes z) =
                  let f = h.meant z in
                  let v : e / 2 < n = let m = inside in omega arith in
                  let even : 2 * (e / 2) ≡ e = omega arith in
                  grown-put (λ v. get_or needs' (2 * v) 0 ≤ 4096) v wide wide-steps (λ free. let r = listed-room st.placed v (ap not free) in omega arith) (λ free. rw (even, need-here) (omega arith)) (rw tails at f.0)
              fired last h (no z) = let f = h.disturbed z in rw (f.1, f.2, f.3, f.4, tails) (grown-none n k s (λ v. get_or needs' (2 * v) 0 ≤ 4096) tail values steps order)

              go : Dec (get_or needs e 0 - 1 ≡ 4096) → Grown n k s (λ v. get_or needs' (2 * v) 0 ≤ 4096) tail values steps order lists''.tail values'' steps'' order''
              go (yes z) = fired z (looked.fires z) (ℕ_discrete (e % 2) 0)
              go (no z) = let f = looked.waits z in rw (f.0, f.1, f.2, f.5, tails) (grown-none n k s (λ v. get_or needs' (2 * v) 0 ≤ 4096) tail values steps order)

          pub look-falls : (x : ℕ) → get_or needs'' x 0 ≤ get_or needs x 0
          look-falls x = rw looked.need (needs-fall x)
