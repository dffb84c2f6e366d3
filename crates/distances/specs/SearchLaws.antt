-- The search goes on move by move: laws for its start, for a position that is reached, for the moves into one position, and for its end.
use Rattle.std.specs.Prelude.{ℕ, suc, ◌+◌, ◌≤◌, ◌<◌, ◌≡◌, refl, ◌⊎◌, not, List, length, get_or, set}
use Rattle.std.proofs.Common.{arith, sym, ap, subst, ◌∙◌, inl, inr, get_or-set_same, get_or-set_other, eq-eqb, ne_eqb}
use Rattle.std.proofs.Math.Decide.{ℕ_discrete, dec_lt}
use Rattle.std.proofs.lemmas.Bool.{eqb-false}
use Rattle.search.specs.Counting.{count_none}
use Rattle.rows.specs.Rows.{RowIs}
use Rattle.rows.specs.Numbers.{free}
use Rattle.rows.specs.Filling.{length-set_if}
use Rattle.chains.specs.Chains.{next_of}
use Rattle.chains.specs.ChainLaws.{OtherValues, next-found, next_past}
use Rattle.distances.specs.Distances.{LeadsTo, Distances, Reached, Begun, BegunAt, Searching}
use Rattle.distances.specs.QueueLaws.{queue-most, queue-room, other-count, its-count, queue-more}

pub reached-lengths : {v count tail next : ℕ} {left order left' order' : List ℕ} → Reached v count tail left order left' order' next → (length left' ≡ length left) × (length order' ≡ length order)
reached-lengths {v} {count} {tail} {next} {left} {order} r = (rw r.left_is (length-set_if (free left v) v count left), rw r.order_is (length-set_if (free left v) tail v order))

-- what was reached had no count before, or stays as it was
reached-cases : {v count tail next : ℕ} {left order left' order' : List ℕ} → Reached v count tail left order left' order' next
    → ((get_or left v 0 ≡ 65535) × (left' ≡ set left v count) × (order' ≡ set order tail v) × (next ≡ tail + 1)) ⊎ ((get_or left v 0 ≡ 65535 → ⊥) × (left' ≡ left) × (order' ≡ order) × (next ≡ tail))
reached-cases {v} {count} {tail} {next} {left} {order} {left'} {order'} r = go (ℕ_discrete (get_or left v 0) 65535)
  where
    go : Dec (get_or left v 0 ≡ 65535)
        → ((get_or left v 0 ≡ 65535) × (left' ≡ set left v count) × (order' ≡ set order tail v) × (next ≡ tail + 1)) ⊎ ((get_or left v 0 ≡ 65535 → ⊥) × (left' ≡ left) × (order' ≡ order) × (next ≡ tail))
    go (yes e) = let b = eq-eqb (get_or left v 0) 65535 e in inl (e, rw b at r.left_is, rw b at r.order_is, rw b at r.next-is)
    go (no z) = let b = ne_eqb (get_or left v 0) 65535 z in inr (z, rw b at r.left_is, rw b at r.order_is, (rw b at r.next-is) ∙ omega arith)

-- The start

pub begun-none : {n : ℕ} {marks left order : List ℕ} → RowIs left n (λ v. 65535) → Begun n marks 0 left order 0
begun-none {n} {marks} {left} {order} clear = record {
  queue = record {
    counted = count_none (λ v. not (free left v)) n (λ j l. ap not (eq-eqb (get_or left j 0) 65535 (clear j l)));
    inside = λ i l. absurd (omega arith);
    few = λ i l. absurd (omega arith);
    found = λ v l placed. absurd (placed (clear v l));
    rising = λ i j l k. absurd (omega arith);
    near = λ i j l k h. absurd (omega arith);
  };
  marked = λ v l k e. absurd (omega arith);
  zeros = λ v l placed. absurd (placed (clear v l));
}

module _ {n i tail : ℕ} {marks left order : List ℕ} (h : Begun n marks i left order tail) where
  pub begun-skip : (get_or marks i 0 ≡ 1 → ⊥) → Begun n marks (i + 1) left order tail
  begun-skip none = record { queue = h.queue; marked = λ v l k e. go v k e (ℕ_discrete v i) l; zeros = h.zeros }
    where
      go : (v : ℕ) → v < n → get_or marks v 0 ≡ 1 → Dec (v ≡ i) → v < i + 1 → get_or left v 0 ≡ 0
      go v k e (yes z) l = absurd (none (rw z at e))
      go v k e (no z) l = h.marked v (omega arith) k e

  pub begun-next : {next : ℕ} {left' order' : List ℕ} → i < n → n ≤ 512 → n ≤ length left → n ≤ length order → get_or marks i 0 ≡ 1
      → Reached i 0 tail left order left' order' next → Begun n marks (i + 1) left' order' next
  begun-next {next} {left'} {order'} l small long longer mark r = go (reached-cases r)
    where
      go : ((get_or left i 0 ≡ 65535) × (left' ≡ set left i 0) × (order' ≡ set order tail i) × (next ≡ tail + 1)) ⊎ ((get_or left i 0 ≡ 65535 → ⊥) × (left' ≡ left) × (order' ≡ order) × (next ≡ tail))
          → Begun n marks (i + 1) left' order' next
      go (inr (placed, a, b, c)) = rw (a, b, c) (record { queue = h.queue; marked = λ v k m e. here v m e (ℕ_discrete v i) k; zeros = h.zeros })
        where
          here : (v : ℕ) → v < n → get_or marks v 0 ≡ 1 → Dec (v ≡ i) → v < i + 1 → get_or left v 0 ≡ 0
          here v m e (yes z) k = rw z (h.zeros i l placed).0
          here v m e (no z) k = h.marked v (omega arith) m e
      go (inl (none, a, b, c)) = rw (a, b, c) (record {
        queue =
            queue-more h.queue l none small 0 long room (omega arith)
            (λ j k. let z = h.zeros (get_or order j 0) (h.queue.inside j k) (λ e. let f = h.queue.few j k in let m = queue-most h.queue in omega arith) in omega (arith, z.0))
            (λ j p k. omega arith);
        marked = λ v k m e. here v m e (ℕ_discrete v i) k;
        zeros = λ v k placed. zero-at v k placed (ℕ_discrete v i);
      })
        where
          room : tail < length order
          room = let f = queue-room h.queue l none in omega arith

          here : (v : ℕ) → v < n → get_or marks v 0 ≡ 1 → Dec (v ≡ i) → v < i + 1 → get_or (set left i 0) v 0 ≡ 0
          here v m e (yes z) k = rw z (its-count h.queue l none small 0 long room)
          here v m e (no z) k = other-count h.queue l none small 0 long room v z ∙ h.marked v (omega arith) m e

          zero-at : (v : ℕ) → v < n → (get_or (set left i 0) v 0 ≡ 65535 → ⊥) → Dec (v ≡ i) → (get_or (set left i 0) v 0 ≡ 0) × (get_or marks v 0 ≡ 1)
          zero-at v k placed (yes z) = rw z (its-count h.queue l none small 0 long room, mark)
          zero-at v k placed (no z) =
              let same = other-count h.queue l none small 0 long room v z in
              let w = h.zeros v k (λ e. placed (same ∙ e)) in
              (same ∙ w.0, w.1)

-- a turn, whether v is marked or not
pub begun-turn : {n v tail next : ℕ} {marks left order left' order' : List ℕ} → Begun n marks v left order tail → v < n → n ≤ 512 → n ≤ length left → n ≤ length order
    → BegunAt v marks tail left order left' order' next → Begun n marks (v + 1) left' order' next
begun-turn {n} {v} {tail} {next} {marks} {left} {order} {left'} {order'} h l small long longer at = go (ℕ_discrete (get_or marks v 0) 1)
  where
    go : Dec (get_or marks v 0 ≡ 1) → Begun n marks (v + 1) left' order' next
    go (yes e) = begun-next h l small long longer e (at.marked e)
    go (no z) = let same = at.other z in rw (same.0, same.1, same.2) (begun-skip h z)

pub begun-lengths : {v tail next : ℕ} {marks left order left' order' : List ℕ} → BegunAt v marks tail left order left' order' next → (length left' ≡ length left) × (length order' ≡ length order)
begun-lengths {v} {tail} {next} {marks} {left} {order} {left'} {order'} at = go (ℕ_discrete (get_or marks v 0) 1)
  where
    go : Dec (get_or marks v 0 ≡ 1) → (length left' ≡ length left) × (length order' ≡ length order)
    go (yes e) = reached-lengths (at.marked e)
    go (no z) = (ap length (at.other z).0, ap length (at.other z).1)

pub begun_all : {n i tail : ℕ} {marks left order : List ℕ} → i ≡ n → Begun n marks i left order tail → Begun n marks n left order tail
begun_all {n} {tail = tail} {marks = marks} {left = left} {order = order} e h = subst (λ (j : ℕ). Begun n marks j left order tail) e h

pub begun-searching : {n m tail : ℕ} {marks froms tos left order : List ℕ} → Begun n marks n left order tail → Searching n m marks froms tos 0 tail left order
begun-searching h = record {
  queue = h.queue;
  marked = λ v l e. h.marked v l l e;
  only-marked = λ v l e. (h.zeros v l (λ z. omega arith)).1;
  one_more = λ v k l placed e. let z = h.zeros v l placed in absurd (omega (arith, z.0));
  done = λ j i l k e. absurd (omega arith);
}

-- A position that is reached

module _ {n m head tail : ℕ} {marks froms tos left order : List ℕ} (s : Searching n m marks froms tos head tail left order) {v : ℕ} (l : v < n) (none : get_or left v 0 ≡ 65535) (small : n ≤ 512)
    (k : ℕ) (long : n ≤ length left) (room : tail < length order) (started : head ≤ tail) where
  same_count : (u : ℕ) → (get_or left u 0 ≡ 65535 → ⊥) → get_or (set left v (suc k)) u 0 ≡ get_or left u 0
  same_count u placed = other-count s.queue l none small (suc k) long room u (λ z. placed (rw z none))

  pub search-more : suc k ≤ tail → ((i : ℕ) → i < tail → get_or left (get_or order i 0) 0 ≤ suc k) → ((j : ℕ) → head ≤ j → j < tail → suc k ≤ get_or left (get_or order j 0) 0 + 1)
      → LeadsTo m froms tos left v k → Searching n m marks froms tos head (tail + 1) (set left v (suc k)) (set order tail v)
  search-more most above close leads = record {
    queue = queue-more s.queue l none small (suc k) long room most above close;
    marked = λ u h e. let z = s.marked u h e in same_count u (λ w. omega arith) ∙ z;
    only-marked = λ u h e. only u h e (ℕ_discrete u v);
    one_more = λ u j h placed e. more u j h placed e (ℕ_discrete u v);
    done = λ j i h r e. looked j i h r e;
  }
    where
      moved : {u j : ℕ} → j < 65535 → LeadsTo m froms tos left u j → LeadsTo m froms tos (set left v (suc k)) u j
      moved small' w = record { line = w.line; inside = w.inside; leaves = w.leaves; there = same_count (get_or tos w.line 0) (λ z. let e = w.there in omega arith) ∙ w.there }

      its : get_or (set left v (suc k)) v 0 ≡ suc k
      its = its-count s.queue l none small (suc k) long room

      only : (u : ℕ) → u < n → get_or (set left v (suc k)) u 0 ≡ 0 → Dec (u ≡ v) → get_or marks u 0 ≡ 1
      only u h e (yes z) = absurd (let w = rw z at e in let t = its in omega arith)
      only u h e (no z) = s.only-marked u h (sym (other-count s.queue l none small (suc k) long room u z) ∙ e)

      more : (u j : ℕ) → u < n → (get_or (set left v (suc k)) u 0 ≡ 65535 → ⊥) → get_or (set left v (suc k)) u 0 ≡ suc j → Dec (u ≡ v) → LeadsTo m froms tos (set left v (suc k)) u j
      more u j h placed e (yes z) =
          let t = its in
          let w = rw z at e in
          let same : k ≡ j = omega arith in
          let b = queue-most s.queue in
          subst (λ (x : ℕ). LeadsTo m froms tos (set left v (suc k)) x j) (sym z) (subst (LeadsTo m froms tos (set left v (suc k)) v) same (moved (omega arith) leads))
      more u j h placed e (no z) =
          let c = other-count s.queue l none small (suc k) long room u z in
          let f = s.queue.found u h (λ w. placed (c ∙ w)) in
          let g = s.queue.few f.0 f.1 in
          let at = ap (λ (x : ℕ). get_or left x 0) f.2 in
          let b = queue-most s.queue in
          moved (omega (arith, f.1)) (s.one_more u j h (λ w. placed (c ∙ w)) (sym c ∙ e))

      looked : (j i : ℕ) → j < head → i < m → get_or tos i 0 ≡ get_or (set order tail v) j 0 → get_or (set left v (suc k)) (get_or froms i 0) 0 ≤ get_or (set left v (suc k)) (get_or (set order tail v) j 0) 0 + 1
      looked j i h r e =
          let at = get_or-set_other order tail j v 0 (λ z. omega arith) in
          let before = s.done j i h r (e ∙ at) in
          let f = s.queue.few j (omega arith) in
          let b = queue-most s.queue in
          rw (at, same_count (get_or order j 0) (λ z. omega arith), same_count (get_or froms i 0) (λ z. omega arith)) before

-- The moves into one position, along its chain

-- those of the lines below `below` are looked at, and i is the next line into w
pub record Visiting (n m : ℕ) (marks froms tos : List ℕ) (head w count : ℕ) (left order : List ℕ) (last i : ℕ) : Type 0 where
  pub below : ℕ
  pub within : below ≤ m
  pub here : i ≡ next_of tos m w below
  pub search : Searching n m marks froms tos head last left order
  pub started : head < last
  pub at : get_or order head 0 ≡ w
  pub counts : count ≡ get_or left w 0 + 1
  pub passed : (j : ℕ) → j < below → j < m → get_or tos j 0 ≡ w → get_or left (get_or froms j 0) 0 ≤ count

pub visiting-none : {n m head w count tail i : ℕ} {marks froms tos left order : List ℕ} → Searching n m marks froms tos head tail left order → head < tail → get_or order head 0 ≡ w
    → count ≡ get_or left w 0 + 1 → i ≡ next_of tos m w 0 → Visiting n m marks froms tos head w count left order tail i
visiting-none s started at counts here = record {
  below = 0;
  within = omega arith;
  here = here;
  search = s;
  started = started;
  at = at;
  counts = counts;
  passed = λ j l k e. absurd (omega arith);
}

module _ {n m head w count last i : ℕ} {marks froms tos left order : List ℕ} (few : m ≤ 4096) (small : n ≤ 512) (h : Visiting n m marks froms tos head w count left order last i) where
  -- the count of the position whose moves are looked at
  pub count_most : count ≤ last
  count_most =
      let f = h.search.queue.few head h.started in
      let e = ap (λ (x : ℕ). get_or left x 0) h.at in
      let c = h.counts in
      omega (arith, h.started)

  module _ (l : i < m) where
    found : (h.below ≤ i) × (get_or tos i 0 ≡ w) × OtherValues tos w h.below i
    found = next-found tos m w h.below i few l h.here

    -- the lines before i, and i itself once its position has a count that is small enough
    passed-more : (left' : List ℕ) → ((j : ℕ) → j < h.below → j < m → get_or tos j 0 ≡ w → get_or left' (get_or froms j 0) 0 ≤ count) → get_or left' (get_or froms i 0) 0 ≤ count
        → (j : ℕ) → j < i + 1 → j < m → get_or tos j 0 ≡ w → get_or left' (get_or froms j 0) 0 ≤ count
    passed-more left' before this j a b e = go (ℕ_discrete j i) (dec_lt j h.below)
      where
        go : Dec (j ≡ i) → Dec (j < h.below) → get_or left' (get_or froms j 0) 0 ≤ count
        go (yes z) d = rw z this
        go (no z) (yes d) = before j d b e
        go (no z) (no d) = absurd (eqb-false (get_or tos j 0) w (found.2 j (omega arith) (omega arith)) e)

    pub visiting-next : {next i' : ℕ} {left' order' : List ℕ} → get_or froms i 0 < n → n ≤ length left → n ≤ length order → Reached (get_or froms i 0) count last left order left' order' next
        → i' ≡ next_of tos m (get_or tos i 0) (i + 1) → Visiting n m marks froms tos head w count left' order' next i'
    visiting-next {next} {i'} {left'} {order'} inside long longer r e = go (reached-cases r)
      where
        v : ℕ
        v = get_or froms i 0

        on : i' ≡ next_of tos m w (i + 1)
        on = e ∙ ap (λ (x : ℕ). next_of tos m x (i + 1)) found.1

        go : ((get_or left (get_or froms i 0) 0 ≡ 65535) × (left' ≡ set left (get_or froms i 0) count) × (order' ≡ set order last (get_or froms i 0)) × (next ≡ last + 1))
            ⊎ ((get_or left (get_or froms i 0) 0 ≡ 65535 → ⊥) × (left' ≡ left) × (order' ≡ order) × (next ≡ last))
            → Visiting n m marks froms tos head w count left' order' next i'
        go (inr (placed, a, b, c)) = rw (a, b, c) (record {
          below = i + 1;
          within = omega arith;
          here = on;
          search = h.search;
          started = h.started;
          at = h.at;
          counts = h.counts;
          passed = passed-more left h.passed close;
        })
          where
            close : get_or left (get_or froms i 0) 0 ≤ count
            close =
                let f = h.search.queue.found (get_or froms i 0) inside placed in
                let g = h.search.queue.near f.0 head f.1 (omega arith) h.started in
                let x = ap (λ (y : ℕ). get_or left y 0) f.2 in
                let y = ap (λ (y : ℕ). get_or left y 0) h.at in
                let c = h.counts in
                omega arith
        go (inl (none, a, b, c)) = rw (a, b, c) (record {
          below = i + 1;
          within = omega arith;
          here = on;
          search = subst (λ (x : ℕ). Searching n m marks froms tos head (last + 1) (set left (get_or froms i 0) x) (set order last (get_or froms i 0))) (sym is-suc)
              (search-more h.search inside none small k long room (omega (arith, h.started)) (omega (arith, is-suc, count_most)) above close leads);
          started = omega (arith, h.started);
          at = get_or-set_other order last head (get_or froms i 0) 0 (λ z. omega (arith, h.started)) ∙ h.at;
          counts = h.counts ∙ ap (λ (x : ℕ). x + 1) (sym (kept w w-placed));
          passed = passed-more (set left (get_or froms i 0) count) (λ j p b' e'. kept_low j (h.passed j p b' e')) (rw its (omega arith));
        })
          where
            k : ℕ
            k = get_or left w 0

            is-suc : count ≡ suc (get_or left w 0)
            is-suc = h.counts ∙ omega arith

            room : last < length order
            room = let f = queue-room h.search.queue inside none in omega arith

            most : last ≤ n
            most = queue-most h.search.queue

            w-placed : get_or left w 0 ≡ 65535 → ⊥
            w-placed z = omega (arith, is-suc, count_most, most)

            kept : (u : ℕ) → (get_or left u 0 ≡ 65535 → ⊥) → get_or (set left (get_or froms i 0) count) u 0 ≡ get_or left u 0
            kept u placed = get_or-set_other left (get_or froms i 0) u count 0 (λ z. placed (rw z none))

            its : get_or (set left (get_or froms i 0) count) (get_or froms i 0) 0 ≡ count
            its = get_or-set_same left (get_or froms i 0) count 0 (omega arith)

            kept_low : (j : ℕ) → get_or left (get_or froms j 0) 0 ≤ count → get_or (set left (get_or froms i 0) count) (get_or froms j 0) 0 ≤ count
            kept_low j b' = rw (kept (get_or froms j 0) (λ z. omega (arith, count_most, most))) b'

            above : (j : ℕ) → j < last → get_or left (get_or order j 0) 0 ≤ suc (get_or left w 0)
            above j p =
                let g = h.search.queue.near j head p (omega arith) h.started in
                let y = ap (λ (y : ℕ). get_or left y 0) h.at in
                omega arith

            close : (j : ℕ) → head ≤ j → j < last → suc (get_or left w 0) ≤ get_or left (get_or order j 0) 0 + 1
            close j p r = near-head (ℕ_discrete head j)
              where
                near-head : Dec (head ≡ j) → suc (get_or left w 0) ≤ get_or left (get_or order j 0) 0 + 1
                near-head (yes z) = let y = ap (λ (y : ℕ). get_or left (get_or order y 0) 0) z in let x = ap (λ (y : ℕ). get_or left y 0) h.at in omega arith
                near-head (no z) = let y = h.search.queue.rising head j (omega arith) r in let x = ap (λ (y : ℕ). get_or left y 0) h.at in omega arith

            leads : LeadsTo m froms tos left (get_or froms i 0) (get_or left w 0)
            leads = record { line = i; inside = l; leaves = refl; there = ap (λ (y : ℕ). get_or left y 0) found.1 }

  -- past the last line all are looked at
  pub visiting-done : m ≤ i → Searching n m marks froms tos (head + 1) last left order
  visiting-done past = record {
    queue = record {
      counted = h.search.queue.counted;
      inside = h.search.queue.inside;
      few = h.search.queue.few;
      found = h.search.queue.found;
      rising = h.search.queue.rising;
      near = λ j k p r s. h.search.queue.near j k p (omega arith) s;
    };
    marked = h.search.marked;
    only-marked = h.search.only-marked;
    one_more = h.search.one_more;
    done = λ j k p r e. looked j k p r e (ℕ_discrete j head);
  }
    where
      none_after : OtherValues tos w h.below m
      none_after = next_past tos m w h.below i h.within past h.here

      looked : (j k : ℕ) → j < head + 1 → k < m → get_or tos k 0 ≡ get_or order j 0 → Dec (j ≡ head) → get_or left (get_or froms k 0) 0 ≤ get_or left (get_or order j 0) 0 + 1
      looked j k p r e (no z) = h.search.done j k (omega arith) r e
      looked j k p r e (yes z) =
          let at : get_or order j 0 ≡ w = ap (λ (y : ℕ). get_or order y 0) z ∙ h.at in
          let c = h.counts in
          rw at (low (dec_lt k h.below) (e ∙ at))
        where
          low : Dec (k < h.below) → get_or tos k 0 ≡ w → get_or left (get_or froms k 0) 0 ≤ get_or left w 0 + 1
          low (yes d) f = let b = h.passed k d r f in let c = h.counts in omega arith
          low (no d) f = absurd (eqb-false (get_or tos k 0) w (none_after k (omega arith) r) f)

-- The end

pub search-done : {n m head tail : ℕ} {marks froms tos left order : List ℕ} → n ≤ 512 → ((i : ℕ) → i < m → get_or tos i 0 < n) → ((i : ℕ) → i < m → get_or froms i 0 < n)
    → tail ≤ head → Searching n m marks froms tos head tail left order → Distances n m marks froms tos left
search-done {n} {m} {head} {tail} {marks} {froms} {tos} {left} {order} small to_inside from-inside e s = record {
  small = λ v l. numbers v l (ℕ_discrete (get_or left v 0) 65535);
  marked = s.marked;
  only-marked = s.only-marked;
  one_more = λ v k l h f. s.one_more v k l (λ z. omega arith) f;
  no_less = λ i l. low i l (ℕ_discrete (get_or left (get_or tos i 0) 0) 65535);
}
  where
    numbers : (v : ℕ) → v < n → Dec (get_or left v 0 ≡ 65535) → (get_or left v 0 ≡ 65535) ⊎ (get_or left v 0 < n)
    numbers v l (yes z) = inl z
    numbers v l (no z) =
        let f = s.queue.found v l z in
        let g = s.queue.few f.0 f.1 in
        let x = ap (λ (y : ℕ). get_or left y 0) f.2 in
        inr (omega (arith, f.1, queue-most s.queue))

    low : (i : ℕ) → i < m → Dec (get_or left (get_or tos i 0) 0 ≡ 65535) → get_or left (get_or froms i 0) 0 ≤ get_or left (get_or tos i 0) 0 + 1
    low i l (yes z) = go (numbers (get_or froms i 0) (from-inside i l) (ℕ_discrete (get_or left (get_or froms i 0) 0) 65535))
      where
        go : (get_or left (get_or froms i 0) 0 ≡ 65535) ⊎ (get_or left (get_or froms i 0) 0 < n) → get_or left (get_or froms i 0) 0 ≤ get_or left (get_or tos i 0) 0 + 1
        go (inl f) = omega arith
        go (inr f) = omega arith
    low i l (no z) =
        let f = s.queue.found (get_or tos i 0) (to_inside i l) z in
        let g = s.done f.0 i (omega (arith, f.1)) l (sym f.2) in
        let x = ap (λ (y : ℕ). get_or left y 0) f.2 in
        omega arith
