-- There is exactly one shortest way to ruin where the worth is a number, and the computed one is it. Every unsafe play that costs the worth
-- goes over tight moves up to its first unsafe position; one that has no more moves than need be shortens the way by one with each of them.
-- Of such plays the one that takes the lowest next position each time is lower than any other at the first difference.
use Prim.Native.Nat.{ℕ, zero, suc, ◌+◌, ◌-◌, ◌≤◌, ◌<◌}
use native.Mathlib.Omega.{arith}
use Rattle.std.proofs.Math.Nat.{zero-add}
use Rattle.std.proofs.Math.Decide.{ℕ_discrete}
use Rattle.std.specs.Prelude.{◌≡◌, ◌⊎◌, Bool, cond}
use Rattle.std.proofs.Math.Path.{refl, ap, subst}
use Rattle.std.proofs.Common.{sym, ◌∙◌}
use Rattle.std.proofs.Math.Logic.{inl, inr}
use Rattle.std.proofs.Math.Bool.{true, false}
use Rattle.std.proofs.Math.Dec.{T}
use Rattle.game.specs.Value.{Value, fin, ◌≼◌, ◌⊕◌}
use Rattle.game.proofs.ValueLaws.{fin-injective, fin≼, ≼fin, ≼trans, ⊕zero, ⊕fin, ⊕below, below-is-finite, ≡→≼}
use Rattle.game.specs.Arena.{Arena, Owner, controller, environment, nobody, WellFormed, size, owner_at, unsafe, meant_move, disturbance_move, Meant, Disturbance, has_meant}
use Rattle.game.specs.Play.{Trail, still, meant, disturbed, last, cost, Allows, Play, Unsafe, LegalAs, Legal, positional, target_of}
use Rattle.game.proofs.PlayLaws.{disturbance-costs-one, target-is-named, by-test, stands-unsafe, meant-inside, disturbance-inside}
use Rattle.game.specs.Worth.{WorthIs}
use Rattle.game.specs.Table.{round_value, round_step}
use Rattle.game.specs.Best.{best_at}
use Rattle.game.specs.Certificate.{CertifiedAt, MeantHold}
use Rattle.game.specs.Restrict.{restricted}
use Rattle.game.proofs.RestrictLaws.{StaysAs, restricted-meant, restricted-disturbance, restricted-is-well-formed, restricted-value-is-worth}
use Rattle.game.proofs.RoundCertificate.{rounds-have-a-certificate}
use Rattle.game.proofs.RoundValues.{rounds-give-the-values}
use Rattle.game.proofs.RoundBounds.{round-value-within-size}
use Rattle.way.specs.Way.{moves, stands_after, Lower, WayToRuin}
use Rattle.way.specs.Tight.{tightened, moves_left, onward, way_after}
use Rattle.way.proofs.Trails.{continues, onward-continues, stands-last, lower-one-way, lower-stays, lower-begins}
use Rattle.way.specs.Along.{Along, total, along-map, Exact, bounded, exact, summed}
use Rattle.way.specs.TightLaws.{Goes, step_cost, Tight, tight-onward, tight-disturbs, disturbance-is-tight, tightened-is-well-formed, tightened-size, none_left, one_at_most, some-shortens}

-- the length of a move, where moves are counted
abbrev one : Bool → ℕ → ℕ → ℕ
one b u w = 1

counts-moves : (v : ℕ) (t : Trail) → total one v t ≡ moves t
unfolding total moves
counts-moves v still = refl
counts-moves v (meant t w) = let e = counts-moves v t in omega arith
counts-moves v (disturbed t w) = let e = counts-moves v t in omega arith

-- a row of next positions leads on: where moves are left it has the lowest of the positions from where one less is
pub record Leading (a : Arena) (next : ℕ → ℕ) : Type 0 where
  pub goes : (v k : ℕ) → v < size a → moves_left a v ≡ fin (suc k) → Disturbance (tightened a) v (next v) × (moves_left a (next v) ≡ fin k)
  pub lowest : (v w k : ℕ) → v < size a → moves_left a v ≡ fin (suc k) → Disturbance (tightened a) v w → moves_left a w ≡ fin k → next v ≤ w

module _ (a : Arena) (wf : WellFormed a) (choice : ℕ → Value) (legal : Legal a choice) where
  abbrev r : Arena
  r = restricted a choice

  -- the worths of the choices' controller
  abbrev worth : ℕ → Value
  worth = round_value (restricted a choice)

  well : WellFormed r
  well = restricted-is-well-formed a choice wf legal

  -- The plays of the choices' controller are the trails along the moves that stay

  module _ (v w : ℕ) where
    stays-if-allowed : (o : Owner) → LegalAs o a v (choice v) → Allows o (target_of (choice v)) w → StaysAs a choice o v w
    stays-if-allowed controller (x, e, m) h = target-is-named (choice v) x e ∙ ap fin (sym h)
    stays-if-allowed environment h i = tt
    stays-if-allowed nobody h i = tt

    allowed-if-stays : (o : Owner) → T (has_meant o) → StaysAs a choice o v w → Allows o (target_of (choice v)) w
    unfolding target_of
    allowed-if-stays controller has e = rw e
    allowed-if-stays environment has h = tt
    allowed-if-stays nobody has h = absurd has

  inside : (b : Bool) (u w : ℕ) → Goes r b u w → u < size a
  unfolding restricted
  inside false u w m = well.from-position (meant_move u w) m
  inside true u w (x, m) = well.from-position (disturbance_move (suc x) u w) m

  lands : (b : Bool) (u w : ℕ) → Goes r b u w → w < size a
  unfolding restricted
  lands false u w m = meant-inside r well u w m
  lands true u w d = disturbance-inside r well u w d

  play-starts : (v : ℕ) (t : Trail) → Play a (positional a choice legal) v t → v < size a
  unfolding Play
  play-starts v still p = p
  play-starts v (meant t w) p = play-starts v t p.0
  play-starts v (disturbed t w) p = play-starts v t p.0

  play-goes : (v : ℕ) (t : Trail) → Play a (positional a choice legal) v t → Along (Goes r) v t
  unfolding Play Along positional
  play-goes v still p = tt
  play-goes v (meant t w) (p, m, allowed) =
      (play-goes v t p, (restricted-meant a choice (last v t) w).1 (m, stays-if-allowed (last v t) w (owner_at a (last v t)) (legal (last v t) (wf.from-position (meant_move (last v t) w) m)) allowed))
  play-goes v (disturbed t w) (p, d) = (play-goes v t p, (restricted-disturbance a choice (last v t) w).1 d)

  goes-plays : (v : ℕ) (t : Trail) → v < size a → Along (Goes r) v t → Play a (positional a choice legal) v t
  unfolding Play Along positional
  goes-plays v still l p = l
  goes-plays v (meant t w) l (p, m) =
      let h = (restricted-meant a choice (last v t) w).0 m in
      (goes-plays v t l p, h.0, allowed-if-stays (last v t) w (owner_at a (last v t)) (wf.resting (last v t) w h.0) h.1)
  goes-plays v (disturbed t w) l (p, d) = (goes-plays v t l p, (restricted-disturbance a choice (last v t) w).0 d)

  ends-inside : (v : ℕ) (t : Trail) → v < size a → Along (Goes r) v t → last v t < size a
  unfolding Along last
  ends-inside v still l p = l
  ends-inside v (meant t w) l (p, q) = lands false (last v t) w q
  ends-inside v (disturbed t w) l (p, q) = lands true (last v t) w q

  costs : (v : ℕ) (t : Trail) → total (step_cost r) v t ≡ cost a v t
  unfolding total cost
  costs v still = refl
  costs v (meant t w) = let e = costs v t in omega arith
  costs v (disturbed t w) = rw (costs v t, disturbance-costs-one r (last v t) w, disturbance-costs-one a (last v t) w)

  -- No move lowers the worth by more than its cost

  certified : (v : ℕ) → v < size a → CertifiedAt r worth (best_at r worth) (round_step r) v
  unfolding restricted
  certified v l = rounds-have-a-certificate r well v l

  only-target : (v w x : ℕ) → owner_at a v ≡ controller → Meant r v w → Meant r v x → x ≡ w
  only-target v w x own m n =
      let e = subst (λ (o : Owner). StaysAs a choice o v w) own ((restricted-meant a choice v w).0 m).1 in
      let f = subst (λ (o : Owner). StaysAs a choice o v x) own ((restricted-meant a choice v x).0 n).1 in
      fin-injective x w (sym f ∙ e)

  holds : (b : Bool) (u w : ℕ) → Goes r b u w → worth u ≼ worth w ⊕ step_cost r b u w
  unfolding restricted
  holds true u w d = (certified u (inside true u w d)).holding.1 w d
  holds false u w m = rw (⊕zero (worth w)) (go (owner_at a u) refl (certified u (inside false u w m)).legal (certified u (inside false u w m)).holding.0 (well.resting u w m))
    where
      go : (o : Owner) → owner_at a u ≡ o → LegalAs o r u (best_at r worth u)
          → MeantHold r worth (best_at r worth) (round_step r) o u
          → T (has_meant o) → worth u ≼ worth w
      go controller own (x, e, n) held has = subst (λ (y : ℕ). worth u ≼ worth y) (only-target u w x own m n) (held x e)
      go environment own dash held has = held w m
      go nobody own dash held has = absurd has

  -- A tight move shortens the way by one at most

  shortens : (b : Bool) (u w : ℕ) → Tight r b u w → moves_left r u ≼ moves_left r w ⊕ 1
  unfolding restricted
  shortens b u w t = one_at_most r well u w (inside b u w t.0) (tight-disturbs r well b u w t)

  -- a move of a shortest way: it is tight, and shortens the way by one
  abbrev Shortens : Bool → ℕ → ℕ → Type 0
  Shortens b u w = Tight r b u w × Exact one (moves_left r) b u w

  abbrev Straight : ℕ → Trail → Type 0
  Straight v t = Along Shortens v t

  -- What an unsafe play from v says that costs no more than the worth: it has as many moves as are left, and if it has no more, it is straight
  abbrev NoShorter : ℕ → Trail → Type 0
  NoShorter v t = (moves_left r v ≼ fin (moves t)) × ((j : ℕ) → moves_left r v ≡ fin j → moves t ≤ j → Straight v t)

  module _ (v k : ℕ) (l : v < size a) (is : worth v ≡ fin k) where
    -- one that stands at an unsafe position
    standing : (t : Trail) → Along (Goes r) v t → T (unsafe a (last v t)) → cost a v t ≤ k → NoShorter v t
    unfolding restricted
    standing t p u most =
        let end = ends-inside v t l p in
        let none : worth (last v t) ≡ fin 0 = (certified (last v t) end).unsafe-zero u in
        let tight : Along (Tight r) v t = exact (Goes r) (step_cost r) worth holds v t p k 0 is none (omega (arith, costs v t)) in
        let at-end : moves_left r (last v t) ≡ fin 0 = none_left r well (last v t) end u in (
          rw (at-end, ⊕fin 0 (total one v t), counts-moves v t, zero-add (moves t)) at (bounded (Tight r) one (moves_left r) shortens v t tight),
          λ j e m. exact (Tight r) one (moves_left r) shortens v t tight j 0 e at-end (omega (arith, counts-moves v t)),
        )

    -- one that was unsafe before has a move too many
    earlier : (t : Trail) (m : ℕ) → moves_left r v ≼ fin m → suc m ≤ moves t → NoShorter v t
    earlier t m h l = (
      ≼trans (moves_left r v) (fin m) (fin (moves t)) h (fin≼ m (moves t) (omega arith)),
      λ j e n. let f = ≼fin j m (rw e at h) in absurd (omega arith),
    )

    no-shorter : (t : Trail) → Along (Goes r) v t → Unsafe a v t → cost a v t ≤ k → NoShorter v t
    unfolding Unsafe last Along cost moves
    no-shorter still p u most = standing still p u most
    no-shorter (meant t w) p (inl u) most = earlier (meant t w) (moves t) (no-shorter t p.0 u most).0 (omega arith)
    no-shorter (meant t w) p (inr u) most = standing (meant t w) p u most
    no-shorter (disturbed t w) p (inl u) most = earlier (disturbed t w) (moves t) (no-shorter t p.0 u (omega arith)).0 (omega arith)
    no-shorter (disturbed t w) p (inr u) most = standing (disturbed t w) p u most

  -- The way by a row of next positions

  module _ (next : ℕ → ℕ) (leading : Leading r next) (v : ℕ) (l : v < size a) where
    way : ℕ → Trail
    way i = way_after worth next v i

    way-moves : (i : ℕ) → moves (way i) ≡ i
    unfolding way way_after moves
    way-moves zero = refl
    way-moves (suc i) = (onward-continues worth v (way i) (last v (way i)) (next (last v (way i)))).0 ∙ ap suc (way-moves i)

    way-more : (t : Trail) (i : ℕ) → t ≡ way i → way (suc i) ≡ onward worth t (last v t) (next (last v t))
    unfolding way way_after
    way-more t i e = ap (λ (x : Trail). onward worth x (last v x) (next (last v x))) (sym e)

    -- the way goes on from where it stood
    way-stands : (i k : ℕ) → stands_after v (way (k + i)) i ≡ last v (way i)
    unfolding way way_after
    way-stands i zero = subst (λ (x : ℕ). stands_after v (way x) i ≡ last v (way i)) (sym (zero-add i)) (subst (λ (x : ℕ). stands_after v (way i) x ≡ last v (way i)) (way-moves i) (stands-last v (way i)))
    way-stands i (suc k) =
        let t = way (k + i) in
        let e : suc k + i ≡ suc (k + i) = omega arith in
        subst (λ (x : ℕ). stands_after v (way x) i ≡ last v (way i)) (sym e)
        ((onward-continues worth v t (last v t) (next (last v t))).1 i (omega (arith, way-moves (k + i))) ∙ way-stands i k)

    straight-goes : (t : Trail) → Straight v t → Along (Goes r) v t
    straight-goes t p = along-map (λ b u w s. s.0.0) v t p

    straight-ends : (t : Trail) → Straight v t → last v t < size a
    straight-ends t p = ends-inside v t l (straight-goes t p)

    -- the way is straight, and after i moves i fewer are left
    abbrev Stretch : ℕ → Trail → Type 0
    Stretch j t = Straight v t × (moves_left r (last v t) ≡ fin j)

    stretch-more : (j : ℕ) (t : Trail) → Stretch (suc j) t → Stretch j (onward worth t (last v t) (next (last v t)))
    unfolding restricted Along last
    stretch-more j t (p, e) =
        let u = last v t in
        let g = leading.goes u j (straight-ends t p) e in
        go (disturbance-is-tight r well u (next u) g.0) g.1
      where
        more : (b : Bool) (w : ℕ) → Tight r b (last v t) w → moves_left r w ≡ fin j → Stretch j (cond b (disturbed t w) (meant t w))
        more true w h there = ((p, (h, record { left = j; there = there; here = e ∙ ap fin (omega arith) })), there)
        more false w h there = ((p, (h, record { left = j; there = there; here = e ∙ ap fin (omega arith) })), there)

        go : (last v t ≡ next (last v t)) ⊎ ((b : Bool) × Tight r b (last v t) (next (last v t))) → moves_left r (next (last v t)) ≡ fin j
            → Stretch j (onward worth t (last v t) (next (last v t)))
        go (inl same) there = let z = fin-injective (suc j) j (sym e ∙ ap (moves_left r) same ∙ there) in absurd (omega arith)
        go (inr (b, h)) there = subst (Stretch j) (sym (tight-onward r b t (last v t) (next (last v t)) h)) (more b (next (last v t)) h there)

    way-stretches : (i j : ℕ) → moves_left r v ≡ fin (j + i) → Stretch j (way i)
    unfolding way way_after Along last
    way-stretches zero j e = (tt, e ∙ ap fin (omega arith))
    way-stretches (suc i) j e = stretch-more j (way i) (way-stretches i (suc j) (e ∙ ap fin (omega arith)))

    -- a straight trail is the way, or the way is lower at the first difference
    module _ (t : Trail) (p : Straight v t) (b : Bool) (w : ℕ) (q : Shortens b (last v t) w) where
      not_lower : next (last v t) ≤ w
      unfolding restricted
      not_lower = leading.lowest (last v t) w q.1.left (straight-ends t p) (q.1.here ∙ ap fin (omega arith)) (tight-disturbs r well b (last v t) w q.0) q.1.there

      compare-more : (t ≡ way (moves t)) ⊎ Lower v (way (moves t)) t
          → (cond b (disturbed t w) (meant t w) ≡ way (suc (moves t))) ⊎ Lower v (way (suc (moves t))) (cond b (disturbed t w) (meant t w))
      unfolding way way_after
      compare-more (inr lower) =
          let i = moves t in
          inr (lower-stays v (way i) t (way (suc i)) (cond b (disturbed t w) (meant t w)) (next (last v (way i))) w
          (onward-continues worth v (way i) (last v (way i)) (next (last v (way i)))) (continues b v t w) (way-moves i) lower)
      compare-more (inl e) = go (ℕ_discrete (next (last v t)) w)
        where
          go : Dec (next (last v t) ≡ w) → (cond b (disturbed t w) (meant t w) ≡ way (suc (moves t))) ⊎ Lower v (way (suc (moves t))) (cond b (disturbed t w) (meant t w))
          go (yes z) = inl (sym (way-more t (moves t) e ∙ ap (onward worth t (last v t)) z ∙ tight-onward r b t (last v t) w q.0))
          go (no z) =
              let more = way-more t (moves t) e in
              let less : next (last v t) < w = omega (arith, not_lower) in
              inr (subst (λ (x : Trail). Lower v x (cond b (disturbed t w) (meant t w))) (sym more)
              (lower-begins v t (onward worth t (last v t) (next (last v t))) (cond b (disturbed t w) (meant t w)) (next (last v t)) w (onward-continues worth v t (last v t) (next (last v t))) (continues b v t w) less))

    compare : (t : Trail) → Straight v t → (t ≡ way (moves t)) ⊎ Lower v (way (moves t)) t
    unfolding Along moves way way_after
    compare still p = inl refl
    compare (meant t w) (p, q) = compare-more t p false w q (compare t p)
    compare (disturbed t w) (p, q) = compare-more t p true w q (compare t p)

    -- The way is the shortest, and the only one

    module _ (k j : ℕ) (is : worth v ≡ fin k) (left : moves_left r v ≡ fin j) where
      at-end : Stretch 0 (way j)
      at-end = way-stretches j 0 (left ∙ ap fin (omega arith))

      end-inside : last v (way j) < size a
      end-inside = straight-ends (way j) at-end.0

      -- where no move is left the position is unsafe
      end-unsafe : T (unsafe a (last v (way j)))
      unfolding restricted
      end-unsafe = go (by-test (unsafe a (last v (way j))))
        where
          go : T (unsafe a (last v (way j))) ⊎ (unsafe a (last v (way j)) ≡ false) → T (unsafe a (last v (way j)))
          go (inl u) = u
          go (inr safe) =
              let s = some-shortens r well (last v (way j)) 0 end-inside safe at-end.1 in
              let b = ⊕below (moves_left r s.0) 1 0 (≡→≼ (moves_left r s.0 ⊕ 1) (fin 0) (sym s.2 ∙ at-end.1)) in
              absurd (omega (arith, b.2))

      way-costs : cost a v (way j) ≡ k
      unfolding restricted
      way-costs =
          let none : worth (last v (way j)) ≡ fin 0 = (certified (last v (way j)) end-inside).unsafe-zero end-unsafe in
          let sum = summed (step_cost r) worth v (way j) (along-map (λ b u w s. s.0.1) v (way j) at-end.0) 0 none in
          let e = fin-injective k (0 + total (step_cost r) v (way j)) (sym is ∙ sum) in
          omega (arith, costs v (way j))

      way-play : Play a (positional a choice legal) v (way j)
      way-play = goes-plays v (way j) l (straight-goes (way j) at-end.0)

      worths : WorthIs a (positional a choice legal) v (fin k)
      unfolding restricted
      worths = subst (WorthIs a (positional a choice legal) v) is ((restricted-value-is-worth a choice wf legal v (worth v)).0 (rounds-give-the-values r well v l))

      least : (u : Trail) → Play a (positional a choice legal) v u → Unsafe a v u → k ≤ cost a v u
      unfolding WorthIs
      least u p h = worths.1 u p h

      -- a play that costs no more and has no more moves
      straight-if : (u : Trail) → Play a (positional a choice legal) v u → Unsafe a v u → cost a v u ≡ k → moves u ≡ j → Straight v u
      straight-if u p h c m = (no-shorter v k l is u (play-goes v u p) h (omega arith)).1 j left (omega arith)

      way-or-lower : (u : Trail) → Play a (positional a choice legal) v u → Unsafe a v u → cost a v u ≡ k → moves u ≡ j → (u ≡ way j) ⊎ Lower v (way j) u
      way-or-lower u p h c m = subst (λ (i : ℕ). (u ≡ way i) ⊎ Lower v (way i) u) m (compare u (straight-if u p h c m))

      pub the-way-is-shortest : WayToRuin a (positional a choice legal) v (way_after (round_value (restricted a choice)) next v j)
      unfolding way
      the-way-is-shortest = record {
        play = way-play;
        ends = stands-unsafe a v (way j) end-unsafe;
        fewest-disturbances = λ u p h. rw way-costs (least u p h);
        fewest-moves = λ u p h c.
            let most = (no-shorter v k l is u (play-goes v u p) h (omega (arith, way-costs))).0 in
            rw (way-moves j) (≼fin j (moves u) (rw left at most));
        lowest = λ u p h c m lower. go u (way-or-lower u p h (c ∙ way-costs) (m ∙ way-moves j)) lower;
      }
        where
          go : (u : Trail) → (u ≡ way j) ⊎ Lower v (way j) u → Lower v u (way j) → ⊥
          go u (inl e) lower = let same = subst (λ (x : Trail). Lower v x (way j)) e lower in lower-one-way v (way j) (way j) same same
          go u (inr other) lower = lower-one-way v (way j) u other lower

      pub the-way-costs-the-worth : cost a v (way_after (round_value (restricted a choice)) next v j) ≡ k
      unfolding way
      the-way-costs-the-worth = way-costs

      -- each of its moves shortens it
      pub the-way-shortens : (i : ℕ) → i ≤ j → moves_left (restricted a choice) (stands_after v (way_after (round_value (restricted a choice)) next v j) i) ≡ fin (j - i)
      unfolding way
      the-way-shortens i few =
          let e : (j - i) + i ≡ j = omega arith in
          subst (λ (x : ℕ). moves_left r (stands_after v (way x) i) ≡ fin (j - i)) e
          (ap (moves_left r) (way-stands i (j - i)) ∙ (way-stretches i (j - i) (left ∙ ap fin (sym e))).1)

      -- so only its end is unsafe
      pub the-way-is-safe-before : (i : ℕ) → i < j → T (unsafe a (stands_after v (way_after (round_value (restricted a choice)) next v j) i)) → ⊥
      unfolding way restricted
      the-way-is-safe-before i less u =
          let e : (j - i) + i ≡ j = omega arith in
          let stands : stands_after v (way j) i ≡ last v (way i) = subst (λ (x : ℕ). stands_after v (way x) i ≡ last v (way i)) e (way-stands i (j - i)) in
          let s = way-stretches i (j - i) (left ∙ ap fin (sym e)) in
          let none = none_left r well (last v (way i)) (straight-ends (way i) s.0) (subst (λ (x : ℕ). T (unsafe a x)) stands u) in
          let z = fin-injective (j - i) 0 (sym s.1 ∙ none) in
          omega arith

      -- and each move is tight
      pub the-way-is-tight : (i : ℕ) → i < j
          → (b : Bool) × Tight (restricted a choice) b (last v (way_after (round_value (restricted a choice)) next v i)) (next (last v (way_after (round_value (restricted a choice)) next v i)))
      unfolding way restricted
      the-way-is-tight i less =
          let k = j - suc i in
          let s = way-stretches i (suc k) (left ∙ ap fin (omega arith)) in
          let inside = straight-ends (way i) s.0 in
          go (disturbance-is-tight r well (last v (way i)) (next (last v (way i))) (leading.goes (last v (way i)) k inside s.1).0) s.1 (leading.goes (last v (way i)) k inside s.1).1
        where
          go : {k : ℕ} → (last v (way i) ≡ next (last v (way i))) ⊎ ((b : Bool) × Tight r b (last v (way i)) (next (last v (way i))))
              → moves_left r (last v (way i)) ≡ fin (suc k) → moves_left r (next (last v (way i))) ≡ fin k → (b : Bool) × Tight r b (last v (way i)) (next (last v (way i)))
          go {k} (inl same) e f = let z = fin-injective (suc k) k (sym e ∙ ap (moves_left r) same ∙ f) in absurd (omega arith)
          go (inr t) e f = t

      pub the-way-has-moves : moves (way_after (round_value (restricted a choice)) next v j) ≡ j
      unfolding way
      the-way-has-moves = way-moves j

      pub the-way-ends-unsafe : T (unsafe a (last v (way_after (round_value (restricted a choice)) next v j)))
      unfolding way
      the-way-ends-unsafe = end-unsafe

      pub only-way : (u : Trail) → WayToRuin a (positional a choice legal) v u → u ≡ way_after (round_value (restricted a choice)) next v j
      unfolding way
      only-way u is-way = go (way-or-lower u is-way.play is-way.ends same-cost same-moves)
        where
          same-cost : cost a v u ≡ k
          same-cost =
              let x = least u is-way.play is-way.ends in
              let y = is-way.fewest-disturbances (way j) way-play (stands-unsafe a v (way j) end-unsafe) in
              omega (arith, way-costs)

          same-moves : moves u ≡ j
          same-moves =
              let x = is-way.fewest-moves (way j) way-play (stands-unsafe a v (way j) end-unsafe) (way-costs ∙ sym same-cost) in
              let y = ≼fin j (moves u) (rw left at (no-shorter v k l is u (play-goes v u is-way.play) is-way.ends (omega (arith, same-cost))).0) in
              omega (arith, way-moves j)

          go : (u ≡ way j) ⊎ Lower v (way j) u → u ≡ way j
          go (inl e) = e
          go (inr lower) = absurd (is-way.lowest (way j) way-play (stands-unsafe a v (way j) end-unsafe) (way-costs ∙ sym same-cost) (way-moves j ∙ sym same-moves) lower)

  -- Where the worth is a number, some count of moves below the size is left

  pub moves-are-left : (v k : ℕ) → v < size a → worth v ≡ fin k → (j : ℕ) × (moves_left (restricted a choice) v ≡ fin j) × (j < size a)
  unfolding restricted WorthIs
  moves-are-left v k l is =
      let w : WorthIs a (positional a choice legal) v (fin k) = subst (WorthIs a (positional a choice legal) v) is ((restricted-value-is-worth a choice wf legal v (worth v)).0 (rounds-give-the-values r well v l)) in
      let u = w.0.0 in
      let b = below-is-finite (moves_left r v) (moves u.trail) (no-shorter v k l is u.trail (play-goes v u.trail u.play) u.ends (omega (arith, w.0.1))).0 in
      (b.0, b.1, rw (tightened-size r well) at (round-value-within-size (tightened r) (tightened-is-well-formed r well) v b.0 b.1))
