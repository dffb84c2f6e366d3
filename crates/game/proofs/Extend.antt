-- Every finite play of a controller in a well-formed arena, and every trail with stays, is a prefix of an unending one that is consistent
-- with it and has no further disturbance. The unending play is given by the trails that it passes; those up to the finite one
-- are its own prefixes, and from there on some move of the controller or of the environment, or a stay, is added, again and again.
use Prim.Native.Nat.{ℕ, zero, suc, ◌+◌, ◌≤◌, ◌<◌}
use native.Mathlib.Omega.{arith}
use Rattle.std.proofs.Common.{zero-add, add-zero, add-suc, le_trans, le_of_eq, subst, ◌∙◌}
use Rattle.std.specs.Prelude.{◌≡◌, ◌⊎◌, Bool, true, false, cond, T}
use Rattle.std.proofs.Math.Path.{refl, sym, ap}
use Rattle.game.specs.Arena.{Arena, Owner, controller, environment, nobody, size, owner_at, unsafe, Disturbance, has_meant, WellFormed}
use Rattle.game.specs.Play.{Trail, still, meant, disturbed, last, cost, Controller, Unsafe}
use Rattle.game.specs.Journal.{Onward, Edge, Unending, prefix, Consistent}
use Rattle.game.proofs.PlayLaws.{environment-is-not-controller, nobody-is-not-controller}
use Rattle.game.proofs.Ways.{Way, way-starts-inside, way-stays-inside}

-- the trail after one more move, a disturbance where the bit says so
abbrev pub moved : Bool → Trail → ℕ → Trail
moved b t w = cond b (disturbed t w) (meant t w)

-- An unending play that extends the trail t of the controller, with no further disturbance.
pub record Extension (a : Arena) (σ : Controller a) (v : ℕ) (t : Trail) : Type 0 where
  pub play : Unending a v
  pub consistent : Consistent σ play
  pub length : ℕ
  pub extends : prefix play length ≡ t
  pub no_more : (j : ℕ) → cost a v (prefix play j) ≤ cost a v t

pub moved-last : (v : ℕ) (b : Bool) (t : Trail) (w : ℕ) → last v (moved b t w) ≡ w
unfolding last
moved-last v true t w = refl
moved-last v false t w = refl

moved-costs : (a : Arena) (v : ℕ) (b : Bool) (t : Trail) (w : ℕ) → cost a v t ≤ cost a v (moved b t w)
unfolding cost
moved-costs a v true t w = omega arith
moved-costs a v false t w = omega arith

pub moved-unsafe : (a : Arena) (v : ℕ) (b : Bool) (t : Trail) (w : ℕ) → Unsafe a v (moved b t w) → Unsafe a v t ⊎ T (unsafe a w)
unfolding Unsafe
moved-unsafe a v true t w u = u
moved-unsafe a v false t w u = u

pub moved-way :
    (a : Arena) (σ : Controller a) (v : ℕ) (b : Bool) (t : Trail) (w : ℕ)
    → Way a σ v t
    → Edge b a (last v t) w
    → (b ≡ false → owner_at a (last v t) ≡ controller → w ≡ σ.pick v t)
    → Way a σ v (moved b t w)
unfolding Way
moved-way a σ v true t w p edge picked = (p, edge)
moved-way a σ v false t w p edge picked = (p, edge, picked refl)

module _ (a : Arena) (σ : Controller a) (v : ℕ) where
  -- one move of an unending play of the controller leads from the trail t to the trail t'
  record Next (t t' : Trail) : Type 0 where
    bit : Bool
    target : ℕ
    trail : t' ≡ moved bit t target
    edge : Edge bit a (last v t) target
    picked : bit ≡ false → owner_at a (last v t) ≡ controller → target ≡ σ.pick v t

  next-of-meant : (t t' : Trail) (w : ℕ) → t' ≡ meant t w → Edge false a (last v t) w → (owner_at a (last v t) ≡ controller → w ≡ σ.pick v t) → Next t t'
  next-of-meant t t' w e edge picked = record { bit = false; target = w; trail = e; edge = edge; picked = λ bit. picked }

  next-of-disturbed : (t t' : Trail) (w : ℕ) → t' ≡ disturbed t w → Disturbance a (last v t) w → Next t t'
  next-of-disturbed t t' w e d = record { bit = true; target = w; trail = e; edge = d; picked = λ bit own. absurd (subst T bit tt) }

  -- the trails that an unending play of the controller from v passes
  record Passing : Type 0 where
    at : ℕ → Trail
    starts : at 0 ≡ still
    next : (j : ℕ) → Next (at j) (at (suc j))

  module _ (passing : Passing) (inside : v < size a) where
    target-reached : (j : ℕ) → last v (passing.at (suc j)) ≡ (passing.next j).target
    target-reached j =
        let n = passing.next j in
        ap (last v) n.trail ∙ moved-last v n.bit (passing.at j) n.target

    unending : Unending a v
    unfolding last
    unending =
        record {
          position = λ j. last v (passing.at j);
          bit = λ j. (passing.next j).bit;
          starts = ap (last v) passing.starts;
          inside = inside;
          edge = λ j. rw (target-reached j) (passing.next j).edge;
        }

    prefix-passes : (j : ℕ) → prefix unending j ≡ passing.at j
    unfolding prefix unending
    prefix-passes zero = sym passing.starts
    prefix-passes (suc j) = rw (prefix-passes j, target-reached j) (sym (passing.next j).trail)

    unending-is-consistent : Consistent σ unending
    unfolding unending
    unending-is-consistent j own bit = rw (prefix-passes j, target-reached j) ((passing.next j).picked bit own)

    costs-more : (j k : ℕ) → cost a v (passing.at j) ≤ cost a v (passing.at (j + k))
    costs-more j zero = rw (add-zero j) (omega arith)
    costs-more j (suc k) =
        let n = passing.next (j + k) in
        rw (add-suc j k, n.trail) (le_trans (costs-more j k) (moved-costs a v n.bit (passing.at (j + k)) n.target))

  -- the trails f 0, f 1, .. are those that an unending play passes after its first moves, `length` of them
  record From (f : ℕ → Trail) : Type 0 where
    passing : Passing
    length : ℕ
    agrees : (j : ℕ) → passing.at (j + length) ≡ f j

  -- a sequence with one trail put before it
  before : Trail → (ℕ → Trail) → ℕ → Trail
  before t f zero = t
  before t f (suc j) = f j

  before-next :
      (t : Trail) (f : ℕ → Trail)
      → Next t (f 0)
      → ((j : ℕ) → Next (f j) (f (suc j)))
      → (j : ℕ) → Next (before t f j) (before t f (suc j))
  unfolding before
  before-next t f first next zero = first
  before-next t f first next (suc j) = next j

  from-before : (t : Trail) (f : ℕ → Trail) → From (before t f) → From f
  unfolding before
  from-before t f r =
      record {
        passing = r.passing;
        length = suc r.length;
        agrees = λ j. ap r.passing.at (shift j r.length) ∙ r.agrees (suc j);
      }
    where
      shift : (j n : ℕ) → j + suc n ≡ suc j + n
      shift j n = omega arith

  -- a sequence of trails that begins at such a trail is reached from the start, by its own prefixes
  reached : (t : Trail) → Way a σ v t → (f : ℕ → Trail) → f 0 ≡ t → ((j : ℕ) → Next (f j) (f (suc j))) → From f
  unfolding Way before
  reached still p f e next = record { passing = record { at = f; starts = e; next = next }; length = 0; agrees = λ j. ap f (add-zero j) }
  reached (meant t w) p f e next =
      from-before t f (reached t p.0 (before t f) refl (before-next t f (next-of-meant t (f 0) w e p.1 p.2) next))
  reached (disturbed t w) p f e next =
      from-before t f (reached t p.0 (before t f) refl (before-next t f (next-of-disturbed t (f 0) w e p.1) next))

  module _ (wf : WellFormed a) where
    -- some move that is no disturbance follows every trail
    some-move : (t : Trail) → Way a σ v t → (w : ℕ) × Edge false a (last v t) w × (owner_at a (last v t) ≡ controller → w ≡ σ.pick v t)
    some-move t p = go (owner_at a (last v t)) refl
      where
        go : (o : Owner) → owner_at a (last v t) ≡ o → (w : ℕ) × Onward o a (last v t) w × (o ≡ controller → w ≡ σ.pick v t)
        go controller own = (σ.pick v t, σ.legal v t own, λ _. refl)
        go environment own =
            let m = wf.meant (last v t) (way-stays-inside a σ v wf t p) (subst (λ (o : Owner). T (has_meant o)) (sym own) tt) in
            (m.0, m.1, λ c. absurd (environment-is-not-controller c))
        go nobody own = (last v t, refl, λ c. absurd (nobody-is-not-controller c))

    -- the trails that follow, such a move longer each
    onward : (t : Trail) → Way a σ v t → ℕ → (t' : Trail) × Way a σ v t'
    unfolding Way
    onward t p zero = (t, p)
    onward t p (suc j) =
        let (t', p') = onward t p j in
        let m = some-move t' p' in
        (meant t' m.0, (p', m.1, m.2))

    onward-next : (t : Trail) (p : Way a σ v t) (j : ℕ) → Next (onward t p j).0 (onward t p (suc j)).0
    unfolding onward
    onward-next t p j =
        let (t', p') = onward t p j in
        let m = some-move t' p' in
        next-of-meant t' (meant t' m.0) m.0 refl m.1 m.2

    onward-cost : (t : Trail) (p : Way a σ v t) (j : ℕ) → cost a v (onward t p j).0 ≡ cost a v t
    unfolding onward cost
    onward-cost t p zero = refl
    onward-cost t p (suc j) = onward-cost t p j

    pub way-can-be-extended : (t : Trail) → Way a σ v t → Extension a σ v t
    unfolding onward
    way-can-be-extended t p =
        let f : ℕ → Trail = λ j. (onward t p j).0 in
        let r = reached t p f refl (onward-next t p) in
        let inside = way-starts-inside a σ v t p in
        let n = r.length in
        let same-cost : (j : ℕ) → cost a v (r.passing.at (j + n)) ≡ cost a v t = λ j. ap (cost a v) (r.agrees j) ∙ onward-cost t p j in
        record {
          play = unending r.passing inside;
          consistent = unending-is-consistent r.passing inside;
          length = n;
          extends = prefix-passes r.passing inside n ∙ ap r.passing.at (sym (zero-add n)) ∙ r.agrees 0;
          no_more = λ j. rw (prefix-passes r.passing inside j) (le_trans (costs-more r.passing inside j n) (le_of_eq (same-cost j)));
        }
