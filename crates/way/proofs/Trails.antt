-- Where trails stand after each move: what a move more adds, and that of two trails only one can be lower at the first difference.
use Rattle.std.specs.Prelude.{ℕ, suc, ◌≤◌, ◌<◌, ◌≡◌, refl, Bool, true, false, cond}
use Rattle.std.proofs.Common.{arith, sym, subst, ◌∙◌, le-leb}
use Rattle.std.proofs.Math.Decide.{dec_le}
use Rattle.std.proofs.lemmas.Bool.{lt-leb}
use Rattle.game.specs.Value.{Value, value_eq}
use Rattle.game.specs.Play.{Trail, still, meant, disturbed, last}
use Rattle.way.specs.Way.{moves, stands_after, Lower}
use Rattle.way.specs.Tight.{onward}

module _ (v : ℕ) (t : Trail) (w : ℕ) where
  abbrev pub Continues : Trail → Type 0
  Continues u = (moves u ≡ suc (moves t)) × ((i : ℕ) → i ≤ moves t → stands_after v u i ≡ stands_after v t i) × (stands_after v u (suc (moves t)) ≡ w)

  pub meant-continues : Continues (meant t w)
  unfolding moves stands_after
  meant-continues = (refl, λ i l. rw (le-leb i (moves t) l), rw (lt-leb (suc (moves t)) (moves t) (omega arith)))

  pub disturbed-continues : Continues (disturbed t w)
  unfolding moves stands_after
  disturbed-continues = (refl, λ i l. rw (le-leb i (moves t) l), rw (lt-leb (suc (moves t)) (moves t) (omega arith)))

pub continues : (b : Bool) (v : ℕ) (t : Trail) (w : ℕ) → Continues v t w (cond b (disturbed t w) (meant t w))
continues true v t w = disturbed-continues v t w
continues false v t w = meant-continues v t w

pub onward-continues : (value : ℕ → Value) (v : ℕ) (t : Trail) (u w : ℕ) → Continues v t w (onward value t u w)
unfolding onward
onward-continues value v t u w = go (value_eq (value u) (value w))
  where
    go : (b : Bool) → Continues v t w (cond b (meant t w) (disturbed t w))
    go true = meant-continues v t w
    go false = disturbed-continues v t w

-- after all its moves a trail stands where it ends
pub stands-last : (v : ℕ) (t : Trail) → stands_after v t (moves t) ≡ last v t
unfolding stands_after moves last
stands-last v still = refl
stands-last v (meant t w) = (meant-continues v t w).2
stands-last v (disturbed t w) = (disturbed-continues v t w).2

-- a trail isn't lower than one that is lower than it
pub lower-one-way : (v : ℕ) (t u : Trail) → Lower v t u → Lower v u t → ⊥
lower-one-way v t u p q = go (dec_le p.place q.place) (dec_le q.place p.place)
  where
    go : Dec (p.place ≤ q.place) → Dec (q.place ≤ p.place) → ⊥
    go (yes l) (yes m) =
        let e : p.place ≡ q.place = omega arith in
        let x = p.lower in
        let y = subst (λ (i : ℕ). stands_after v u i < stands_after v t i) (sym e) q.lower in
        omega arith
    go (yes l) (no m) = let e = q.same-before p.place (omega arith) in let x = p.lower in omega arith
    go (no l) m = let e = p.same-before q.place (omega arith) in let x = q.lower in omega arith

-- two trails of as many moves, the first lower: so it stays, whatever comes after
pub lower-stays : (v : ℕ) (t u t' u' : Trail) (x y : ℕ) → Continues v t x t' → Continues v u y u' → moves t ≡ moves u → Lower v t u → Lower v t' u'
lower-stays v t u t' u' x y p q e h =
    let l = h.within in
    record {
      place = h.place;
      within = omega (arith, p.0);
      same-before = λ i k. p.1 i (omega arith) ∙ h.same-before i k ∙ sym (q.1 i (omega arith));
      lower = rw (p.1 h.place l, q.1 h.place (omega arith)) h.lower;
    }

-- the same trail, then a lower position
pub lower-begins : (v : ℕ) (t t' u' : Trail) (x y : ℕ) → Continues v t x t' → Continues v t y u' → x < y → Lower v t' u'
lower-begins v t t' u' x y p q l =
    record {
      place = suc (moves t);
      within = omega (arith, p.0);
      same-before = λ i k. p.1 i (omega arith) ∙ sym (q.1 i (omega arith));
      lower = rw (p.2, q.2) l;
    }
