-- worths and values are unique, and "some controller stays safe .. and against each controller .." (`IsValue`) says the
-- same as "the greatest worth any controller has there" (`Greatest`). All from the order of the bounds. One controller for
-- all positions at once attains every value: `certificate-gives-worths` of Certified.
use Rattle.std.specs.Prelude.{ℕ, ◌≡◌}
use Rattle.std.proofs.Common.{subst}
use Rattle.game.specs.Value.{Value, ◌≼◌}
use Rattle.game.specs.Arena.{Arena}
use Rattle.game.specs.Play.{Controller}
use Rattle.game.specs.Worth.{WorthIs, IsValue, Greatest}
use Rattle.game.proofs.ValueLaws.{≼antisym}
use Rattle.game.proofs.Bounds.{bounds-in-order, worth-is-both-bounds, value-is-bounds}

module _ (a : Arena) (v : ℕ) where
  pub worth-is-unique : (σ : Controller a) (x y : Value) → WorthIs a σ v x → WorthIs a σ v y → x ≡ y
  worth-is-unique σ x y p q = ≼antisym x y (at_most x y p q) (at_most y x q p)
    where
      at_most : (x y : Value) → WorthIs a σ v x → WorthIs a σ v y → x ≼ y
      at_most x y p q = bounds-in-order a σ v x y ((worth-is-both-bounds a σ v x).0 p).0 ((worth-is-both-bounds a σ v y).0 q).1

  pub value-is-unique : (x y : Value) → IsValue a v x → IsValue a v y → x ≡ y
  value-is-unique x y p q = ≼antisym x y (at_most x y p q) (at_most y x q p)
    where
      at_most : (x y : Value) → IsValue a v x → IsValue a v y → x ≼ y
      at_most x y p q =
          let low = ((value-is-bounds a v x).0 p).0 in
          bounds-in-order a low.0 v x y low.1 (((value-is-bounds a v y).0 q).1 low.0)

  -- no controller is worth more than the value
  pub worth-at-most-value : (σ : Controller a) (x y : Value) → IsValue a v x → WorthIs a σ v y → y ≼ x
  worth-at-most-value σ x y p q = bounds-in-order a σ v y x ((worth-is-both-bounds a σ v y).0 q).0 (((value-is-bounds a v x).0 p).1 σ)

  pub value-is-greatest : (x : Value) → IsValue a v x → Greatest a v x
  value-is-greatest x p =
      let b = (value-is-bounds a v x).0 p in
      let σ = b.0.0 in
      record {
        best = σ;
        attained = (worth-is-both-bounds a σ v x).1 (b.0.1, b.1 σ);
        greatest = λ τ y q. worth-at-most-value τ x y p q;
      }

  pub greatest-is-unique : (x y : Value) → Greatest a v x → Greatest a v y → x ≡ y
  greatest-is-unique x y p q = ≼antisym x y (q.greatest p.best x p.attained) (p.greatest q.best y q.attained)

  -- the other way where there is a value at all, as there is in every well-formed arena: `value-exactly-when-greatest` of RoundValues
  pub greatest-is-value : (x : Value) → ((y : Value) × IsValue a v y) → Greatest a v x → IsValue a v x
  greatest-is-value x (y, q) g = subst (λ (z : Value). IsValue a v z) (greatest-is-unique y x (value-is-greatest y q) g) q
