-- What the rounds' certificate gives: the rounds' values are right, their choices' controller has them as its worths,
-- and with right values and any optimal positional controller the rounds' steps make a certificate too. So there is a value
-- at every position, which is the greatest worth, and a finite one is below n.
use Rattle.std.specs.Prelude.{ℕ, ◌<◌, ◌≡◌, refl, ◌↔◌}
use Rattle.std.proofs.Common.{sym}
use Rattle.game.specs.Value.{Value, fin}
use Rattle.game.specs.Arena.{Arena, WellFormed, size}
use Rattle.game.specs.Play.{Legal, positional}
use Rattle.game.specs.Worth.{WorthIs, IsValue, Greatest}
use Rattle.game.specs.Certificate.{Certificate}
use Rattle.game.specs.Table.{round_value, round_step}
use Rattle.game.specs.Best.{best_at}
use Rattle.game.proofs.Certified.{certificate-gives-values, certificate-gives-worths}
use Rattle.game.proofs.Unique.{value-is-unique, value-is-greatest, greatest-is-value}
use Rattle.game.proofs.Optimal.{RightValues, WorthsAre, optimal-choices-have-certificate}
use Rattle.game.proofs.RoundBounds.{round-value-within-size}
use Rattle.game.proofs.BestLaws.{best-is-legal}
use Rattle.game.proofs.RoundCertificate.{rounds-have-a-certificate}

module _ (a : Arena) (wf : WellFormed a) where
  pub rounds-give-the-values : (v : ℕ) → v < size a → IsValue a v (round_value a v)
  rounds-give-the-values = certificate-gives-values a wf (round_value a) (best_at a (round_value a)) (round_step a) (rounds-have-a-certificate a wf)

  pub the-value-is-the-rounds : (v : ℕ) (x : Value) → v < size a → IsValue a v x → x ≡ round_value a v
  the-value-is-the-rounds v x h i = value-is-unique a v x (round_value a v) i (rounds-give-the-values v h)

  -- "The value is the greatest worth any controller has there"
  pub value-exactly-when-greatest : (v : ℕ) → v < size a → (x : Value) → IsValue a v x ↔ Greatest a v x
  value-exactly-when-greatest v h x = (value-is-greatest a v x, greatest-is-value a v x (round_value a v, rounds-give-the-values v h))

  -- "A finite value is at most n−1."
  pub finite-value-within-size : (v k : ℕ) → v < size a → IsValue a v (fin k) → k < size a
  finite-value-within-size v k h i = round-value-within-size a wf v k (sym (the-value-is-the-rounds v (fin k) h i))

  pub round-choices-are-worth-the-values : (v : ℕ) → v < size a → WorthIs a (positional a (best_at a (round_value a)) (best-is-legal a (round_value a) wf)) v (round_value a v)
  round-choices-are-worth-the-values =
      certificate-gives-worths a wf (round_value a) (best_at a (round_value a)) (round_step a) (rounds-have-a-certificate a wf) (best-is-legal a (round_value a) wf)

  -- "With right values and any optimal positional controller, the steps above make a plate that is accepted."
  pub optimal-choices-with-round-steps-have-a-certificate :
      (value choice : ℕ → Value) → RightValues a value → (legal : Legal a choice) → WorthsAre a (positional a choice legal) value
      → Certificate a value choice (round_step a)
  optimal-choices-with-round-steps-have-a-certificate value choice right legal worths =
      optimal-choices-have-certificate a wf (round_value a) (best_at a (round_value a)) (round_step a) value choice (round_step a)
      (rounds-have-a-certificate a wf) right (λ v h. refl) legal worths
