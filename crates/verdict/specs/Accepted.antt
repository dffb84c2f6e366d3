-- "An accepted plate has the right values and an optimal controller, whoever made it. With right values and any optimal
-- positional controller, the steps above make a plate that is accepted."
use Rattle.std.specs.Prelude.{ℕ, ◌≡◌, Ok}
use Rattle.game.specs.Value.{Value}
use Rattle.game.specs.Arena.{Arena, WellFormed, size}
use Rattle.game.specs.Table.{round_step}
use Rattle.game.proofs.Certified.{certificate-is-legal, certificate-gives-values, certificate-gives-worths}
use Rattle.game.proofs.RoundValues.{optimal-choices-with-round-steps-have-a-certificate}
use Rattle.rows.specs.FirstLine.{FirstLineIs}
use Rattle.rows.specs.declared.FirstLine.{FirstLine}
use Rattle.verdict.specs.Verdict.{RightPlate, verdict_of}
use Rattle.verdict.specs.Exact.{sound-exactly}

module _ (a : Arena) (well : WellFormed a) (value choice step : ℕ → Value) (h : FirstLine) where
  pub accepted-is-right : verdict_of a value choice step h ≡ Ok tt → RightPlate a value choice
  accepted-is-right e =
      let certificate = ((sound-exactly a value choice step h).0 e).0 in
      let legal = certificate-is-legal a value choice step certificate in
      record {
        right = certificate-gives-values a well value choice step certificate;
        legal = legal;
        optimal = certificate-gives-worths a well value choice step certificate legal;
      }

  pub right-is-accepted : RightPlate a value choice → FirstLineIs (size a) value (round_step a) h → verdict_of a value choice (round_step a) h ≡ Ok tt
  right-is-accepted r is =
      (sound-exactly a value choice (round_step a) h).1
      (optimal-choices-with-round-steps-have-a-certificate a well value choice r.right r.legal r.optimal, is)
