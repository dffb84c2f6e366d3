-- Checking's answer over a plate's rows (document 01, "Checking"): the first fault, "positions from 0 up and in each the
-- conditions in order, as position and condition".
use Rattle.std.specs.Prelude.{ℕ, suc, ◌<◌, Bool, cond, ◌&&◌, eqb, ⊤, Result, Ok, Err}
use Rattle.verdict.specs.declared.FoundFault.{FoundFault}
use Rattle.search.specs.First.{first_from}
use Rattle.rows.specs.Numbers.{number_of}
use Rattle.rows.specs.FirstLine.{FirstLineIs}
use Rattle.game.specs.Value.{Value}
use Rattle.game.specs.Arena.{Arena, size}
use Rattle.game.specs.Play.{Legal, positional}
use Rattle.game.specs.Certificate.{Certificate, CertifiedAt}
use Rattle.game.specs.Fault.{fault_at}
use Rattle.game.specs.FirstFault.{FirstFault}
use Rattle.game.proofs.Optimal.{RightValues, WorthsAre}
use Rattle.game.specs.FirstLine.{pair_count, highest, ever_count}
use Rattle.rows.specs.declared.FirstLine.{FirstLine}

-- the fault at v under condition c
abbrev pub fault_of : ℕ → ℕ → FoundFault
fault_of v c = record { position = v; condition = c }

-- the first of n positions that has a fault, and which; `end` if none has
unfoldable pub first_fault : (ℕ → ℕ) → Result ⊤ FoundFault → ℕ → Result ⊤ FoundFault
first_fault fault end n = first_from (λ v. eqb (fault v) 0) (λ v. Err (fault_of v (fault v))) end n 0

-- "The first line's numbers are those of the plate's lines", which is `FirstLineIs`, as a test
unfoldable pub header_right : ℕ → (value step : ℕ → Value) → FirstLine → Bool
header_right n value step h =
    eqb h.rounds (pair_count value step n) && eqb h.highest (number_of (highest value n)) && eqb h.evers (ever_count value n)

-- 6, "answered with position n"
unfoldable pub header_verdict : ℕ → (value step : ℕ → Value) → FirstLine → Result ⊤ FoundFault
header_verdict n value step h = cond (header_right n value step h) (Ok tt) (Err (fault_of n 6))

-- the whole answer
unfoldable pub verdict_of : (a : Arena) (value choice step : ℕ → Value) → FirstLine → Result ⊤ FoundFault
verdict_of a value choice step h = first_fault (fault_at a value choice step) (header_verdict (size a) value step h) (size a)

-- The same as a statement: the first fault is at position v, of condition c, 1 to 5; or of condition 6, with position n
pub data FirstFaultIs (a : Arena) (value choice step : ℕ → Value) (h : FirstLine) : ℕ → ℕ → Type 0 where
  at_position : {v c : ℕ} → v < size a → ((u : ℕ) → u < v → CertifiedAt a value choice step u) → FirstFault a value choice step (suc c) v → FirstFaultIs a value choice step h v (suc c)
  at_header : Certificate a value choice step → (FirstLineIs (size a) value step h → ⊥) → FirstFaultIs a value choice step h (size a) 6

-- "the right values and an optimal controller": the choices are legal, and their controller is worth the values everywhere
pub record RightPlate (a : Arena) (value choice : ℕ → Value) : Type 0 where
  pub right : RightValues a value
  pub legal : Legal a choice
  pub optimal : WorthsAre a (positional a choice legal) value
