-- `walk::file_numbers` meets its contract. The invariant: each slot has a position.
use Prim.Native.Nat.{◌≤◌, ◌-◌}
use mathlib.Core.Path.{◌≡◌}
use lib.ListN.{length}
use Rattle.walk.specs.Walked.{Numbers}
use Rattle.walk.proofs.file_numbers.Given as goal

abbrev pub invariant-loop-v : goal.invariant-loop-v
invariant-loop-v l = (l.v ≤ l.n) × Numbers l.numbers l.n × (length l.numbers ≡ length l.initial.numbers)
