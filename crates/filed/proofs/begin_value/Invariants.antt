-- `begin_value` meets its contract: the invariant says that the first i positions of the list are placed.
use Prim.Native.Nat.{ℕ}
use Rattle.filed.specs.Values.{Gathered, Begun}
use Rattle.filed.proofs.begin_value.Given as goal

abbrev pub invariant-loop-i : goal.invariant-loop-i
invariant-loop-i l =
    (n : ℕ) → Gathered n l.initial.grown l.late l.initial.values l.initial.steps l.initial.order l.later → Begun n l.k l.i l.initial.grown l.initial.values l.initial.steps l.initial.order l.later l.grown l.values l.steps l.order
