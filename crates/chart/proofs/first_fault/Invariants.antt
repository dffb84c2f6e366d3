-- `chart::first_fault` meets its contract. The invariant: the columns of the line before are at hand, and the first fault of what is
-- left is the first fault of all. A clean line leaves that as it is, a fault ends it, and with nothing left there is none: the
-- three laws of `first_from`.
use Prim.Native.Nat.{ℕ, ◌+◌, ◌-◌, ◌≤◌, ◌<◌}
use mathlib.Core.Path.{◌≡◌}
use Rattle.chart.specs.Examined.{first_fault, line_finding, meant_in}
use Rattle.chart.specs.Columns.{row_at}
use mathlib.Core.Bool.{cond}
use lib.ListN.{length, get_or}
use Rattle.chart.proofs.first_fault.Given as goal

abbrev pub invariant-loop-line : goal.invariant-loop-line
invariant-loop-line l = (1 ≤ l.line) × (l.line ≤ l.last + 1) × (l.before ≡ row_at l.text (l.line - 1)) × (first_fault (line_finding l.text l.n) (l.last + 1 - l.line) l.line ≡ first_fault (line_finding l.text l.n) l.last 1) × (length l.flags ≡ length l.initial.flags) × ((v : ℕ) → v < length l.initial.flags → get_or l.flags v 0 ≡ cond (meant_in l.text l.n (l.line - 1 - l.n) v) 1 (get_or l.initial.flags v 0))
