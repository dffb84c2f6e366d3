-- `solve_rounds` meets its contract: the invariant says that the rounds of all values up to `last` were carried out.
use Rattle.solver.specs.Solving.{Solving}
use Rattle.visits.specs.Standing.{Setting, AsLong, Ready}
use Rattle.filed.proofs.solve_rounds.Given as goal

abbrev pub invariant-loop-last : goal.invariant-loop-last
invariant-loop-last l =
    AsLong l.initial.needs l.initial.values l.initial.steps l.initial.order l.initial.due l.initial.later l.needs l.values l.steps l.order l.due l.later
    × ((g : Setting l.n l.starts l.entries) → Solving l.n g.m g.owners l.marks g.costs g.froms g.tos 0 l.initial.values l.initial.steps l.initial.values l.initial.steps
    → Ready g 0 l.initial.lists.tail l.initial.lists l.initial.needs l.initial.values l.initial.steps l.initial.order l.initial.due l.initial.later
    → Solving l.n g.m g.owners l.marks g.costs g.froms g.tos l.last l.initial.values l.initial.steps l.values l.steps × Ready g l.last l.lists.tail l.lists l.needs l.values l.steps l.order l.due l.later)
