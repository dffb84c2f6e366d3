-- `cases` is safe: each case ends where the next begins or before.
use Rattle.cases.specs.CaseLaws.{case-ordered}
use Rattle.jobs_test.proofs.cases.Goals as goal

pub show_case-requires : goal.show_case-requires
show_case-requires g c = rw c.case_at.ensures (case-ordered _ _)
