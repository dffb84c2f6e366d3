-- `case_at` meets its contract: each place is the one before it, so many bytes further on.
use Rattle.std.proofs.Common.{◌∙◌, refl, arith}
use Rattle.cases.specs.Cases.{end_at, first_at, second_at, third_at, whole_case}
use Rattle.cases.specs.CaseLaws.{after-fits, no-case, whole-case}
use Rattle.cases.proofs.case_at.Goals as goal

pub returns-then-size-lt21 : goal.returns-then-size-lt21
returns-then-size-lt21 c = c.ended.ensures ∙ no-case _ _ (omega arith)

pub returns-then-size-at : goal.returns-then-size-at
returns-then-size-at c = c.ended-then-size-at.ensures ∙ no-case _ _ (omega arith)

pub after-second-requires : goal.after-second-requires
after-second-requires c = after-fits _ c.after-first.ensures (omega arith)

pub after-third-requires : goal.after-third-requires
after-third-requires c = after-fits _ c.after-second.ensures (after-fits _ c.after-first.ensures (omega arith))

pub after-end-requires : goal.after-end-requires
after-end-requires c = after-fits _ c.after-third.ensures (after-fits _ c.after-second.ensures (after-fits _ c.after-first.ensures (omega arith)))

pub returns : goal.returns
unfolding whole_case first_at second_at third_at end_at
returns c =
    simp (
      c.after-end.ensures,
      c.length-4.ensures,
      c.read-4.ensures,
      c.after-third.ensures,
      c.length-3.ensures,
      c.read-3.ensures,
      c.after-second.ensures,
      c.length-2.ensures,
      c.read-2.ensures,
      c.after-first.ensures,
      c.length.ensures,
      c.read.ensures,
    ) refl ∙ whole-case _ _ (omega arith)
