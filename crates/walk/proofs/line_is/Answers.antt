-- `walk::line_is` meets its contract: where each of the three tests passes, the text has the word expected there.
use Prim.Native.Nat.{ℕ, ◌+◌}
use mathlib.Core.Path.{subst}
use borrow.Author.Tests.{eqb-true}
use Rattle.spelling.specs.Words.{WordIs}
use Rattle.walk.specs.WalkLaws.{stopped}
use Rattle.walk.proofs.line_is.Goals as goal

pub returns-then-word-opening : goal.returns-then-word-opening
returns-then-word-opening c = stopped

pub returns-then-word-middle : goal.returns-then-word-middle
returns-then-word-middle c = stopped

pub returns : goal.returns
returns c = λ e.
    let a = c.args in
    record {
      opens = subst (λ (k : ℕ). WordIs a.text.now a.at k) c.if-word-opening.false c.word.ensures;
      goes_on = subst (λ (k : ℕ). WordIs a.text.now (a.at + 4) k) c.if-word-middle.false c.word-2.ensures;
      closes = subst (λ (k : ℕ). WordIs a.text.now (a.at + 8) k) (eqb-true c.word-3.result a.closing e) c.word-3.ensures;
    }
