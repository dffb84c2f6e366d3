-- `field::read` meets its contract: spaces before the first digit change nothing (`space`), and from that digit on `field_of` is what
-- `leading` and `digits` answer (`lead`, `last`).
use mathlib.Core.Path.{sym, ◌∙◌}
use borrow.Author.Tests.{ne_eqb}
use Rattle.field.specs.Text.{field_at, five}
use Rattle.field.specs.Reader.{zero-adds, space, blank, lead, last}
use Rattle.field.proofs.read.Goals as goal

pub returns-then-a-ne32 : goal.returns-then-a-ne32
unfolding field_at five
returns-then-a-ne32 c = rw (c.leading.ensures, c.digits.ensures) (sym (lead _ _ _ (ne_eqb _ _ c.if-a-ne32.true)))

pub returns-then-b-ne32 : goal.returns-then-b-ne32
unfolding field_at five
returns-then-b-ne32 c = rw (c.leading-then-b-ne32.ensures, simp zero-adds at c.digits-then-b-ne32.ensures) (sym (space _ _ c.if-a-ne32.false ∙ lead _ _ _ (ne_eqb _ _ c.if-b-ne32.true)))

pub returns-then-c-ne32 : goal.returns-then-c-ne32
unfolding field_at five
returns-then-c-ne32 c = rw (c.leading-then-c-ne32.ensures, simp zero-adds at c.digits-then-c-ne32.ensures) (sym (space _ _ c.if-a-ne32.false ∙ space _ _ c.if-b-ne32.false ∙ lead _ _ _ (ne_eqb _ _ c.if-c-ne32.true)))

pub returns-then-d-ne32 : goal.returns-then-d-ne32
unfolding field_at five
returns-then-d-ne32 c = rw (c.leading-then-d-ne32.ensures, simp zero-adds at c.digits-then-d-ne32.ensures) (sym (space _ _ c.if-a-ne32.false ∙ space _ _ c.if-b-ne32.false ∙ space _ _ c.if-c-ne32.false ∙ lead _ _ _ (ne_eqb _ _ c.if-d-ne32.true)))

pub returns-then-e-ne32 : goal.returns-then-e-ne32
unfolding field_at five
returns-then-e-ne32 c = rw (simp zero-adds at c.digits-then-e-ne32.ensures) (sym (space _ _ c.if-a-ne32.false ∙ space _ _ c.if-b-ne32.false ∙ space _ _ c.if-c-ne32.false ∙ space _ _ c.if-d-ne32.false ∙ last _ (ne_eqb _ _ c.if-e-ne32.true)))

pub returns : goal.returns
unfolding field_at five
returns c = sym (space _ _ c.if-a-ne32.false ∙ space _ _ c.if-b-ne32.false ∙ space _ _ c.if-c-ne32.false ∙ space _ _ c.if-d-ne32.false ∙ space _ _ c.if-e-ne32.false ∙ blank)
