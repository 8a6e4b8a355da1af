-- `plan_text::ending_of` meets its contract.
use borrow.Author.Tests.{eq-eqb, ne_eqb}
use Rattle.plan_text.specs.Steps.{ending}
use Rattle.plan_text.proofs.ending_of.Goals as goal

pub returns-then-count-eq1 : goal.returns-then-count-eq1
unfolding ending
returns-then-count-eq1 c = simp (eq-eqb _ _ c.if-count-eq1.true)

pub returns : goal.returns
unfolding ending
returns c = simp (ne_eqb _ _ c.if-count-eq1.false)
