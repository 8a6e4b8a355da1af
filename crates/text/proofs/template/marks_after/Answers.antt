-- `text::template::marks_after` meets its contract.
use borrow.Author.Tests.{eq-eqb, ne_eqb}
use Rattle.text.specs.Template.{marks_after}
use Rattle.text.proofs.template.marks_after.Goals as goal

pub returns-then-byte-eq64 : goal.returns-then-byte-eq64
unfolding marks_after
returns-then-byte-eq64 c = simp (eq-eqb _ _ c.if-byte-eq64.true)

pub returns : goal.returns
unfolding marks_after
returns c = simp (ne_eqb _ _ c.if-byte-eq64.false)
