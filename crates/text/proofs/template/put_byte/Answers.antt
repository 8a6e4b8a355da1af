-- `text::template::put_byte` meets its contract.
use borrow.Author.Tests.{eq-eqb, ne_eqb}
use Rattle.text.specs.Template.{stands_for}
use Rattle.text.proofs.template.put_byte.Goals as goal

pub returns-then-byte-eq64 : goal.returns-then-byte-eq64
unfolding stands_for
returns-then-byte-eq64 c = simp (eq-eqb _ _ c.if-byte-eq64.true) c.append_decimal.ensures

pub returns : goal.returns
unfolding stands_for
returns c = simp (ne_eqb _ _ c.if-byte-eq64.false) c.append.ensures
