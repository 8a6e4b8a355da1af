-- `stacking::log_word` meets its contract. Assumes nothing.
use borrow.Author.Tests.{eq-eqb, ne_eqb}
use Rattle.layout.proofs.stacking.log_word.Goals as goal

pub returns-then-k-eq1 : goal.returns-then-k-eq1
returns-then-k-eq1 c = simp (eq-eqb _ _ c.if-k-eq1.true)

pub returns : goal.returns
returns c = simp (ne_eqb _ _ c.if-k-eq1.false)
