use borrow.Author.Tests.{le-leb, lt-leb}
use Rattle.layout.proofs.refusals.kept.Goals as goal

pub returns-then-first-i : goal.returns-then-first-i
returns-then-first-i c = simp (le-leb _ _ c.if-first-i.true)

pub returns : goal.returns
returns c = simp (lt-leb _ _ c.if-first-i.false)
