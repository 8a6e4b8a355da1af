-- `text::print::room` meets its contract.
use borrow.Author.Tests.{lt-ltb, le-ltb}
use Rattle.text.specs.Printed.{place}
use Rattle.text.proofs.print.room.Goals as goal

pub returns-then-at-lt4000 : goal.returns-then-at-lt4000
unfolding place
returns-then-at-lt4000 c = simp (lt-ltb _ _ c.if-at-lt4000.true)

pub returns : goal.returns
unfolding place
returns c = simp (le-ltb _ _ c.if-at-lt4000.false)
