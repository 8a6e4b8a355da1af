-- `columns::is_oversized` meets its contract. Assumes nothing.
use mathlib.Core.Path.{refl}
use borrow.Author.Tests.{lt-ltb, le-ltb}
use Rattle.layout.specs.Columns.{oversized}
use Rattle.layout.proofs.Firsts.{or_no, or_yes}
use Rattle.layout.proofs.columns.is_oversized.Goals as goal

pub returns-then-width-gt4096 : goal.returns-then-width-gt4096
unfolding oversized
returns-then-width-gt4096 c = or_yes _ _ (lt-ltb _ _ c.if-width-gt4096.true)

pub returns : goal.returns
unfolding oversized
returns c = or_no _ _ (le-ltb _ _ c.if-width-gt4096.false) refl
