-- `columns::walk_first` meets its contract. Assumes nothing.
use mathlib.Core.Path.{sym, ◌∙◌}
use native.Mathlib.Omega.{arith}
use Rattle.layout.proofs.Walks.{inside-sum, first_outside, first_sought}
use Rattle.layout.proofs.columns.walk_first.Goals as goal

pub returns-then-is_outside : goal.returns-then-is_outside
returns-then-is_outside c = c.end_mark.ensures ∙ first_outside _ _ _ _ (sym c.is_outside.ensures ∙ c.if-is_outside.true)

pub seek-requires : goal.seek-requires
seek-requires c = let a = inside-sum _ _ _ (sym c.is_outside.ensures ∙ c.if-is_outside.false) in (a.1, a.2, omega arith, omega arith)

pub returns : goal.returns
returns c = first_sought _ _ _ _ _ (sym c.is_outside.ensures ∙ c.if-is_outside.false) c.seek.ensures
