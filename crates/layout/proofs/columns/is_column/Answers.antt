-- `columns::is_column` meets its contract. Assumes nothing.
use mathlib.Core.Path.{refl}
use borrow.Author.Tests.{lt-ltb, le-ltb, eq-eqb, ne_eqb}
use Rattle.layout.specs.Columns.{is_column}
use Rattle.layout.proofs.Firsts.{and_yes, and_no, at_most, above}
use Rattle.layout.proofs.columns.is_column.Goals as goal

pub returns-then-list-i : goal.returns-then-list-i
unfolding is_column
returns-then-list-i c = and_no _ _ (le-ltb _ _ c.if-list-i.true)

pub returns-then-list-i-2 : goal.returns-then-list-i-2
unfolding is_column
returns-then-list-i-2 c = and_yes _ _ (lt-ltb _ _ c.if-list-i.false) (and_no _ _ (le-ltb _ _ (at_most _ _ _ refl c.if-list-i-2.true)))

pub returns-then-list-i-3 : goal.returns-then-list-i-3
unfolding is_column
returns-then-list-i-3 c = and_yes _ _ (lt-ltb _ _ c.if-list-i.false) (and_yes _ _ (lt-ltb _ _ (above _ _ _ refl c.if-list-i-2.false)) (and_no _ _ (ne_eqb _ _ c.if-list-i-3.true)))

pub returns : goal.returns
unfolding is_column
returns c = and_yes _ _ (lt-ltb _ _ c.if-list-i.false) (and_yes _ _ (lt-ltb _ _ (above _ _ _ refl c.if-list-i-2.false)) (and_yes _ _ (eq-eqb _ _ c.if-list-i-3.false) refl))
