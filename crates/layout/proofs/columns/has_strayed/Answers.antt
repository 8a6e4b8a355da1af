-- `columns::has_strayed` meets its contract. Assumes nothing.
use mathlib.Core.Path.{refl, sym, ap, ◌∙◌}
use mathlib.Core.Bool.{not}
use native.Mathlib.Omega.{arith}
use borrow.Author.Tests.{not-false}
use Rattle.layout.specs.Columns.{strays}
use Rattle.layout.proofs.Firsts.{or_no, or_yes}
use Rattle.layout.proofs.Walks.{inside-sum, stands}
use Rattle.layout.proofs.columns.has_strayed.Goals as goal

pub returns-then-is_outside : goal.returns-then-is_outside
unfolding strays
returns-then-is_outside c = or_yes _ _ (sym c.is_outside.ensures ∙ c.if-is_outside.true)

pub returns-then-not-is_column : goal.returns-then-not-is_column
unfolding strays
returns-then-not-is_column c = or_no _ _ (sym c.is_outside.ensures ∙ c.if-is_outside.false) (or_yes _ _ (ap not (sym c.is_column.ensures) ∙ (ap not c.if-not-is_column.true)))

pub overflow_mul-i : goal.overflow_mul-i
overflow_mul-i c = omega (arith, (stands _ _ (not-false _ (ap not (sym c.is_column.ensures) ∙ (ap not c.if-not-is_column.false)))).there)

pub offset_bounds-list-i : goal.offset_bounds-list-i
offset_bounds-list-i c = omega (arith, (stands _ _ (not-false _ (ap not (sym c.is_column.ensures) ∙ (ap not c.if-not-is_column.false)))).there)

pub bounds-list-i : goal.bounds-list-i
bounds-list-i c = omega (arith, (stands _ _ (not-false _ (ap not (sym c.is_column.ensures) ∙ (ap not c.if-not-is_column.false)))).there)

pub is_oversized-requires : goal.is_oversized-requires
is_oversized-requires c = (inside-sum _ _ _ (sym c.is_outside.ensures ∙ c.if-is_outside.false)).1

pub returns-then-is_oversized : goal.returns-then-is_oversized
unfolding strays
returns-then-is_oversized c = or_no _ _ (sym c.is_outside.ensures ∙ c.if-is_outside.false) (or_no _ _ (ap not (sym c.is_column.ensures) ∙ (ap not c.if-not-is_column.false)) (or_yes _ _ (sym c.is_oversized.ensures ∙ c.if-is_oversized.true)))

pub returns : goal.returns
unfolding strays
returns c = or_no _ _ (sym c.is_outside.ensures ∙ c.if-is_outside.false) (or_no _ _ (ap not (sym c.is_column.ensures) ∙ (ap not c.if-not-is_column.false)) (or_no _ _ (sym c.is_oversized.ensures ∙ c.if-is_oversized.false) refl))
