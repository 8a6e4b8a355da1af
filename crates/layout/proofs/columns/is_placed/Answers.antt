-- `columns::is_placed` meets its contract. Assumes nothing.
use mathlib.Core.Path.{◌≡◌, sym, ap, ◌∙◌}
use mathlib.Core.Bool.{true, not}
use native.Mathlib.Omega.{arith}
use borrow.Author.Tests.{not-false, not-true}
use Rattle.layout.specs.Columns.{is_column}
use Rattle.layout.proofs.Walks.{stands}
use Rattle.layout.proofs.Nexts.{placed_none, offset_small, end_small, placed_is}
use Rattle.layout.proofs.columns.is_placed.Goals.{Else-not-is_column}
use Rattle.layout.proofs.columns.is_placed.Goals as goal

at : (c : Else-not-is_column) → is_column c.args.list.now c.args.c ≡ true
at c = not-false _ (ap not (sym c.is_column.ensures) ∙ (ap not c.if-not-is_column.false))

pub returns-then-not-is_column : goal.returns-then-not-is_column
returns-then-not-is_column c = placed_none _ _ _ _ _ (not-true _ (ap not (sym c.is_column.ensures) ∙ (ap not c.if-not-is_column.true)))

pub matrix_start-s-requires : goal.matrix_start-s-requires
matrix_start-s-requires c = (c.requires, omega (arith, (stands _ _ (at c)).there))

pub slice_len-len-requires : goal.slice_len-len-requires
slice_len-len-requires c =
    let a = stands _ _ (at (goal.at.slice_len-len-requires c).Else-not-is_column) in
    let p = c.requires in (omega (arith, a.log, p.logs _ a.there (omega (arith, a.column)), p.shaped.sum), omega (arith, p.shaped.skip))

pub overflow_mul-result : goal.overflow_mul-result
overflow_mul-result c =
    omega (arith, offset_small _ _ _ _ c.requires _ (at (goal.at.overflow_mul-result c).Else-not-is_column) _ _ c.matrix_start-s.ensures c.slice_len-len.ensures)

pub overflow_add-result : goal.overflow_add-result
overflow_add-result c =
    omega (arith, end_small _ _ _ _ c.requires _ (at (goal.at.overflow_add-result c).Else-not-is_column) _ _ c.matrix_start-s.ensures c.slice_len-len.ensures)

pub returns : goal.returns
returns c =
    placed_is _ _ _ _ c.requires _ (at (goal.at.returns c).Else-not-is_column) _ _ c.matrix_start-s.ensures c.slice_len-len.ensures
